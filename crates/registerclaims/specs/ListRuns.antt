-- K14: K4's list enters in runs; true since each write lays the next byte, and a run's writes reach where the next piece begins.
use Rattle.std.specs.Prelude.{ℕ, ◌≤◌, ◌<◌, ◌≡◌, List, length, get_or, take}
use Rattle.drive.specs.declared.state.Drive.{Drive}
use Rattle.taskfile.specs.declared.TaskFile.{TaskFile}
use Rattle.taskfile.specs.declared.Turn.{Turn}
use Rattle.taskfile.specs.declared.Phase.TheVariants.{ListRun}
use Rattle.taskfile.specs.declared.Access.TheVariants.{Data}
use Rattle.taskfile.specs.declared.Due.TheVariants.{Held, PerformsListed}
use Rattle.taskfile.specs.TaskFile.{list_bytes}
use Rattle.taskfile.specs.Run.{phase_of}
use Rattle.taskfile.specs.Host.{turn_of}
use Rattle.registerclaims.specs.Cut.{cut, rounded_up}
use Rattle.registerclaims.specs.Along.{along, Listing, Shows}
use Rattle.registerclaims.specs.Transfer.{Transfer, transfer_of, after_writes, feed, fed}

-- "The target performs a packet at the call that completes it and its list": with the list l, and the packet and the limit as x has them
pub record Completes (l : List ℕ) (x : TaskFile) (w : Turn) : Type 0 where
  pub due : w.due ≡ PerformsListed
  pub list : w.file.list ≡ l
  pub packet : w.file.packet ≡ x.packet
  pub limit : w.file.limit ≡ x.limit

-- state and memory are as they were
pub record Untouched (x y : Transfer) : Type 0 where
  pub state : y.state ≡ x.state
  pub memory : y.memory ≡ x.memory

-- the bytes l enter x in runs of at most m
pub record Enters (m : ℕ) (l t : List ℕ) (x : Transfer) : Type 0 where
  -- the first k runs of the host are the first k pieces
  pub runs : (k : ℕ) → feed k l t x ≡ take k (cut m l)
  -- behind fewer runs than the quotient of length by run size, rounded up, there is one more ..
  pub going : (k : ℕ) → k < rounded_up (length l) m → phase_of (fed k l t x).file ≡ ListRun
  -- .. and behind as many all is written
  pub done : (k : ℕ) → rounded_up (length l) m ≤ k → fed k l t x ≡ after_writes l t x
  -- behind each byte
  pub shows : (j : ℕ) → j < length l → Shows ListRun m l j (after_writes (take j l) t x).file
  -- before the last byte nothing more is due, and state and memory are as they were
  pub waits : (j : ℕ) → j < 15 → (turn_of (after_writes (take j l) t x).file Data (get_or l j 0)).due ≡ Held
  pub quiet : (j : ℕ) → j ≤ 15 → Untouched x (after_writes (take j l) t x)
  -- and at the last the target performs
  pub last : Completes l x.file (turn_of (after_writes (take 15 l) t x).file Data (get_or l 15 0))

-- the runs over a record along its transfer
module _ (f : TaskFile) (a : Listing f) (l : List ℕ) (x : length l ≡ list_bytes) (y : length f.list ≡ list_bytes) (d : Drive) (t m : List ℕ) where
  abbrev pub start : Transfer
  start = transfer_of (along f 0) d m
