-- K14: from PACKET to the last byte of the answer, for any packet, list, state, table and memory; true by joining the runs of packet, list and
-- answer, each of which begins where the one before it ends.
use Rattle.registerclaims.specs.ListRuns.{Untouched}
use Rattle.std.specs.Prelude.{ℕ, ◌-◌, ◌<◌, ◌≡◌, List, get_or, take}
use Rattle.taskfile.specs.declared.TaskFile.{TaskFile}
use Rattle.taskfile.specs.declared.Phase.TheVariants.{PacketRun}
use Rattle.taskfile.specs.declared.Access.TheVariants.{Data}
use Rattle.taskfile.specs.declared.Due.TheVariants.{Held}
use Rattle.taskfile.specs.TaskFile.{packet_bytes, count_of, bearing}
use Rattle.taskfile.specs.Run.{phase_of, left_of}
use Rattle.taskfile.specs.Host.{limited, packet_end, turn_of}
use Rattle.registerclaims.specs.Transfer.{Transfer, after_writes}
use Rattle.registerclaims.specs.WriteLaws.{within}

-- the record f at the packet's end: the packet p and "the host's byte count limit as held at the packet's end"
abbrev pub ending : TaskFile → List ℕ → TaskFile
ending f p = limited (within (bearing f p f.list) 11)

-- the 12 bytes p enter the packet of x
pub record Asks (p t : List ℕ) (x : Transfer) : Type 0 where
  -- "While the packet enters, 12 to 1 bytes are left of the run and the byte count stays as it was"; state and memory too
  pub phase : (j : ℕ) → j < packet_bytes → phase_of (after_writes (take j p) t x).file ≡ PacketRun
  pub left : (j : ℕ) → j < packet_bytes → left_of (after_writes (take j p) t x).file ≡ packet_bytes - j
  pub count : (j : ℕ) → j < packet_bytes → count_of (after_writes (take j p) t x).file ≡ count_of x.file
  pub quiet : (j : ℕ) → j < packet_bytes → Untouched x (after_writes (take j p) t x)
  -- before the last byte nothing more is due ..
  pub waits : (j : ℕ) → j < 11 → (turn_of (after_writes (take j p) t x).file Data (get_or p j 0)).due ≡ Held
  -- .. and at the last the packet is p
  pub last : turn_of (after_writes (take 11 p) t x).file Data (get_or p 11 0) ≡ packet_end (ending x.file p)
