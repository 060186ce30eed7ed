-- By what is due at it, an access makes at most one call on the drive, and everything else that it changes is the record.
use Rattle.std.specs.Prelude.{ℕ, ◌+◌, ◌≡◌, Bool, not, eqb}
use Rattle.std.proofs.Math.Path.{refl}
use Rattle.std.proofs.Common.{sym, ap, ◌∙◌, true≢false}
use Rattle.std.proofs.Math.Bool.{true, false}
use mathlib.Core.List.{List, [], ◌∷◌, ◌++◌, append_assoc, flat_map, head-eq_of_cons-eq, nil≢cons}
use Rattle.ground.specs.Tests.{◌and◌, choose◌then◌else◌, either}
use Rattle.drive.specs.declared.state.Drive.{Drive as State}
use Rattle.taskfile.specs.declared.TaskFile.{TaskFile}
use Rattle.taskfile.specs.declared.Phase.{Phase}
use Rattle.taskfile.specs.declared.Phase.TheVariants.{Idle, PacketRun, ListRun, AnswerRun}
use Rattle.taskfile.specs.declared.Access.{Access}
use Rattle.taskfile.specs.declared.Access.TheVariants.{Data, Features, CountLow, CountHigh, Drive, Command, Nowhere, Read, Reset}
use Rattle.taskfile.specs.declared.Due.{Due}
use Rattle.taskfile.specs.declared.Due.TheVariants.{Refused, Held, Performs, PerformsListed, Gives, Resets}
use Rattle.taskfile.specs.declared.Turn.{Turn}
use Rattle.taskfile.specs.TaskFile.{packet_bytes, list_bytes, reset}
use Rattle.taskfile.specs.Run.{takes_list, phase_of}
use Rattle.taskfile.specs.Host.{held, answered, packet_end, packet_byte, list_byte, answer_byte, data_turn, read_turn, write_turn, command_turn, turn_by, turn_of}
use Rattle.registers.specs.declared.Stepped.{Stepped}
use Rattle.registers.specs.Registers.{gives, step_by, step_of, memory_by, memory_of}
use Rattle.claims.specs.Telling.{is_good as is_good_answer}
use Rattle.claims.specs.Call as drives
use Rattle.claims.specs.Call.{by_default, powering, packet}
use Rattle.claims.specs.History.{history-append}
use Rattle.registerclaims.specs.RegisterCall.{Console, is_outside, Call, accessing, outside, answer, next, event, history, final, turn, due_call, target_call, target_calls, is_good}
use Rattle.registerclaims.specs.RegisterHistory.{events_of_target, packet_with, data_call, access_call, Completed, due_answer, due_next}

-- ---- the drive state

gives_state : (f n : TaskFile) (d : State) (m : List ℕ) → (gives f n d m).answer.state ≡ d
unfolding gives
gives_state f n d m = either (λ (r : Stepped). r.answer.state ≡ d) _ (λ h. refl) (λ h. refl)

due_state : (u : Due) (f n : TaskFile) (d : State) (t m : List ℕ) → (step_by u f n d t m).answer.state ≡ drives.final d (due_call u n t m)
due_state Refused f n d t m = refl
due_state Held f n d t m = refl
due_state Performs f n d t m = refl
due_state PerformsListed f n d t m = refl
due_state Gives f n d t m = gives_state f n d m
due_state Resets f n d t m = refl

-- of one call
pub target_state : (c : Call) (s : Console) → (next c s).drive ≡ drives.final s.drive (target_call c s)
unfolding step_of
target_state (accessing a v t m) s = due_state (turn s a v).due s.file (turn s a v).file s.drive t m
target_state (outside c q) s = refl

drive-final : (d : State) (cs ds : List drives.Call) → drives.final d (cs ++ ds) ≡ drives.final (drives.final d cs) ds
drive-final d [] ds = refl
drive-final d (c ∷ cs) ds = drive-final (drives.next c d) cs ds

-- "that call counts for demand 3": for any record and any state, made by calls or not, the state after any calls on the board is the one after
-- the calls that they come to on the drive
pub target-history : (s : Console) (calls : List Call) → (final s calls).drive ≡ drives.final s.drive (target_calls s calls)
target-history s [] = refl
target-history s (c ∷ cs) =
    target-history (next c s) cs
    ∙ ap (λ (d : State). drives.final d (target_calls (next c s) cs)) (target_state c s)
    ∙ sym (drive-final s.drive (target_call c s) (target_calls (next c s) cs))

-- the drive's history is made of them, each in its place
pub target_events : (s : Console) (calls : List Call) → drives.history s.drive (target_calls s calls) ≡ flat_map events_of_target (history s calls)
unfolding flat_map
target_events s [] = refl
target_events s (c ∷ cs) =
    history-append drives.answer drives.next s.drive (target_call c s) (target_calls (next c s) cs)
    ∙ ap (λ (d : State). events_of_target (event c s) ++ drives.history d (target_calls (next c s) cs)) (sym (target_state c s))
    ∙ ap (λ (h : List drives.Happening). events_of_target (event c s) ++ h) (target_events (next c s) cs)

-- the calls on the drive go on where they were left
pub target-append : (s : Console) (cs ds : List Call) → target_calls s (cs ++ ds) ≡ target_calls s cs ++ target_calls (final s cs) ds
target-append s [] ds = refl
target-append s (c ∷ cs) ds =
    ap (λ (l : List drives.Call). target_call c s ++ l) (target-append (next c s) cs ds)
    ∙ sym (append_assoc (target_call c s) (target_calls (next c s) cs) (target_calls (final (next c s) cs) ds))

module _ (f : TaskFile) (v : ℕ) (t m : List ℕ) where
  abbrev call_of : Turn → List drives.Call
  call_of r = due_call r.due r.file t m

  -- b: the byte is the last; c: the packet takes a list
  packet-go : (b c : Bool) (x y z : TaskFile)
      → call_of (choose b then (choose c then held x else record { due = Performs; file = y }) else held z)
      ≡ (choose b and not c then packet y.packet t [] m ∷ [] else [])
  unfolding choose◌then◌else◌ ◌and◌
  packet-go true true x y z = refl
  packet-go true false x y z = refl
  packet-go false c x y z = refl

  packet-call : call_of (packet_byte f v) ≡ data_call PacketRun f v t m
  unfolding packet_byte packet_end
  packet-call = packet-go (eqb (f.at + 1) packet_bytes) (takes_list (packet_with f v)) _ _ _

  list-go : (b : Bool) (x y : TaskFile)
      → call_of (choose b then record { due = PerformsListed; file = x } else held y) ≡ (choose b then packet x.packet t x.list m ∷ [] else [])
  unfolding choose◌then◌else◌
  list-go true x y = refl
  list-go false x y = refl

  list-call : call_of (list_byte f v) ≡ data_call ListRun f v t m
  unfolding list_byte
  list-call = list-go (eqb (f.at + 1) list_bytes) _ _

  data-call : (r : Phase) → call_of (data_turn r f v) ≡ data_call r f v t m
  data-call Idle = refl
  data-call PacketRun = packet-call
  data-call ListRun = list-call
  data-call AnswerRun = refl

  read-call : (r : Phase) → call_of (read_turn r f) ≡ []
  unfolding answer_byte
  read-call Idle = refl
  read-call PacketRun = refl
  read-call ListRun = refl
  read-call AnswerRun = refl

  write-call : (r : Phase) (w : Turn) → call_of w ≡ [] → call_of (write_turn r f w) ≡ []
  write-call Idle w h = h
  write-call PacketRun w h = refl
  write-call ListRun w h = refl
  write-call AnswerRun w h = refl

  command-call : call_of (command_turn f v) ≡ []
  command-call = either (λ (w : Turn). call_of w ≡ []) _ (λ h. refl) (λ h. refl)

  turn-call : (a : Access) → call_of (turn_by a (phase_of f) f v) ≡ access_call a f v t m
  turn-call Data = data-call (phase_of f)
  turn-call Reset = refl
  turn-call Features = write-call (phase_of f) _ refl
  turn-call CountLow = write-call (phase_of f) _ refl
  turn-call CountHigh = write-call (phase_of f) _ refl
  turn-call Drive = write-call (phase_of f) _ refl
  turn-call Command = write-call (phase_of f) _ command-call
  turn-call Nowhere = write-call (phase_of f) _ refl
  turn-call Read = read-call (phase_of f)

-- "The target performs a packet at the call that completes it and its list", and at no other; a reset powers on; nothing else reaches the target
pub target_exactly : (s : Console) (a : Access) (v : ℕ) (t m : List ℕ) → target_call (accessing a v t m) s ≡ access_call a s.file v t m
unfolding turn_of
target_exactly s a v t m = turn-call s.file v t m a

due-completed : (u : Due) (f n : TaskFile) (d : State) (t m : List ℕ) (c : drives.Call) → due_call u n t m ≡ c ∷ [] → is_outside c ≡ false
    → Completed n (due_answer u f n d t m) (due_next u f n d t m) (drives.event c d)
due-completed Refused f n d t m c h q = absurd (nil≢cons h)
due-completed Held f n d t m c h q = absurd (nil≢cons h)
due-completed Performs f n d t m c h q =
    rw (← head-eq_of_cons-eq h)
    (record { number = refl; rule = refl; start = refl; count = refl; memory = refl; drive = refl; file = refl })
due-completed PerformsListed f n d t m c h q =
    rw (← head-eq_of_cons-eq h)
    (record { number = refl; rule = refl; start = refl; count = refl; memory = refl; drive = refl; file = refl })
due-completed Gives f n d t m c h q = absurd (nil≢cons h)
due-completed Resets f n d t m c h q = absurd (true≢false (ap is_outside (head-eq_of_cons-eq h) ∙ q))

due_number : (u : Due) (f n : TaskFile) (d : State) (t m : List ℕ) {c : drives.Call} → due_call u n t m ≡ c ∷ []
    → (step_by u f n d t m).answer.number ≡ (drives.answer c d).number
due_number Refused f n d t m h = absurd (nil≢cons h)
due_number Held f n d t m h = absurd (nil≢cons h)
due_number Performs f n d t m h = rw (← head-eq_of_cons-eq h)
due_number PerformsListed f n d t m h = rw (← head-eq_of_cons-eq h)
due_number Gives f n d t m h = absurd (nil≢cons h)
due_number Resets f n d t m h = rw (← head-eq_of_cons-eq h)

due_memory : (u : Due) (n : TaskFile) (d : State) (t m : List ℕ) → due_call u n t m ≡ [] → memory_by u n d t m ≡ m
due_memory Refused n d t m h = refl
due_memory Held n d t m h = refl
due_memory Performs n d t m h = absurd (nil≢cons (sym h))
due_memory PerformsListed n d t m h = absurd (nil≢cons (sym h))
due_memory Gives n d t m h = refl
due_memory Resets n d t m h = refl

-- "A refusal by the target is handed on", and so is all of its answer
pub target-completed : (s : Console) (a : Access) (v : ℕ) (t m : List ℕ) {p u l n : List ℕ} → target_call (accessing a v t m) s ≡ packet p u l n ∷ []
    → Completed (turn s a v).file (answer (accessing a v t m) s) (next (accessing a v t m) s) (drives.event (packet p u l n) s.drive)
unfolding step_of memory_of
target-completed s a v t m {p} {u} {l} {n} h =
    due-completed (turn s a v).due s.file (turn s a v).file s.drive t m (packet p u l n) h refl

-- any call that reaches the target hands the target's number back
pub target_number : (c : Call) (s : Console) {b : drives.Call} → target_call c s ≡ b ∷ [] → (answer c s).given.number ≡ (drives.answer b s.drive).number
unfolding step_of
target_number (accessing a v t m) s h = due_number (turn s a v).due s.file (turn s a v).file s.drive t m h
target_number (outside c q) s h = ap (λ (x : drives.Call). (drives.answer x s.drive).number) (head-eq_of_cons-eq h)

-- the record holds the answer's status
pub answered_status : (f : TaskFile) (s n : ℕ) → (answered f s n).status ≡ s
unfolding answered
answered_status f s n = either (λ (g : TaskFile). g.status ≡ s) _ (λ h. refl) (λ h. refl)

-- "GOOD" is read off number and status register as off the drive's answer
pub target-good : (s : Console) (a : Access) (v : ℕ) (t m : List ℕ) {p u l n : List ℕ} → target_call (accessing a v t m) s ≡ packet p u l n ∷ []
    → is_good (event (accessing a v t m) s) ≡ is_good_answer (drives.answer (packet p u l n) s.drive)
target-good s a v t m h = let w = target-completed s a v t m h in rw (w.number, w.file, answered_status)

-- an access that reaches the target in no way leaves drive state and response memory as they were
pub target_none : (s : Console) (a : Access) (v : ℕ) (t m : List ℕ) → target_call (accessing a v t m) s ≡ []
    → ((next (accessing a v t m) s).drive ≡ s.drive) × ((answer (accessing a v t m) s).memory ≡ m)
unfolding memory_of
target_none s a v t m h = (
  target_state (accessing a v t m) s ∙ ap (drives.final s.drive) h,
  due_memory (turn s a v).due (turn s a v).file s.drive t m h,
)

-- "Reset puts 14h and EBh in the byte count and ends any transfer", and is a power-on; the response memory stays as it was
pub target-reset : (s : Console) (v : ℕ) (t m : List ℕ)
    → (next (accessing Reset v t m) s ≡ record { file = reset s.file; drive = drives.next (powering by_default) s.drive })
    × ((answer (accessing Reset v t m) s).memory ≡ m)
unfolding step_of memory_of turn_of
target-reset s v t m = (refl, refl)

-- ".. even if tray calls come between its runs": they leave the record as it was
pub target-between : (s : Console) (c : drives.Call) (q : is_outside c ≡ true) → (next (outside c q) s).file ≡ s.file
target-between s c q = refl
