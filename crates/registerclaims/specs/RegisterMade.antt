-- Which records calls make: each access leaves one whose reason says its run, since each run begins and goes on with its size in the byte
-- count.
use Rattle.std.specs.Prelude.{ℕ, ◌<◌, ◌≡◌, refl, ◌↔◌, List, [], ◌∷◌, length, eqb}
use Rattle.std.proofs.Common.{sym, ap, ◌∙◌, arith}
use Rattle.ground.specs.Tests.{choose◌then◌else◌}
use Rattle.drive.specs.declared.state.Drive.{Drive}
use Rattle.taskfile.specs.declared.TaskFile.{TaskFile}
use Rattle.taskfile.specs.declared.Phase.{Phase}
use Rattle.taskfile.specs.declared.Phase.TheVariants.{Idle, PacketRun, ListRun, AnswerRun}
use Rattle.taskfile.specs.declared.Access.{Access}
use Rattle.taskfile.specs.declared.Access.TheVariants.{Data, Read, Reset}
use Rattle.taskfile.specs.TaskFile.{started}
use Rattle.taskfile.specs.Run.{phase_of}
use Rattle.taskfile.specs.Host.{turn_of}
use Rattle.registers.specs.Registers.{stands, plain, step_of}
use Rattle.registerclaims.specs.RegisterRecord.{reason_of, Made, Call, after}
use Rattle.registerclaims.specs.RegisterMadeLaws.{idle-made, reset-made, step-made}

-- ---- made records

-- the record at the start is one
pub made-started : Made started
made-started = idle-made started refl refl (omega arith) (omega arith) refl

-- and so is what any access makes of one, refused or not, whatever drive state, table and memory meet it
pub made_kept : (f : TaskFile) (a : Access) (v : ℕ) (d : Drive) (t m : List ℕ) → Made f → v < 256 → Made (step_of f a v d t m).file
made_kept = step-made

-- reset makes one of every record, whatever its fields
pub made_by-reset : (f : TaskFile) (v : ℕ) (d : Drive) (t m : List ℕ) → length f.packet ≡ 12 → length f.list ≡ 16
    → Made (step_of f Reset v d t m).file
unfolding step_of turn_of
made_by-reset f v d t m p l = reset-made f p l

after-made : (f : TaskFile) (cs : List Call) → Made f → Made (after f cs)
unfolding after
after-made f [] h = h
after-made f (c ∷ cs) h = after-made (step_of f c.access c.byte c.state c.table c.memory).file cs (step-made f c.access c.byte c.state c.table c.memory h c.small)

-- so along any accesses from the start every record is one
pub made_always : (cs : List Call) → Made (after started cs)
made_always cs = after-made started cs made-started

-- ---- what the host sees of them

-- the run by its reason
abbrev phase_at : ℕ → Phase
phase_at n = choose eqb n 0x03 then Idle else (choose eqb n 0x01 then PacketRun else (choose eqb n 0x00 then ListRun else AnswerRun))

phase-back : (s : Phase) → phase_at (reason_of s) ≡ s
unfolding choose◌then◌else◌
phase-back Idle = refl
phase-back PacketRun = refl
phase-back ListRun = refl
phase-back AnswerRun = refl

-- "12 bytes (reason: CoD 1, IO 0)", list and answers "in runs (CoD 0; IO 0 and 1), status ends it (CoD 1, IO 1)": the reason is that of a run
-- exactly where the record is in that run, and 03h exactly where it is idle
pub made_reason : (f : TaskFile) → Made f → (s : Phase) → (f.reason ≡ reason_of s) ↔ (phase_of f ≡ s)
made_reason f M s =
    (λ h. sym (phase-back (phase_of f)) ∙ ap phase_at (sym M.reason ∙ h) ∙ phase-back s, λ h. M.reason ∙ ap reason_of h)

-- ---- records in no run

-- "A record that no call could have made is in no run: a data read or write there is 15", of any record that is in none; and the record stays
module _ (f : TaskFile) (v : ℕ) (d : Drive) (t m : List ℕ) (idle : phase_of f ≡ Idle) where
  pub no-run-read : step_of f Read v d t m ≡ stands f (plain 15 0 d)
  unfolding step_of turn_of
  no-run-read = rw idle

  pub no-run-write : step_of f Data v d t m ≡ stands f (plain 15 0 d)
  unfolding step_of turn_of
  no-run-write = rw idle
