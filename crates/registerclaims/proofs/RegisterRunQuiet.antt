-- A data write in a run in which a board is live completes no packet.
use Rattle.std.specs.Prelude.{ℕ, ◌≡◌, refl, true, false}
use Rattle.std.proofs.lemmas.Bool.{false≢true}
use mathlib.Core.List.{List}
use Rattle.taskfile.specs.declared.TaskFile.{TaskFile}
use Rattle.taskfile.specs.declared.Phase.{Phase}
use Rattle.taskfile.specs.declared.Phase.TheVariants.{Idle, PacketRun, ListRun, AnswerRun}
use Rattle.registerclaims.specs.RegisterCall.{gives_answer}
use Rattle.registerclaims.specs.RegisterHistory.{data_call}
use Rattle.registerclaims.specs.RegisterTwoRuns.{any_packet}

-- in an answer run no access completes a packet, so while a board is live none is free
pub run_quiet : (r : Phase) (f : TaskFile) (v : ℕ) (t m : List ℕ) → gives_answer r ≡ true → any_packet (data_call r f v t m) ≡ false
run_quiet Idle f v t m h = absurd (false≢true h)
run_quiet PacketRun f v t m h = absurd (false≢true h)
run_quiet ListRun f v t m h = absurd (false≢true h)
run_quiet AnswerRun f v t m h = refl
