-- `taskfile::host::read_turn` meets its contract: a record in a run has a next byte.
use Rattle.std.proofs.Common.{sym, ◌∙◌}
use Rattle.taskfile.specs.RunLaws.{phase_of-answer}
use Rattle.taskfile.proofs.host.read_turn.Goals as goal

pub answer_byte-requires : goal.answer_byte-requires
answer_byte-requires c = (phase_of-answer c.args.f (sym c.phase_of.ensures ∙ c.in-AnswerRun.is)).0
