-- `taskfile::run::phase_of` meets its contract: the tests come in the definition's order.
use mathlib.Core.Path.{sym, ◌∙◌}
use Rattle.ground.specs.Tests.{choose◌then◌else◌}
use Rattle.taskfile.specs.Run.{phase_of}
use Rattle.taskfile.proofs.run.phase_of.Goals as goal

pub returns-then-is_packet_run : goal.returns-then-is_packet_run
unfolding phase_of choose◌then◌else◌
returns-then-is_packet_run c = rw (sym c.is_packet_run.ensures ∙ c.if-is_packet_run.true)

pub returns-then-is_list_run : goal.returns-then-is_list_run
unfolding phase_of choose◌then◌else◌
returns-then-is_list_run c = rw (sym c.is_packet_run.ensures ∙ c.if-is_packet_run.false, sym c.is_list_run.ensures ∙ c.if-is_list_run.true)

pub returns-then-is_answer_run : goal.returns-then-is_answer_run
unfolding phase_of choose◌then◌else◌
returns-then-is_answer_run c = rw (sym c.is_packet_run.ensures ∙ c.if-is_packet_run.false, sym c.is_list_run.ensures ∙ c.if-is_list_run.false, sym c.is_answer_run.ensures ∙ c.if-is_answer_run.true)

pub returns : goal.returns
unfolding phase_of choose◌then◌else◌
returns c = rw (sym c.is_packet_run.ensures ∙ c.if-is_packet_run.false, sym c.is_list_run.ensures ∙ c.if-is_list_run.false, sym c.is_answer_run.ensures ∙ c.if-is_answer_run.false)
