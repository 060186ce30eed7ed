-- `taskfile::host::command_turn` meets its contract: A0h is held while idle, and another command is refused in every phase.
use mathlib.Core.Path.{sym, ◌∙◌}
use borrow.Author.Tests.{ne_eqb}
use Rattle.ground.specs.Tests.{choose◌then◌else◌}
use Rattle.taskfile.specs.Run.{phase_of}
use Rattle.taskfile.specs.HostLaws.{write_turn-refused}
use Rattle.taskfile.proofs.host.command_turn.Goals as goal

pub returns-then-v-eq-PACKET_COMMAND : goal.returns-then-v-eq-PACKET_COMMAND
unfolding choose◌then◌else◌
returns-then-v-eq-PACKET_COMMAND c = rw c.if-v-eq-PACKET_COMMAND.true (c.held_turn.ensures ∙ rw c.placed.ensures)

pub returns : goal.returns
unfolding choose◌then◌else◌
returns c = rw (ne_eqb _ _ c.if-v-eq-PACKET_COMMAND.false) (c.refused.ensures ∙ sym (write_turn-refused (phase_of c.args.f) _))
