-- `taskfile::host::answer_byte` meets its contract: the last byte ends the transfer, any other goes on.
use borrow.Author.Tests.{eq-eqb, ne_eqb}
use Rattle.ground.specs.Tests.{choose◌then◌else◌}
use Rattle.taskfile.specs.Host.{answer_byte}
use Rattle.taskfile.proofs.host.answer_byte.Goals as goal

pub returns-then-f : goal.returns-then-f
unfolding answer_byte choose◌then◌else◌
returns-then-f c = rw (eq-eqb _ _ c.if-f.true, c.ended.ensures)

pub returns : goal.returns
unfolding answer_byte choose◌then◌else◌
returns c = rw (ne_eqb _ _ c.if-f.false, c.gone.ensures)
