-- `taskfile::host::list_byte` meets its contract: the last byte performs the packet, any other goes on.
use borrow.Author.Tests.{eq-eqb, ne_eqb}
use Rattle.ground.specs.Tests.{choose◌then◌else◌}
use Rattle.taskfile.specs.Host.{list_byte}
use Rattle.taskfile.proofs.host.list_byte.Goals as goal

pub returns-then-at-eq-LIST : goal.returns-then-at-eq-LIST
unfolding list_byte choose◌then◌else◌
returns-then-at-eq-LIST c = rw (eq-eqb _ _ c.if-at-eq-LIST.true)

pub returns : goal.returns
unfolding list_byte choose◌then◌else◌
returns c = rw (ne_eqb _ _ c.if-at-eq-LIST.false, c.gone.ensures)
