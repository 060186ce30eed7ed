-- `taskfile::host::packet_byte` meets its contract: behind the last byte the byte count is the limit.
use mathlib.Core.Path.{◌∙◌}
use borrow.Author.Tests.{eq-eqb, ne_eqb}
use Rattle.ground.specs.Tests.{choose◌then◌else◌}
use Rattle.taskfile.specs.Host.{packet_byte}
use Rattle.taskfile.proofs.host.packet_byte.Goals as goal

pub returns-then-at-eq-PACKET : goal.returns-then-at-eq-PACKET
unfolding packet_byte choose◌then◌else◌
returns-then-at-eq-PACKET c = c.packet_end.ensures ∙ rw (eq-eqb _ _ c.if-at-eq-PACKET.true, c.limit_of.ensures, c.count_of.ensures)

pub returns : goal.returns
unfolding packet_byte choose◌then◌else◌
returns c = rw (ne_eqb _ _ c.if-at-eq-PACKET.false)
