-- `taskfile::host::packet_end` meets its contract: the packet says whether it takes a list.
use mathlib.Core.Path.{sym, ◌∙◌}
use Rattle.ground.specs.Tests.{choose◌then◌else◌}
use Rattle.taskfile.specs.Host.{packet_end}
use Rattle.taskfile.proofs.host.packet_end.Goals as goal

pub returns-then-takes_list : goal.returns-then-takes_list
unfolding packet_end choose◌then◌else◌
returns-then-takes_list c = rw (sym c.takes_list.ensures ∙ c.if-takes_list.true, c.begun.ensures)

pub returns : goal.returns
unfolding packet_end choose◌then◌else◌
returns c = rw (sym c.takes_list.ensures ∙ c.if-takes_list.false)
