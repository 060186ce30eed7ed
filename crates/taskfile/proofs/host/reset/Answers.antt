-- `taskfile::host::reset` meets its contract: the registers are put, and the transfer is ended.
use mathlib.Core.Path.{◌∙◌}
use Rattle.taskfile.proofs.host.reset.Goals as goal

pub returns : goal.returns
returns c = c.ended.ensures ∙ rw c.holding.ensures
