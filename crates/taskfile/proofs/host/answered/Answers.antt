-- `taskfile::host::answered` meets its contract: bytes begin a run, and none end the transfer.
use mathlib.Core.Path.{◌∙◌}
use borrow.Author.Tests.{ne_eqb}
use Rattle.ground.specs.Tests.{choose◌then◌else◌}
use Rattle.taskfile.specs.Host.{answered}
use Rattle.taskfile.proofs.host.answered.Goals as goal

pub returns-then-n-eq0 : goal.returns-then-n-eq0
unfolding answered choose◌then◌else◌
returns-then-n-eq0 c = c.ended.ensures ∙ rw (c.holding-next.ensures, c.if-n-eq0.true)

pub returns : goal.returns
unfolding answered choose◌then◌else◌
returns c = c.begun.ensures ∙ rw (c.holding-next.ensures, ne_eqb _ _ c.if-n-eq0.false)
