-- `taskfile::run::limit_of` meets its contract: each test that stops it is the definition's.
use borrow.Author.Tests.{ne_eqb}
use Rattle.ground.specs.Tests.{choose◌then◌else◌}
use Rattle.taskfile.specs.Run.{limit_of}
use Rattle.taskfile.proofs.run.limit_of.Goals as goal

pub returns-then-count-eq0 : goal.returns-then-count-eq0
unfolding limit_of choose◌then◌else◌
returns-then-count-eq0 c = rw c.if-count-eq0.true

pub returns-then-count-eq1 : goal.returns-then-count-eq1
unfolding limit_of choose◌then◌else◌
returns-then-count-eq1 c = rw c.if-count-eq1.true

pub returns : goal.returns
unfolding limit_of choose◌then◌else◌
returns c = rw (ne_eqb _ _ c.if-count-eq0.false, ne_eqb _ _ c.if-count-eq1.false)
