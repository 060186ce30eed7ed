-- `table::asked::extra_kept` meets its contract: the two tests are the definition's, in its order.
use Rattle.std.proofs.Common.{arith}
use Rattle.std.proofs.lemmas.Grind.{common_steps}
use Rattle.ground.specs.Tests.{◌and◌}
use Rattle.table.specs.Asked.{extra_kept}
use Rattle.table.proofs.asked.extra_kept.Goals as goal

pub returns-then-r-k : goal.returns-then-r-k
unfolding extra_kept ◌and◌
returns-then-r-k c = grind (arith, common_steps)

pub returns-else-r-k : goal.returns-else-r-k
unfolding extra_kept ◌and◌
returns-else-r-k c = grind (arith, common_steps)
