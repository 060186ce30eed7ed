-- `table::asked::holds` meets its contract: the two tests are the definition's, in its order.
use Rattle.std.proofs.Common.{arith}
use Rattle.std.proofs.lemmas.Grind.{common_steps}
use Rattle.ground.specs.Tests.{◌and◌}
use Rattle.table.specs.Asked.{holds}
use Rattle.table.proofs.asked.holds.Goals as goal

pub returns-then-r-le99 : goal.returns-then-r-le99
unfolding holds ◌and◌
returns-then-r-le99 c = grind (arith, common_steps)

pub returns-else-r-le99 : goal.returns-else-r-le99
unfolding holds ◌and◌
returns-else-r-le99 c = grind (arith, common_steps)
