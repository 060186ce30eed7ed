-- `table::asked::climbs` meets its contract: the three tests are the definition's, in its order.
use Rattle.std.proofs.Common.{arith}
use Rattle.std.proofs.lemmas.Grind.{common_steps}
use Rattle.ground.specs.Tests.{◌and◌}
use Rattle.table.specs.Asked.{climbs}
use Rattle.table.proofs.asked.climbs.Goals as goal

pub returns-then-r-le74 : goal.returns-then-r-le74
unfolding climbs ◌and◌
returns-then-r-le74 c = grind (arith, common_steps)

pub returns-else-r-le74 : goal.returns-else-r-le74
unfolding climbs ◌and◌
returns-else-r-le74 c = grind (arith, common_steps)
