-- `table::row::simple` meets its contract: the three tests are the definition's, in its order.
use Rattle.std.proofs.Common.{arith}
use Rattle.std.proofs.lemmas.Grind.{common_steps}
use Rattle.ground.specs.Tests.{◌and◌}
use Rattle.table.specs.Row.{simple}
use Rattle.table.proofs.row.simple.Goals as goal

pub returns-then-r-eq0 : goal.returns-then-r-eq0
unfolding simple ◌and◌
returns-then-r-eq0 c = grind (arith, common_steps)

pub returns-else-r-eq0 : goal.returns-else-r-eq0
unfolding simple ◌and◌
returns-else-r-eq0 c = grind (arith, common_steps)
