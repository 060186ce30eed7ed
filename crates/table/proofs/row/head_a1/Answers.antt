-- `table::row::head_a1` meets its contract: the two tests are the definition's, in its order.
use Rattle.std.proofs.Common.{arith}
use Rattle.std.proofs.lemmas.Grind.{common_steps}
use Rattle.ground.specs.Tests.{◌and◌}
use Rattle.table.specs.Row.{head_a1}
use Rattle.table.proofs.row.head_a1.Goals as goal

pub returns-then-r-eq0 : goal.returns-then-r-eq0
unfolding head_a1 ◌and◌
returns-then-r-eq0 c = grind (arith, common_steps)

pub returns-else-r-eq0 : goal.returns-else-r-eq0
unfolding head_a1 ◌and◌
returns-else-r-eq0 c = grind (arith, common_steps)
