-- `table::asked::kept` meets its contract: the three tests are the definition's, in its order.
use Rattle.std.proofs.Common.{arith}
use Rattle.std.proofs.lemmas.Grind.{common_steps}
use Rattle.ground.specs.Tests.{◌and◌}
use Rattle.table.specs.Row.{names}
use Rattle.table.specs.Asked.{kept}
use Rattle.table.proofs.asked.kept.Goals as goal

pub returns-then-r-p : goal.returns-then-r-p
unfolding kept names ◌and◌
returns-then-r-p c = grind (arith, common_steps)

pub returns-else-r-p : goal.returns-else-r-p
unfolding kept names ◌and◌
returns-else-r-p c = grind (arith, common_steps)
