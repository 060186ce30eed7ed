-- `table::row::free` meets its contract: the two tests are the definition's, in its order.
use Rattle.std.proofs.Common.{arith}
use Rattle.std.proofs.lemmas.Grind.{common_steps}
use Rattle.ground.specs.Tests.{◌and◌}
use Rattle.table.specs.Row.{free}
use Rattle.table.proofs.row.free.Goals as goal

pub returns-then-wide-eq5 : goal.returns-then-wide-eq5
unfolding free ◌and◌
returns-then-wide-eq5 c = grind (arith, common_steps)

pub returns-else-wide-eq5 : goal.returns-else-wide-eq5
unfolding free ◌and◌
returns-else-wide-eq5 c = grind (arith, common_steps)
