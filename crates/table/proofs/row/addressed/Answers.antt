-- `table::row::addressed` meets its contract: the two tests of the POINT are the definition's, in its order.
use Rattle.std.proofs.Common.{arith}
use Rattle.std.proofs.lemmas.Grind.{common_steps}
use Rattle.ground.specs.Tests.{◌or◌, choose◌then◌else◌}
use Rattle.table.specs.Row.{addressed}
use Rattle.table.proofs.row.addressed.Goals as goal

pub returns-then-r-eq-A2 : goal.returns-then-r-eq-A2
unfolding addressed ◌or◌ choose◌then◌else◌
returns-then-r-eq-A2 c = grind (arith, common_steps)

pub returns : goal.returns
unfolding addressed ◌or◌ choose◌then◌else◌
returns c = grind (arith, common_steps)
