-- `table::layout::is_extra` meets its contract: each test is one of the definition's two, in its order.
use Rattle.std.proofs.Common.{arith}
use Rattle.std.proofs.lemmas.Grind.{common_steps}
use Rattle.ground.specs.Tests.{◌or◌}
use Rattle.table.specs.Layout.{is_extra}
use Rattle.table.proofs.layout.is_extra.Goals as goal

pub returns-then-p-eq-B0 : goal.returns-then-p-eq-B0
unfolding is_extra ◌or◌
returns-then-p-eq-B0 c = grind (arith, common_steps)

pub returns-else-p-eq-B0 : goal.returns-else-p-eq-B0
unfolding is_extra ◌or◌
returns-else-p-eq-B0 c = grind (arith, common_steps)
