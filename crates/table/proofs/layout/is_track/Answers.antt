-- `table::layout::is_track` meets its contract: the two tests are the definition's, in its order.
use Rattle.std.proofs.Common.{arith}
use Rattle.std.proofs.lemmas.Grind.{common_steps}
use Rattle.ground.specs.Tests.{◌and◌}
use Rattle.table.specs.Layout.{is_track}
use Rattle.table.proofs.layout.is_track.Goals as goal

pub returns-then-p-ge1 : goal.returns-then-p-ge1
unfolding is_track ◌and◌
returns-then-p-ge1 c = grind (arith, common_steps)

pub returns-else-p-ge1 : goal.returns-else-p-ge1
unfolding is_track ◌and◌
returns-else-p-ge1 c = grind (arith, common_steps)
