-- `table::asked::a0_kept` meets its contract: the two tests are the definition's, in its order.
use Rattle.std.proofs.Common.{arith}
use Rattle.std.proofs.lemmas.Grind.{common_steps}
use Rattle.ground.specs.Tests.{◌and◌}
use Rattle.table.specs.Asked.{a0_kept}
use Rattle.table.proofs.asked.a0_kept.Goals as goal

pub returns-then-kept : goal.returns-then-kept
unfolding a0_kept ◌and◌
returns-then-kept c = grind (arith, common_steps)

pub returns-else-kept : goal.returns-else-kept
unfolding a0_kept ◌and◌
returns-else-kept c = grind (arith, common_steps)
