-- `sessions::session::named` meets its contract: the two bytes that are tested are the descriptor's session and POINT.
use Rattle.std.proofs.Common.{arith}
use Rattle.std.proofs.lemmas.Grind.{common_steps}
use Rattle.ground.specs.Tests.{◌and◌}
use Rattle.table.specs.Row.{names}
use Rattle.sessions.proofs.session.named.Goals as goal

pub returns-then-wide-k : goal.returns-then-wide-k
unfolding names ◌and◌
returns-then-wide-k c = grind (arith, common_steps)

pub returns-else-wide-k : goal.returns-else-wide-k
unfolding names ◌and◌
returns-else-wide-k c = grind (arith, common_steps)
