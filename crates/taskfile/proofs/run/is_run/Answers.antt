-- `taskfile::run::is_run` meets its contract: each test that stops it is the definition's.
use Rattle.std.proofs.Common.{arith}
use Rattle.std.proofs.lemmas.Grind.{common_steps}
use Rattle.ground.specs.Tests.{◌and◌}
use Rattle.taskfile.specs.Run.{is_run}
use Rattle.taskfile.proofs.run.is_run.Goals as goal

pub returns-then-f : goal.returns-then-f
unfolding is_run ◌and◌
returns-then-f c = grind (arith, common_steps)

pub returns-else-f : goal.returns-else-f
unfolding is_run ◌and◌
returns-else-f c = grind (arith, common_steps)
