-- `taskfile::run::is_list_run` meets its contract: each test that stops it is the definition's.
use Rattle.std.proofs.Common.{arith}
use Rattle.std.proofs.lemmas.Grind.{common_steps}
use Rattle.ground.specs.Tests.{◌and◌}
use Rattle.taskfile.specs.Run.{is_list_run}
use Rattle.taskfile.proofs.run.is_list_run.Goals as goal

pub returns-then-f-eq-LIST : goal.returns-then-f-eq-LIST
unfolding is_list_run ◌and◌
returns-then-f-eq-LIST c = grind (arith, common_steps)

pub returns-else-f-eq-LIST : goal.returns-else-f-eq-LIST
unfolding is_list_run ◌and◌
returns-else-f-eq-LIST c = grind (arith, common_steps)
