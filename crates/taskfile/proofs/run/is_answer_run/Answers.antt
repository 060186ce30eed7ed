-- `taskfile::run::is_answer_run` meets its contract: each test that stops it is the definition's.
use Rattle.std.proofs.Common.{arith}
use Rattle.std.proofs.lemmas.Grind.{common_steps}
use Rattle.ground.specs.Tests.{◌and◌}
use Rattle.taskfile.specs.Run.{is_answer_run}
use Rattle.taskfile.proofs.run.is_answer_run.Goals as goal

pub returns-then-f-le-BOUND : goal.returns-then-f-le-BOUND
unfolding is_answer_run ◌and◌
returns-then-f-le-BOUND c = grind (arith, common_steps)

pub returns-else-f-le-BOUND : goal.returns-else-f-le-BOUND
unfolding is_answer_run ◌and◌
returns-else-f-le-BOUND c = grind (arith, common_steps)
