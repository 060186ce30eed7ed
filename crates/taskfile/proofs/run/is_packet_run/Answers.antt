-- `taskfile::run::is_packet_run` meets its contract: each test that stops it is the definition's.
use Rattle.std.proofs.Common.{arith}
use Rattle.std.proofs.lemmas.Grind.{common_steps}
use Rattle.ground.specs.Tests.{◌and◌}
use Rattle.taskfile.specs.Run.{is_packet_run}
use Rattle.taskfile.proofs.run.is_packet_run.Goals as goal

pub returns-then-f-eq-PACKET-2 : goal.returns-then-f-eq-PACKET-2
unfolding is_packet_run ◌and◌
returns-then-f-eq-PACKET-2 c = grind (arith, common_steps)

pub returns-else-f-eq-PACKET-2 : goal.returns-else-f-eq-PACKET-2
unfolding is_packet_run ◌and◌
returns-else-f-eq-PACKET-2 c = grind (arith, common_steps)
