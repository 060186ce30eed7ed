-- `cue::write::is_described` meets its contract: the three tests are the definition's, the last of what is kept of the tracks.
use Rattle.std.proofs.Common.{arith}
use Rattle.ground.specs.TestValues.{test_values}
use Rattle.cue.specs.Sheet.{is_described}
use Rattle.cue.specs.SpanLaws.{is_run-numbered}
use Rattle.cue.proofs.write.is_described.Goals as goal

pub returns-then-every_adr : goal.returns-then-every_adr
unfolding is_described
returns-then-every_adr c = grind (arith, test_values, is_run-numbered _ c.requires)

pub returns-else-every_adr : goal.returns-else-every_adr
unfolding is_described
returns-else-every_adr c = grind (arith, test_values, is_run-numbered _ c.requires)
