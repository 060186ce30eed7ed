-- `replay::line::digit` meets its contract: its test is the definition's.
use Rattle.std.proofs.Common.{sym}
use Rattle.ground.specs.Tests.{when, unless}
use Rattle.replay.specs.Line.{digit}
use Rattle.replay.proofs.line.digit.Goals as goal

pub returns-then-b : goal.returns-then-b
unfolding digit
returns-then-b c = sym (when _ _ _ c.if-b.true)

pub returns : goal.returns
unfolding digit
returns c = sym (unless _ _ _ c.if-b.false)
