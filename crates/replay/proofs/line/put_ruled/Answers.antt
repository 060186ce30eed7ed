-- `replay::line::put_ruled` meets its contract: the pieces are laid one after the other (`laid_more`).
use Rattle.ground.specs.Memory.{laid_more}
use Rattle.replay.specs.Line.{ruled_call}
use Rattle.replay.proofs.line.put_ruled.Goals as goal

pub returns : goal.returns
unfolding ruled_call
returns c = laid_more c.put_call-at.ensures c.put_rule-at.ensures
