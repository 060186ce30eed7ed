-- `replay::line::put_outcome` meets its contract: the pieces are laid one after the other (`laid_more`).
use Rattle.ground.specs.Memory.{laid_more}
use Rattle.replay.specs.Line.{outcome_text}
use Rattle.replay.proofs.line.put_outcome.Goals as goal

pub returns : goal.returns
unfolding outcome_text
returns c = laid_more (laid_more c.put_ruled-at.ensures c.next_hex-at.ensures) c.next_decimals-at.ensures
