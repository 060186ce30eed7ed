-- `replay::line::next_decimals` meets its contract: the pieces are laid one after the other (`laid_more`).
use Rattle.ground.specs.Memory.{laid_more}
use Rattle.replay.specs.Line.{decimals}
use Rattle.replay.proofs.line.next_decimals.Goals as goal

pub returns : goal.returns
unfolding decimals
returns c = laid_more (laid_more c.next_decimal-at.ensures c.next_decimal-at-2.ensures) c.next_decimal-at-3.ensures
