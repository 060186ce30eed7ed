-- `replay::line::next_summed` meets its contract: the pieces are laid one after the other (`laid_more`).
use Rattle.ground.specs.Memory.{laid_more}
use Rattle.replay.specs.Line.{summed_text}
use Rattle.replay.proofs.line.next_summed.Goals as goal

pub returns : goal.returns
unfolding summed_text
returns c = laid_more c.next_decimal-at.ensures c.next_sum-at.ensures
