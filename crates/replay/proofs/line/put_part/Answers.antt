-- `replay::line::put_part` meets its contract: the pieces are laid one after the other (`laid_more`).
use Rattle.ground.specs.Memory.{laid_more}
use Rattle.replay.specs.Line.{part_line}
use Rattle.replay.proofs.line.put_part.Goals as goal

pub returns : goal.returns
unfolding part_line
returns c = rw c.number_and_rule-told.ensures at (laid_more (laid_more c.put_ruled-at.ensures c.next_summed-at.ensures) c.copy_front-at.ensures)
