-- `replay::line::put_changer` meets its contract: the pieces are laid one after the other (`laid_more`).
use Rattle.ground.specs.Memory.{laid_more}
use Rattle.replay.specs.Line.{changer_line}
use Rattle.replay.proofs.line.put_changer.Goals as goal

pub returns : goal.returns
unfolding changer_line
returns c = rw (← c.front.ensures.shows) (laid_more (laid_more c.put_outcome-at.ensures c.next_changer-at.ensures) c.next_memory-at.ensures)
