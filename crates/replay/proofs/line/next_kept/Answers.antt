-- `replay::line::next_kept` meets its contract: the pieces are laid one after the other (`laid_more`).
use Rattle.ground.specs.Memory.{laid_more}
use Rattle.replay.specs.Line.{kept_text}
use Rattle.replay.proofs.line.next_kept.Goals as goal

pub returns : goal.returns
unfolding kept_text
returns c = rw (← c.wide.ensures.same) (laid_more (laid_more c.next_play-at.ensures c.next_page-at.ensures) c.next_decimal-at.ensures)
