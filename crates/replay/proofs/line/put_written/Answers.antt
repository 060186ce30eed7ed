-- `replay::line::put_written` meets its contract: the pieces are laid one after the other (`laid_more`).
use Rattle.ground.specs.Memory.{laid_more}
use Rattle.replay.specs.Line.{written_line}
use Rattle.replay.proofs.line.put_written.Goals as goal

pub returns : goal.returns
unfolding written_line
returns c =
    rw c.number_and_len-told.ensures at (laid_more (laid_more c.put_call-at.ensures c.next_summed-at.ensures) c.copy_front-at.ensures)
