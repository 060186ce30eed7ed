-- `replay::line::put_totals` meets its contract: the pieces are laid one after the other (`laid_more`).
use Rattle.replay.specs.Line.{totals_line}
use Rattle.ground.specs.Memory.{laid_more}
use Rattle.replay.proofs.line.put_totals.Goals as goal

pub returns : goal.returns
unfolding totals_line
returns c =
    rw c.numbers.ensures at
    (laid_more
    (laid_more c.copy_front-at.ensures
    c.put_joined-at.ensures) c.copy_front-at-2.ensures)
