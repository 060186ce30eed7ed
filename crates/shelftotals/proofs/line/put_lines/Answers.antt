-- `shelftotals::line::put_lines` meets its contract: the numbers and the last line end are laid one after the other (`laid_more`).
use Rattle.ground.specs.Memory.{laid_more}
use Rattle.shelftotals.specs.Told.{lines}
use Rattle.shelftotals.proofs.line.put_lines.Goals as goal

pub returns : goal.returns
unfolding lines
returns c = rw c.numbers.ensures at (laid_more c.put_joined-at.ensures c.copy_front-at.ensures)
