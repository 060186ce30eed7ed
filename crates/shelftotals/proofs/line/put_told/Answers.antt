-- `shelftotals::line::put_told` meets its contract: the thirteen lines of totals, or the one line.
use Rattle.shelftotals.specs.Told.{told}
use Rattle.shelftotals.proofs.line.put_told.Goals as goal

pub returns-in-Ok : goal.returns-in-Ok
unfolding told
returns-in-Ok c = rw c.in-Ok.is c.put_lines.ensures

pub returns-in-Err : goal.returns-in-Err
unfolding told
returns-in-Err c = rw c.in-Err.is c.copy_front.ensures
