-- `replay::line::put_counted` meets its contract: the totals, or that one of them is too large.
use Rattle.replay.specs.Line.{counted_line}
use Rattle.replay.proofs.line.put_counted.Goals as goal

pub returns-in-Ok : goal.returns-in-Ok
unfolding counted_line
returns-in-Ok c = rw c.in-Ok.is c.put_totals.ensures

pub returns-in-Err : goal.returns-in-Err
unfolding counted_line
returns-in-Err c = rw c.in-Err.is c.copy_front.ensures
