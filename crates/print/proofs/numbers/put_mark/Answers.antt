-- `print::numbers::put_mark` meets its contract: nothing is laid before the first number, and else the mark.
use Rattle.ground.specs.Memory.{laid_none}
use Rattle.print.specs.Numbers.{mark_at-first, mark_at_later}
use Rattle.print.proofs.numbers.put_mark.Goals as goal

pub returns-then-i-eq0 : goal.returns-then-i-eq0
returns-then-i-eq0 c = rw (mark_at-first c.args.mark c.if-i-eq0.true) (laid_none _)

pub returns : goal.returns
returns c = rw (mark_at_later c.args.mark c.args.i c.if-i-eq0.false) c.copy_front.ensures
