-- `print::numbers::put_joined` meets its contract: the numbers so far are laid, and the next one goes into the rest that begins where they
-- ended (`laid_more`).
use Rattle.ground.specs.Memory.{Laid}
use Rattle.print.specs.Numbers.{joined_to}
use Rattle.print.proofs.numbers.put_joined.Given as goal

abbrev pub invariant-loop-i : goal.invariant-loop-i
invariant-loop-i l = Laid l.initial.out (joined_to l.mark l.numbers l.i) l.at l.out
