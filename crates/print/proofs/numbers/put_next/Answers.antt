-- `print::numbers::put_next` meets its contract: mark and digits are laid one after the other (`laid_more`).
use Rattle.ground.specs.Memory.{laid_more}
use Rattle.print.proofs.numbers.put_next.Goals as goal

pub returns : goal.returns
returns c = laid_more c.put_mark-at.ensures c.put_decimal-at.ensures
