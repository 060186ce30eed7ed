-- `print::decimal::next_decimal` meets its contract: space and digits are laid one after the other (`laid_more`).
use Rattle.ground.specs.Memory.{laid_more}
use Rattle.print.proofs.decimal.next_decimal.Goals as goal

pub returns : goal.returns
returns c = laid_more c.copy_front-at.ensures c.put_decimal-at.ensures
