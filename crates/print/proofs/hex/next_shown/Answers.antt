-- `print::hex::next_shown` meets its contract: space and digits are laid one after the other (`laid_more`).
use Rattle.ground.specs.Memory.{laid_more}
use Rattle.print.proofs.hex.next_shown.Goals as goal

pub returns : goal.returns
returns c = laid_more c.copy_front-at.ensures c.put_shown-at.ensures
