-- `replay::line::put_address` meets its contract: the pieces are laid one after the other (`laid_more`).
use Rattle.ground.specs.Memory.{laid_more}
use Rattle.replay.specs.Line.{address_line}
use Rattle.replay.proofs.line.put_address.Goals as goal

pub returns : goal.returns
unfolding address_line
returns c = laid_more (laid_more c.put_call-at.ensures c.next_decimal-at.ensures) c.copy_front-at.ensures
