-- `replay::line::put_call` meets its contract: the pieces are laid one after the other (`laid_more`).
use Rattle.ground.specs.Memory.{laid_more}
use Rattle.replay.specs.Line.{call}
use Rattle.replay.proofs.line.put_call.Goals as goal

pub returns : goal.returns
unfolding call
returns c = rw (← c.wide.ensures.same) (laid_more c.copy_front-at.ensures c.next_decimal-at.ensures)
