-- `replay::line::put_moved` meets its contract: the pieces are laid one after the other (`laid_more`).
use Rattle.ground.specs.Memory.{laid_more}
use Rattle.replay.specs.Line.{moved_line}
use Rattle.replay.proofs.line.put_moved.Goals as goal

pub returns : goal.returns
unfolding moved_line
returns c = laid_more (laid_more c.put_call-at.ensures c.next_state-at.ensures) c.copy_front-at.ensures
