-- `replay::task::put_reset` meets its contract: the pieces are laid one after the other (`laid_more`).
use Rattle.ground.specs.Memory.{laid_more}
use Rattle.replay.specs.Task.{reset_line}
use Rattle.replay.proofs.task.put_reset.Goals as goal

pub returns : goal.returns
unfolding reset_line
returns c = laid_more (laid_more c.put_call-at.ensures c.next_stand-at.ensures) c.copy_front-at.ensures
