-- `replay::task::put_given` meets its contract: the pieces are laid one after the other (`laid_more`).
use Rattle.ground.specs.Memory.{laid_more}
use Rattle.replay.specs.Task.{given_text}
use Rattle.replay.proofs.task.put_given.Goals as goal

pub returns : goal.returns
unfolding given_text
returns c = laid_more c.put_call-at.ensures c.next_hex-at.ensures
