-- `replay::task::next_last` meets its contract: the pieces are laid one after the other (`laid_more`).
use Rattle.ground.specs.Memory.{laid_more}
use Rattle.replay.specs.Task.{last_text}
use Rattle.replay.proofs.task.next_last.Goals as goal

pub returns : goal.returns
unfolding last_text
returns c = laid_more c.next_sum-at.ensures c.copy_front-at.ensures
