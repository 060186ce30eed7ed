-- `replay::task::next_stand` meets its contract: the pieces are laid one after the other (`laid_more`).
use Rattle.ground.specs.Memory.{laid_more}
use Rattle.replay.specs.Task.{stand_text}
use Rattle.replay.proofs.task.next_stand.Goals as goal

pub returns : goal.returns
unfolding stand_text
returns c = laid_more c.next_file-at.ensures c.next_state-at.ensures
