-- `replay::task::put_wrote` meets its contract: the pieces are laid one after the other (`laid_more`).
use Rattle.ground.specs.Memory.{laid_more}
use Rattle.replay.specs.Task.{wrote_line}
use Rattle.replay.proofs.task.put_wrote.Goals as goal

pub returns : goal.returns
unfolding wrote_line
returns c = laid_more (laid_more c.put_blocks-at.ensures c.next_stand-at.ensures) c.next_last-at.ensures
