-- `replay::task::put_read` meets its contract: the pieces are laid one after the other (`laid_more`).
use Rattle.ground.specs.Memory.{laid_more}
use Rattle.replay.specs.Task.{read_line}
use Rattle.replay.proofs.task.put_read.Goals as goal

pub returns : goal.returns
unfolding read_line
returns c = laid_more (laid_more c.put_given-at.ensures c.next_file-at.ensures) c.next_last-at.ensures
