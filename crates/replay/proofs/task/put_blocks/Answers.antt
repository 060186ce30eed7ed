-- `replay::task::put_blocks` meets its contract: the pieces are laid one after the other (`laid_more`).
use Rattle.ground.specs.Memory.{laid_more}
use Rattle.replay.specs.Task.{blocks_text}
use Rattle.replay.proofs.task.put_blocks.Goals as goal

pub returns : goal.returns
unfolding blocks_text
returns c = laid_more (laid_more c.put_ruled-at.ensures c.next_decimal-at.ensures) c.next_decimal-at-2.ensures
