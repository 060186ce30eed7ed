-- `replay::task::next_held` meets its contract: the pieces are laid one after the other (`laid_more`).
use Rattle.ground.specs.Memory.{laid_more}
use Rattle.replay.specs.Task.{held_text}
use Rattle.replay.proofs.task.next_held.Goals as goal

pub returns : goal.returns
unfolding held_text
returns c = laid_more (laid_more c.next_hex-at.ensures c.next_shown-at.ensures) c.next_three-at.ensures
