-- `replay::line::next_memory` meets its contract: the pieces are laid one after the other (`laid_more`).
use Rattle.ground.specs.Memory.{laid_more}
use Rattle.replay.specs.Line.{memory_text}
use Rattle.replay.proofs.line.next_memory.Goals as goal

pub returns : goal.returns
unfolding memory_text
returns c = laid_more (laid_more c.next_shown-at.ensures c.next_sum-at.ensures) c.copy_front-at.ensures
