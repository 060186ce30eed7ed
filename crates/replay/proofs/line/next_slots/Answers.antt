-- `replay::line::next_slots` meets its contract: the pieces are laid one after the other (`laid_more`).
use Rattle.ground.specs.Memory.{laid_more}
use Rattle.replay.specs.Line.{slots_text}
use Rattle.replay.proofs.line.next_slots.Goals as goal

pub returns : goal.returns
unfolding slots_text
returns c = laid_more (rw c.wide.ensures.same at c.next_decimal-at.ensures) c.next_shown-at.ensures
