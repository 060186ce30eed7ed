-- `replay::line::next_state` meets its contract: the pieces are laid one after the other (`laid_more`).
use Rattle.ground.specs.Memory.{laid_more}
use Rattle.replay.specs.Line.{state_text}
use Rattle.replay.proofs.line.next_state.Goals as goal

pub returns : goal.returns
unfolding state_text
returns c =
    rw (← c.digit.ensures, ← c.digit-2.ensures, ← c.digit-3.ensures, ← c.digit-4.ensures, ← c.digit-5.ensures)
    (laid_more (laid_more c.copy_front-at.ensures c.next_three-at.ensures) c.next_kept-at.ensures)
