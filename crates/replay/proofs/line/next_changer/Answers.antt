-- `replay::line::next_changer` meets its contract: the pieces are laid one after the other (`laid_more`).
use Rattle.ground.specs.Memory.{laid_more}
use Rattle.replay.specs.Line.{changer_text}
use Rattle.replay.proofs.line.next_changer.Goals as goal

pub returns : goal.returns
unfolding changer_text
returns c = laid_more c.next_state-at.ensures c.next_slots-at.ensures
