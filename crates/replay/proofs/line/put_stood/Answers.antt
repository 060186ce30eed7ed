-- `replay::line::put_stood` meets its contract: the pieces are laid one after the other (`laid_more`).
use Rattle.ground.specs.Memory.{laid_more}
use Rattle.replay.specs.Line.{stood_line}
use Rattle.replay.proofs.line.put_stood.Goals as goal

pub returns : goal.returns
unfolding stood_line
returns c = laid_more (laid_more c.put_call-at.ensures c.next_changer-at.ensures) c.copy_front-at.ensures
