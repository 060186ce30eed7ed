-- `replay::line::put_msf` meets its contract: the pieces are laid one after the other (`laid_more`).
use Rattle.ground.specs.Memory.{laid_more}
use Rattle.replay.specs.Line.{msf_line}
use Rattle.replay.proofs.line.put_msf.Goals as goal

pub returns : goal.returns
unfolding msf_line
returns c = rw (← c.wide.ensures.same, ← c.wide-2.ensures.same, ← c.wide-3.ensures.same) (laid_more (laid_more c.put_call-at.ensures c.next_decimals-at.ensures) c.copy_front-at.ensures)
