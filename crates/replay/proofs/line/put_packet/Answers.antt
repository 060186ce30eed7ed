-- `replay::line::put_packet` meets its contract: the pieces are laid one after the other (`laid_more`).
use Rattle.ground.specs.Memory.{laid_more}
use Rattle.replay.specs.Line.{packet_line}
use Rattle.replay.proofs.line.put_packet.Goals as goal

pub returns : goal.returns
unfolding packet_line
returns c = rw (← c.front.ensures.shows) (laid_more (laid_more c.put_outcome-at.ensures c.next_state-at.ensures) c.next_memory-at.ensures)
