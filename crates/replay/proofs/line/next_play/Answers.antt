-- `replay::line::next_play` meets its contract: the pieces are laid one after the other (`laid_more`).
use Rattle.ground.specs.Memory.{laid_more}
use Rattle.replay.specs.Line.{play_text}
use Rattle.replay.proofs.line.next_play.Goals as goal

pub returns : goal.returns
unfolding play_text
returns c = laid_more (laid_more c.next_hex-at.ensures c.next_decimal-at.ensures) c.next_decimal-at-2.ensures
