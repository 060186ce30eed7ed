-- `replay::line::next_page` meets its contract: the pieces are laid one after the other (`laid_more`).
use Rattle.ground.specs.Memory.{laid_more}
use Rattle.replay.specs.Line.{page_text}
use Rattle.replay.proofs.line.next_page.Goals as goal

pub returns : goal.returns
unfolding page_text
returns c = laid_more c.next_hex-at.ensures c.next_hex-at-2.ensures
