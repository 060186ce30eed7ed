-- `listing::line::next_blocks` meets its contract: the pieces are laid one after the other (`laid_more`).
use Rattle.ground.specs.Memory.{laid_more}
use Rattle.listing.specs.Line.{blocks}
use Rattle.listing.proofs.line.next_blocks.Goals as goal

pub returns : goal.returns
unfolding blocks
returns c = laid_more c.next_decimal-at.ensures c.next_decimal-at-2.ensures
