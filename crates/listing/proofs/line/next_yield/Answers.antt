-- `listing::line::next_yield` meets its contract: the pieces are laid one after the other (`laid_more`).
use Rattle.ground.specs.Memory.{laid_more}
use Rattle.listing.specs.Line.{yielded}
use Rattle.listing.proofs.line.next_yield.Goals as goal

pub returns : goal.returns
unfolding yielded
returns c = laid_more (laid_more c.next_decimal-at.ensures c.next_shown-at.ensures) c.next_blocks-at.ensures
