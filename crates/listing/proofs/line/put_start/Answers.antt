-- `listing::line::put_start` meets its contract: the pieces are laid one after the other (`laid_more`).
use Rattle.ground.specs.Memory.{laid_more}
use Rattle.listing.specs.Line.{started}
use Rattle.listing.proofs.line.put_start.Goals as goal

pub returns : goal.returns
unfolding started
returns c = laid_more (laid_more c.put_decimal-at.ensures c.next_hex-at.ensures) c.next_three-at.ensures
