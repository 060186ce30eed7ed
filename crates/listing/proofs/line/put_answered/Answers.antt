-- `listing::line::put_answered` meets its contract: the pieces are laid one after the other (`laid_more`).
use Rattle.ground.specs.Memory.{laid_more}
use Rattle.listing.specs.Line.{answered}
use Rattle.listing.proofs.line.put_answered.Goals as goal

pub returns : goal.returns
unfolding answered
returns c = laid_more (laid_more c.put_start-at.ensures c.next_yield-at.ensures) c.copy_front-at.ensures
