-- `listing::line::put_refused` meets its contract: the pieces are laid one after the other (`laid_more`).
use Rattle.ground.specs.Memory.{laid_more}
use Rattle.listing.specs.Line.{refused}
use Rattle.listing.proofs.line.put_refused.Goals as goal

pub returns : goal.returns
unfolding refused
returns c = laid_more (laid_more c.put_decimal-at.ensures c.next_refusal-at.ensures) c.copy_front-at.ensures
