-- `listing::line::next_refusal` meets its contract: the pieces are laid one after the other (`laid_more`).
use Rattle.ground.specs.Memory.{laid_more}
use Rattle.listing.specs.Line.{refusal}
use Rattle.listing.proofs.line.next_refusal.Goals as goal

pub returns : goal.returns
unfolding refusal
returns c =
    let word = c.copy_front-at.ensures in
    let digits = c.next_decimal-at.ensures in
    let number = rw c.wide.ensures.same at digits in
    let rule = c.next_rule-at.ensures in
    laid_more (laid_more word number) rule
