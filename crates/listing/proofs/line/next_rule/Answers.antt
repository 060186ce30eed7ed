-- `listing::line::next_rule` meets its contract: its test is the definition's.
use Rattle.std.proofs.Common.{eq-eqb, ne_eqb}
use Rattle.ground.specs.Tests.{when, unless}
use Rattle.ground.specs.Memory.{laid_none}
use Rattle.listing.specs.Line.{rule_shown}
use Rattle.listing.proofs.line.next_rule.Goals as goal

pub returns-then-number-eq-UNFIT : goal.returns-then-number-eq-UNFIT
unfolding rule_shown
returns-then-number-eq-UNFIT c =
    let four = c.if-number-eq-UNFIT.true in
    let rule = rw c.wide.ensures.same at c.next_decimal.ensures in
    rw (when _ _ _ (eq-eqb _ _ four)) rule

pub returns : goal.returns
unfolding rule_shown
returns c = rw (unless _ _ _ (ne_eqb _ _ c.if-number-eq-UNFIT.false)) (laid_none _)
