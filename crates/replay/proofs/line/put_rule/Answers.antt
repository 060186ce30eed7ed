-- `replay::line::put_rule` meets its contract: its test is the definition's, and the pieces are laid one after the other (`laid_more`).
use Rattle.std.proofs.Common.{eq-eqb, ne_eqb}
use Rattle.ground.specs.Tests.{when, unless}
use Rattle.ground.specs.Memory.{laid_none, laid_more}
use Rattle.replay.specs.Line.{rule_text}
use Rattle.replay.proofs.line.put_rule.Goals as goal

pub returns-then-number-eq-UNFIT : goal.returns-then-number-eq-UNFIT
unfolding rule_text
returns-then-number-eq-UNFIT c =
    let dot = c.copy_front-at.ensures in
    let rule = rw c.wide.ensures.same at c.put_decimal-at.ensures in
    let four = c.if-number-eq-UNFIT.true in
    rw (when _ _ _ (eq-eqb _ _ four)) (laid_more dot rule)

pub returns : goal.returns
unfolding rule_text
returns c = rw (unless _ _ _ (ne_eqb _ _ c.if-number-eq-UNFIT.false)) (laid_none _)
