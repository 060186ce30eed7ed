-- `mode::mode_select::is_page` meets its contract: each test is one of the definition's three, in its order.
use mathlib.Core.Path.{◌∙◌}
use Rattle.std.proofs.Common.{inl, inr}
use borrow.Author.Tests.{eq-eqb, ne_eqb}
use Rattle.ground.specs.Tests.{and_on, and_off, and_late}
use Rattle.mode.specs.ModeSelect.{is_page}
use Rattle.mode.proofs.mode_select.is_page.Goals as goal
use Rattle.mode.proofs.mode_select.is_page.Goals.{then-code-eq1, else-code-eq1}

pub returns-then-len-eq6 : goal.returns-then-len-eq6
unfolding is_page
returns-then-len-eq6 c = let e = c.if-len-eq6.true in and_on _ _ (eq-eqb _ _ e.0) (and_on _ _ (eq-eqb _ _ e.1) c.is_setting.ensures)

pub returns-else-len-eq6 : goal.returns-else-len-eq6
unfolding is_page
returns-else-len-eq6 c = elim c.if-code-eq1.branch [
  | then-code-eq1 w ↦ w.t-5-is ∙ elim c.if-len-eq6.either [
    | inl p ↦ let e = ne_eqb _ _ p.1 in e ∙ and_late _ _ (and_off _ _ e)
    | inr n ↦ absurd (n w.if-code-eq1.true)
  ]
  | else-code-eq1 w ↦ let e = ne_eqb _ _ w.if-code-eq1.false in w.t-5-is ∙ e ∙ and_off _ _ e
]
