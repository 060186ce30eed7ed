-- `disc::walk::extra_end` meets its contract: the two tests are the definition's, in its order, and past the end stands no POINT.
use mathlib.Core.Path.{sym, ap, ◌∙◌}
use borrow.Author.Tests.{eq-eqb, ne_eqb}
use Rattle.ground.specs.Tests.{when, unless}
use Rattle.table.specs.declared.row.Row.{Row}
use Rattle.disc.specs.Walk.{extra_end}
use Rattle.disc.specs.WalkSteps.{extra_end-past}
use Rattle.disc.proofs.walk.extra_end.Goals as goal

pub returns-then-d-at-clause-same : goal.returns-then-d-at-clause-same
returns-then-d-at-clause-same c = extra_end-past _ _ _ _ c.if-d-at.true c.requires.3

pub returns-then-r-p-clause-same : goal.returns-then-r-p-clause-same
unfolding extra_end
returns-then-r-p-clause-same c =
    sym (unless _ _ _ (ne_eqb _ _ (λ e. c.if-r-p.true (ap (λ (r : Row). r.point) c.row_from-r.ensures ∙ e))))

pub returns-then-extra_kept-clause-same : goal.returns-then-extra_kept-clause-same
unfolding extra_end
returns-then-extra_kept-clause-same c =
    sym
    (when _ _ _ (eq-eqb _ _ (ap (λ (r : Row). r.point) (sym c.row_from-r.ensures) ∙ c.if-r-p.false))
    ∙ when _ _ _ (sym (rw c.row_from-r.ensures at c.if-extra_kept.ensures)))

pub returns-else-extra_kept-clause-same : goal.returns-else-extra_kept-clause-same
unfolding extra_end
returns-else-extra_kept-clause-same c =
    sym
    (when _ _ _ (eq-eqb _ _ (ap (λ (r : Row). r.point) (sym c.row_from-r.ensures) ∙ c.if-r-p.false))
    ∙ unless _ _ _ (sym (rw c.row_from-r.ensures at c.if-extra_kept.ensures)))
