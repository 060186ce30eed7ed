-- `toc::shown::shown_count` meets its contract: after j descriptors it has counted those of them that are shown.
use mathlib.Core.Path.{sym, ap, ◌∙◌}
use Prim.Native.Nat.{ℕ, ◌+◌}
use native.Mathlib.Omega.{arith}
use native.Mathlib.Nat.{le_antisymm}
use Rattle.toc.specs.ShownLaws.{shown_count, shown_count-none, shown_count_is, shown_count_not, shown_count-within}
use Rattle.toc.proofs.shown.shown_count.Goals as goal
use Rattle.toc.proofs.shown.shown_count.Goals.{then-is_shown, else-is_shown}

pub loop-j-init : goal.loop-j-init
loop-j-init c = sym (shown_count-none _ _)

pub overflow_add-k : goal.overflow_add-k
overflow_add-k c =
    let x = c.args in
    let l = c.loop-j in
    omega (arith, shown_count-within x.n x.d.now l.j)

pub loop-j-preserved : goal.loop-j-preserved
loop-j-preserved c =
    let i = c.loop-j.invariant in
    elim c.if-is_shown.branch [
      | then-is_shown w ↦ w.k-is ∙ ap (λ (z : ℕ). z + 1) i ∙ sym (shown_count_is _ _ _ (sym c.is_shown.ensures ∙ w.if-is_shown.true))
      | else-is_shown w ↦ w.k-is ∙ i ∙ sym (shown_count_not _ _ _ (sym c.is_shown.ensures ∙ w.if-is_shown.false))
    ]

pub returns : goal.returns
returns c =
    c.loop-j.invariant ∙ ap (shown_count c.args.n c.args.d.now) (le_antisymm c.loop-j.auto.j-end c.loop-j-test.false)
