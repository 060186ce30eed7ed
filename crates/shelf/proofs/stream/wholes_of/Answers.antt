-- `shelf::stream::wholes_of` meets its contract: each turn counts one whole table more (`passing-next`), and the first that is not whole ends
-- it (`passing-end`).
use Rattle.std.proofs.lemmas.Result.{err_from_is_err_and}
use Rattle.std.proofs.Common.{◌≡◌, sym, ◌∙◌}
use mathlib.Core.List.{List}
use Prim.Native.Nat.{ℕ, ◌+◌, ◌-◌, ◌≤◌}
use native.Mathlib.Omega.{arith}
use lib.ListN.{length, drop, length-drop}
use Rattle.ground.specs.Memory.{rest_all}
use Rattle.shelf.specs.Stream.{table_length}
use Rattle.shelf.specs.StreamLaws.{whole_length_some, whole_length-none, passing-none, passing-next, passing-over, passing-end}
use borrow.Author.Rules.{rules}
use Rattle.shelf.proofs.stream.wholes_of.Goals as goal

-- a whole table that stands in what was read from `at` on lies in it
inside : (s : List ℕ) (at : ℕ) {n : ℕ} → at ≤ length s → (table_length (drop at s) ≤ length (drop at s)) × (n ≡ table_length (drop at s)) → at + n ≤ length s
inside s at {n} f w =
    let a = w.0 in
    let b = w.1 in
    let l = length-drop at s in
    omega arith

pub loop-n-init : goal.loop-n-init
loop-n-init c = rw c.nothing-totals.ensures (passing-none _)

pub returns : goal.returns
returns c = passing-end c.loop-n.invariant (whole_length-none _ (sym c.in_default.is ∙ rw rest_all at c.whole_length.ensures))

pub loop-n-smaller : goal.loop-n-smaller
loop-n-smaller c =
    let w = whole_length_some _ (sym c.in-Some.is ∙ rw rest_all at c.whole_length.ensures) in
    let i = inside c.args.s.now c.loop-n.used c.loop-n.invariant.fits w in
    let e = w.1 in
    omega arith

pub overflow_add-used : goal.overflow_add-used
overflow_add-used c =
    let w = whole_length_some _ (sym c.in-Some.is ∙ rw rest_all at c.whole_length.ensures) in
    let i = inside c.args.s.now c.loop-n.used c.loop-n.invariant.fits w in
    search rules

pub slice_bounds-count-end : goal.slice_bounds-count-end
slice_bounds-count-end c =
    let w = whole_length_some _ (sym c.in-Some.is ∙ rw rest_all at c.whole_length.ensures) in
    inside c.args.s.now c.loop-n.used c.loop-n.invariant.fits w

pub loop-n-preserved : goal.loop-n-preserved
loop-n-preserved c =
    let l = c.loop-n in
    let w = whole_length_some _ (sym c.in-Some.is ∙ rw rest_all at c.whole_length.ensures) in
    let n = c.in-Some.n in
    let e : l.used + n - l.used ≡ n = omega arith in
    passing-next l.invariant w.0 w.1 (rw e at (sym c.in_ok-totals.was ∙ c.count.ensures))

pub returns-in_err-totals : goal.returns-in_err-totals
returns-in_err-totals c =
    let l = c.loop-n in
    let w = whole_length_some _ (sym c.in-Some.is ∙ rw rest_all at c.whole_length.ensures) in
    let n = c.in-Some.n in
    let e : l.used + n - l.used ≡ n = omega arith in
    let p = err_from_is_err_and c.from_residual.result c.from_residual.ensures.1 in
    rw p.1 (passing-over l.invariant w.0 w.1 (rw e at (sym c.in_err-totals.was ∙ c.count.ensures)))
