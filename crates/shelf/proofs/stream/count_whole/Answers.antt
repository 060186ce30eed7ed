-- `shelf::stream::count_whole` meets its contract: what the whole tables come to is added to the totals (`passed_on`).
use Rattle.std.proofs.lemmas.Result.{err_from_is_err_and}
use Rattle.std.proofs.Common.{sym, ◌∙◌}
use native.Mathlib.Omega.{arith}
use Rattle.shelf.specs.StreamLaws.{passed_on, passed_over, passed-left}
use Rattle.shelf.proofs.stream.count_whole.Goals as goal

pub returns : goal.returns
returns c =
    let e = c.with.ensures ∙ passed_on _ _ (sym c.in_ok-p.was ∙ c.wholes_of.ensures) in
    record { same = e; short = rw e (passed-left _ _ (λ i. omega (arith, c.type_inv.s i))) }

pub returns-in_err-p : goal.returns-in_err-p
returns-in_err-p c =
    let p = err_from_is_err_and c.from_residual.result c.from_residual.ensures.1 in
    let e = passed_over _ _ (sym c.in_err-p.was ∙ c.wholes_of.ensures) in
    rw p.1 (record { same = e; short = rw e (passed-left _ _ (λ i. omega (arith, c.type_inv.s i))) })
