-- `shelf::stream::with` meets its contract: the sums are told with the bytes, or are too large.
use Rattle.std.proofs.lemmas.Result.{err_from_is_err_and}
use Rattle.std.proofs.Common.{sym, ap, ◌∙◌, Ok}
use Rattle.shelf.specs.TotalsLaws.{bounded-told, bounded-told-over}
use Rattle.shelf.specs.StreamLaws.{passed_to_on, passed_to-over}
use Rattle.shelf.specs.declared.totals.Totals.{Totals}
use Rattle.shelf.proofs.stream.with.Goals as goal

pub returns : goal.returns
returns c =
    let t = bounded-told _ (sym c.in_ok-totals.was ∙ c.add.ensures) in
    ap (λ (x : Totals). Ok (record { totals = x; used = c.args.used })) t.1 ∙ sym (passed_to_on _ _ t.0)

pub returns-in_err-totals : goal.returns-in_err-totals
returns-in_err-totals c =
    let p = err_from_is_err_and c.from_residual.result c.from_residual.ensures.1 in rw p.1 (sym (passed_to-over _ _ (bounded-told-over _ (sym c.in_err-totals.was ∙ c.add.ensures))))
