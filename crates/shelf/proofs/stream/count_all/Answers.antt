-- `shelf::stream::count_all` meets its contract: what is left behind the whole tables counts once, if anything is (`counted-rest`).
use Rattle.std.proofs.lemmas.Result.{err_from_is_err_and}
use Rattle.std.proofs.Common.{sym, ◌∙◌}
use Rattle.ground.specs.Memory.{rest_all}
use Rattle.shelf.specs.StreamLaws.{passed_used, counted-rest, counted-over}
use Rattle.shelf.proofs.stream.count_all.Goals as goal

-- the bytes counted lie in the stream
pub slice_bounds-with_rest-count : goal.slice_bounds-with_rest-count
slice_bounds-with_rest-count c = passed_used _ _ (sym c.in_ok-p.was ∙ c.count_whole.ensures.same)

pub slice_bounds-with_rest-start : goal.slice_bounds-with_rest-start
slice_bounds-with_rest-start c = passed_used _ _ (sym c.in_ok-p.was ∙ c.count_whole.ensures.same)

pub returns : goal.returns
returns c = rw rest_all at c.with_rest.ensures ∙ counted-rest _ _ (sym c.in_ok-p.was ∙ c.count_whole.ensures.same)

pub returns-in_err-p : goal.returns-in_err-p
returns-in_err-p c =
    let p = err_from_is_err_and c.from_residual.result c.from_residual.ensures.1 in rw p.1 (counted-over _ _ (sym c.in_err-p.was ∙ c.count_whole.ensures.same))
