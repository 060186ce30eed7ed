-- `shelf::stream::take_in` meets its contract: the whole tables are counted, and what is left is kept (`took_of`).
use Rattle.std.proofs.lemmas.Result.{err_from_is_err_and}
use Rattle.std.proofs.Common.{◌≡◌, sym, ◌∙◌}
use native.Mathlib.Omega.{arith}
use lib.ListN.{length, take, length-take}
use Rattle.shelf.specs.StreamLaws.{passed_used, took_of, taken_short, took-over}
use Rattle.shelf.proofs.stream.take_in.Goals as goal

pub slice_bounds-count_whole-end-2 : goal.slice_bounds-count_whole-end-2
slice_bounds-count_whole-end-2 c =
    let e = c.min-n.ensures in
    let l = length-take c.min-n.result c.args.room.now in
    omega arith

pub keep-requires : goal.keep-requires
keep-requires c =
    let u = passed_used _ _ (sym c.in_ok-p.was ∙ c.count_whole.ensures.same) in
    let e = c.min-n.ensures in
    let l = length-take c.min-n.result c.args.room.now in
    (omega arith, omega arith)

pub returns : goal.returns
returns c =
    let a = c.args in
    let n = c.min-n in
    let w = c.count_whole.ensures in
    let g = c.in_ok-p.was in
    let k = c.keep.ensures in
    let e = n.ensures in
    let l : length (take n.result a.room.now) ≡ n.result = let t = length-take n.result a.room.now in omega arith in
    record { taken = took_of _ _ a.end e (sym g ∙ w.same) k.0 k.1; short = taken_short k.0 g l w.short }

pub returns-in_err-p : goal.returns-in_err-p
returns-in_err-p c =
    let a = c.args in
    let n = c.min-n in
    let p = err_from_is_err_and c.from_residual.result c.from_residual.ensures.1 in
    let o = took-over p.0 a.room.now (take n.result a.room.now) n.result in
    rw p.1 (record { taken = took_of _ _ a.end n.ensures (sym c.in_err-p.was ∙ c.count_whole.ensures.same) o.0 o.1; short = o.2 })
