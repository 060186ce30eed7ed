-- `shelf::content::held_by` meets its contract: each turn adds one session more, by its tracks' lengths and by the gap before it, and all of them
-- come to the blocks counted one by one (`summed-all`).
use mathlib.Core.Path.{◌≡◌, refl}
use mathlib.Core.List.{List}
use Prim.Native.Nat.{ℕ, ◌-◌}
use native.Mathlib.Omega.{arith}
use lib.ListN.{length, take, drop, length-drop}
use Rattle.ground.specs.Memory.{rest_all}
use Rattle.table.specs.Layout.{descriptors}
use Rattle.sessions.specs.Session.{size}
use Rattle.sessions.specs.SessionLaws.{size_least}
use Rattle.disc.specs.RulesLaws.{fit_sized}
use Rattle.shelf.specs.ContentLaws.{summed-none, summed-most, summed-here, summed-rises, summed-begins, summed-next, summed-all}
use Rattle.shelf.proofs.content.held_by.Goals as goal

-- the rest of the descriptors, as it is lent
part : (t : List ℕ) (at : ℕ) → take (length (take (length t - 4) (drop 4 t)) - at) (drop at (take (length t - 4) (drop 4 t))) ≡ drop at (descriptors t)
part t at = rw (rest_all 4 t) (rest_all at (drop 4 t))

pub overflow_add-of_data : goal.overflow_add-of_data
overflow_add-of_data c =
    let f = c.requires in
    let e =
    rw (part c.args.t.now c.loop.at) at
    c.data_of-of_data.ensures in
    let n = summed-next f c.loop.invariant c.loop-test.true refl refl e refl in
    let m = (summed-most f n).0 in
    omega arith

pub returns : goal.returns
returns c =
    let a = summed-all c.requires c.loop.invariant c.loop-test.false in
    rw (a.0, a.1)

pub bounds-t-3 : goal.bounds-t-3
bounds-t-3 c = let l = (fit_sized c.requires).least in omega arith

pub slice_bounds-d-count : goal.slice_bounds-d-count
slice_bounds-d-count c = (fit_sized c.requires).least

pub slice_bounds-d-start : goal.slice_bounds-d-start
slice_bounds-d-start c = (fit_sized c.requires).least

pub loop-init : goal.loop-init
loop-init c = summed-none _

pub address_at-requires : goal.address_at-requires
address_at-requires c =
    rw (part c.args.t.now c.loop.at)
    (let s = summed-here c.requires c.loop.invariant c.loop-test.true in let l = size_least s in let f = s.fits in omega arith)

pub overflow_sub-of_none : goal.overflow_sub-of_none
overflow_sub-of_none c =
    let b = summed-begins c.requires c.loop.invariant c.loop-test.true in
    let e = rw (part c.args.t.now c.loop.at) at c.address_at.ensures in
    omega arith

pub overflow_add-of_none : goal.overflow_add-of_none
overflow_add-of_none c =
    let f = c.requires in
    let e = rw (part c.args.t.now c.loop.at) at c.address_at.ensures in
    let n = summed-next f c.loop.invariant c.loop-test.true refl refl refl e in
    let m = (summed-most f n).1 in
    omega arith

pub data_of-of_data-requires : goal.data_of-of_data-requires
unfolding size
data_of-of_data-requires c =
    rw (part c.args.t.now c.loop.at)
    (let s = summed-here c.requires c.loop.invariant c.loop-test.true in
    let o = s.order in
    let l = s.fits in (o, omega arith, summed-rises c.requires c.loop.invariant c.loop-test.true))

pub address_at-out-requires : goal.address_at-out-requires
address_at-out-requires c =
    rw (part c.args.t.now c.loop.at)
    (let s = summed-here c.requires c.loop.invariant c.loop-test.true in let l = size_least s in let f = s.fits in omega arith)

pub loop-preserved : goal.loop-preserved
loop-preserved c =
    let p = part c.args.t.now c.loop.at in
    summed-next c.requires c.loop.invariant c.loop-test.true
    (rw p at c.session_bytes-at.ensures) (rw p at c.address_at-out.ensures) (rw p at c.data_of-of_data.ensures) (rw p at c.address_at.ensures)

pub overflow_add-at : goal.overflow_add-at
overflow_add-at c =
    let p = part c.args.t.now c.loop.at in
    let n = summed-next c.requires c.loop.invariant c.loop-test.true (rw p at c.session_bytes-at.ensures) refl refl refl in
    let w = n.walked.within in
    let d = length-drop 4 c.args.t.now in
    let m = (fit_sized c.requires).most in
    omega arith
