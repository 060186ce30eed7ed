-- `disc::walk::tracks_end` meets its contract: each turn passes one track more, the first that fails decides, and then the lead-out.
use mathlib.Core.Path.{◌≡◌, refl, sym, ◌∙◌}
use mathlib.Core.Bool.{true, false}
use Prim.Native.Nat.{◌+◌, ◌≤◌}
use native.Mathlib.Omega.{arith}
use lib.ListN.{length}
use Rattle.ground.specs.Tests.{when, unless}
use Rattle.table.specs.Layout.{row}
use Rattle.disc.specs.WalkSteps.{Climbed, climbed-none, climbed-next, climbed-off, climbed-out, climbed-short, climbed-end}
use borrow.Author.Rules.{rules}
use Rattle.disc.proofs.walk.tracks_end.Goals as goal
use Rattle.disc.proofs.walk.tracks_end.Goals.{Else-d-at, After-holds, else-loop-p-test, then-loop-p-test+else-d-at+else-not-kept+else-not-climbs+else-p-l, then-not-kept-via-then-not-kept, then-not-kept-via-else-not-kept+then-not-climbs}

-- where a descriptor begins before the end, it ends there too
inside : (c : Else-d-at) → c.loop-p.at + row ≤ length c.args.d.now
inside c =
    let p = c.requires.0 in
    let q = c.loop-p.invariant.place in
    let l = c.if-d-at.false in omega arith

-- all tracks are passed
passed :
    (c : After-holds)
    → Climbed c.args.d.now c.args.k c.args.f c.args.l c.args.floor (c.args.l + 1) c.loop-p-test.at c.loop-p-test.low
passed c = elim c.loop-p-test.branch [
  | else-loop-p-test w ↦ (let l = w.loop-p-test.false in let o = c.requires in let e = c.loop-p.auto.p-end o.3 in absurd (omega arith))
  | then-loop-p-test+else-d-at+else-not-kept+else-not-climbs+else-p-l w ↦
      (let e : c.loop-p.p ≡ c.args.l = omega arith in
      let p = c.requires.0 in
      let q = c.loop-p.invariant.place in
      let l = w.if-d-at.false in
      let r = climbed-next c.loop-p.invariant w.loop-p-test.true (omega arith) w.row_from-r.ensures (sym w.if-not-kept.ensures)
      (sym w.if-not-climbs.ensures) w.frames_of-low.ensures.same in
      rw (w.at-is, w.low-is) (rw e at r))
]

pub loop-p-init : goal.loop-p-init
loop-p-init c = let p = c.requires in climbed-none _ _ _ _ _ p.3 p.1

pub returns-then-d-at-clause-same : goal.returns-then-d-at-clause-same
returns-then-d-at-clause-same c = climbed-short c.loop-p.invariant c.loop-p-test.true c.if-d-at.true c.requires.2

pub row_from-r-requires : goal.row_from-r-requires
row_from-r-requires c = inside c

pub loop-p-preserved : goal.loop-p-preserved
loop-p-preserved c =
    climbed-next c.loop-p.invariant c.loop-p-test.true (inside (goal.at.loop-p-preserved c).Else-d-at) c.row_from-r.ensures
    (sym c.if-not-kept.ensures) (sym c.if-not-climbs.ensures) c.frames_of-low.ensures.same

pub returns-then-not-kept-clause-same : goal.returns-then-not-kept-clause-same
returns-then-not-kept-clause-same c = elim c.then-not-kept.branch [
  | then-not-kept-via-then-not-kept w ↦
      climbed-off c.loop-p.invariant c.loop-p-test.true c.row_from-r.ensures (sym w.if-not-kept.ensures)
  | then-not-kept-via-else-not-kept+then-not-climbs w ↦
      climbed-out c.loop-p.invariant c.loop-p-test.true c.row_from-r.ensures (sym w.if-not-climbs.ensures)
]

pub returns-then-holds-clause-same : goal.returns-then-holds-clause-same
returns-then-holds-clause-same c =
    sym (when true _ _ refl)
    ∙ climbed-end (passed (goal.at.returns-then-holds-clause-same c).After-holds) (omega arith)
    (sym (rw c.row_at.ensures at c.if-holds.ensures))

pub returns-then-holds-clause-within : goal.returns-then-holds-clause-within
returns-then-holds-clause-within c =
    let i = passed (goal.at.returns-then-holds-clause-within c).After-holds in
    (let q = i.place in omega arith, i.within)

pub returns-else-holds-clause-same : goal.returns-else-holds-clause-same
returns-else-holds-clause-same c =
    sym (unless false _ _ refl)
    ∙ climbed-end (passed (goal.at.returns-else-holds-clause-same c).After-holds) (omega arith)
    (sym (rw c.row_at.ensures at c.if-holds.ensures))
