-- `disc::disc::walk` meets its contract: each turn passes one session more, the first that fails decides, and the rules are asked from there on.
use mathlib.Core.Path.{sym, ap, ◌∙◌}
use Prim.Native.Nat.{◌+◌, ◌≤◌}
use native.Mathlib.Omega.{arith}
use native.Mathlib.Nat.{le_antisymm}
use borrow.Author.Tests.{eq-eqb, ne_eqb}
use lib.ListN.{length}
use Rattle.ground.specs.Memory.{rest_all}
use Rattle.table.specs.Row.{frames_of}
use Rattle.sessions.specs.SessionLaws.{IsSession, size_least}
use Rattle.disc.specs.WalkSteps.{walking-none, walking-session, walking-next, walking-breaks, walking-done, walking-last, trod-whole, rows_reading_fit, rows_reading-unfit}
use borrow.Author.Rules.{rules}
use Rattle.disc.proofs.disc.walk.Goals as goal
use Rattle.disc.proofs.disc.walk.Goals.{In-Some}

-- the session that begins here is one, four descriptors long at least
here : (c : In-Some) → IsSession (c.loop-k.k + 1) c.loop-k.s.now
here c = (walking-session c.loop-k.invariant c.loop-k-test.true (sym c.in-Some.ensures)).0

long : (c : In-Some) → 44 ≤ length c.loop-k.s.now
long c = let s = here c in let l = size_least s in let f = s.fits in omega arith

-- and ends in what is left
ends : (c : In-Some) → c.in-Some.end ≤ length c.loop-k.s.now
ends c =
    let t = walking-session c.loop-k.invariant c.loop-k-test.true (sym c.in-Some.ensures) in
    let f = t.0.fits in
    let e = t.1 in
    omega arith

pub loop-k-init : goal.loop-k-init
loop-k-init c = walking-none _ _ c.byte_at-next.ensures.same

pub session_end-requires : goal.session_end-requires
session_end-requires c =
    let i = c.loop-k.invariant in
    let e = ap length i.here in
    let t = trod-whole i.trod c.requires.0 in
    (omega arith, omega arith)

pub overflow_sub-d : goal.overflow_sub-d
overflow_sub-d c = c.loop-k.invariant.less

pub fault_from-rule-requires : goal.fault_from-rule-requires
fault_from-rule-requires c = (c.requires.0, c.loop-k.invariant.trod)

pub returns-in_default : goal.returns-in_default
returns-in_default c =
    rows_reading-unfit _ _ (walking-breaks c.loop-k.invariant c.loop-k-test.true (sym c.in_default.ensures)) c.fault_from-rule.ensures

pub bounds-s : goal.bounds-s
bounds-s c = let l = long (goal.at.bounds-s c).In-Some in omega arith

pub row_at-requires : goal.row_at-requires
row_at-requires c = let l = long (goal.at.row_at-requires c).In-Some in omega arith

pub slice_bounds-s-count : goal.slice_bounds-s-count
slice_bounds-s-count c = ends (goal.at.slice_bounds-s-count c).In-Some

pub slice_bounds-s-start : goal.slice_bounds-s-start
slice_bounds-s-start c = let e = ends (goal.at.slice_bounds-s-start c).In-Some in search rules

pub loop-k-preserved : goal.loop-k-preserved
loop-k-preserved c =
    walking-next c.loop-k.invariant c.loop-k-test.true (sym c.in-Some.ensures)
    c.wide-next.ensures.same (c.frames_of-floor.ensures.same ∙ ap frames_of c.row_at.ensures)
    (rest_all c.in-Some.end c.loop-k.s.now)

pub disc_of-requires : goal.disc_of-requires
disc_of-requires c = walking-last c.loop-k.invariant c.loop-k-test.false c.requires.1

pub returns-then-is_empty : goal.returns-then-is_empty
returns-then-is_empty c =
    rows_reading_fit _ _ (sym (walking-done c.loop-k.invariant c.loop-k-test.false) ∙ sym c.if-is_empty.ensures) c.disc_of.ensures

pub overflow_sub-d-2 : goal.overflow_sub-d-2
overflow_sub-d-2 c = c.loop-k.invariant.less

pub fault_from-rule-requires-2 : goal.fault_from-rule-requires-2
fault_from-rule-requires-2 c =
    (c.requires.0, rw (le_antisymm c.loop-k.auto.k-end c.loop-k-test.false) at c.loop-k.invariant.trod)

pub returns : goal.returns
returns c =
    rows_reading-unfit _ _ (sym (walking-done c.loop-k.invariant c.loop-k-test.false) ∙ sym c.if-is_empty.ensures) c.fault_from-rule-2.ensures
