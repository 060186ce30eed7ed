-- `disc::rules::rule7` meets its contract: each turn tests one session more, and the first that fails decides.
use mathlib.Core.Path.{sym, ap, ◌∙◌}
use mathlib.Core.List.{List}
use Prim.Native.Nat.{ℕ}
use native.Mathlib.Omega.{arith}
use Rattle.ground.specs.Memory.{rest_all}
use Rattle.table.specs.Row.{start_of, address_at}
use Rattle.sessions.specs.Session.{size}
use Rattle.sessions.specs.SessionLaws.{size_least, size-within, placed_at, in_order-places}
use Rattle.disc.specs.RulesLaws.{risen-next, risen-breaks, risen_end}
use borrow.Author.Rules.{rules}
use Rattle.disc.proofs.rules.rule7.Goals as goal

pub loop-k-init : goal.loop-k-init
loop-k-init c = c.requires.1

pub slice_bounds-s-count : goal.slice_bounds-s-count
slice_bounds-s-count c = c.loop-k.invariant.walked.within

pub slice_bounds-s-start : goal.slice_bounds-s-start
slice_bounds-s-start c = let w = c.loop-k.invariant.walked.within in search rules

pub session_rises-requires : goal.session_rises-requires
unfolding size
session_rises-requires c =
    let s = placed_at _ _ (in_order-places _ _ c.requires.0) c.loop-k.invariant.walked.place c.loop-k-test.true in
    rw rest_all (let o = s.order in let f = s.fits in (omega arith, omega arith))

pub row_at-requires : goal.row_at-requires
row_at-requires c =
    let s = placed_at _ _ (in_order-places _ _ c.requires.0) c.loop-k.invariant.walked.place c.loop-k-test.true in
    let e = rest_all c.loop-k.at c.args.d.now in
    let l = size_least s in
    let f = s.fits in rw rest_all (omega arith)

pub loop-k-preserved : goal.loop-k-preserved
loop-k-preserved c =
    let s = placed_at _ _ (in_order-places _ _ c.requires.0) c.loop-k.invariant.walked.place c.loop-k-test.true in
    let told = sym (rw (rest_all, c.wide.ensures.same) at c.session_rises.ensures) ∙ c.if-not-session_rises.false in
    risen-next c.loop-k.invariant
    c.loop-k-test.true
    s (rw rest_all at c.session_bytes-at.ensures)
    (c.start_of-out.ensures
    ∙ ap start_of c.row_at.ensures
    ∙ ap (λ (l : List ℕ). address_at l 2)
    (rest_all c.loop-k.at
    c.args.d.now))
    told

pub overflow_add-at : goal.overflow_add-at
overflow_add-at c =
    let s = placed_at _ _ (in_order-places _ _ c.requires.0) c.loop-k.invariant.walked.place c.loop-k-test.true in
    let b = rw rest_all at c.session_bytes-at.ensures in
    let w = size-within _ _ c.loop-k.invariant.walked.within s in
    search rules

pub returns-then-not-session_rises : goal.returns-then-not-session_rises
returns-then-not-session_rises c =
    let told = sym (rw (rest_all, c.wide.ensures.same) at c.session_rises.ensures) ∙ c.if-not-session_rises.true in
    risen-breaks c.loop-k.invariant c.loop-k-test.true
    told

pub returns : goal.returns
returns c = risen_end c.loop-k.invariant c.loop-k-test.false
