-- `disc::rules::rule4` meets its contract: each turn reads one session more that stands in its place, and the first that does not decides.
use mathlib.Core.Path.{sym, ◌∙◌}
use native.Mathlib.Omega.{arith}
use Rattle.ground.specs.Memory.{rest_all}
use Rattle.sessions.specs.SessionLaws.{is_session_parts, size-within, read_session-told, read_session_told_not}
use Rattle.disc.specs.WalkSteps.{reached-next, reached-not, reached-off, reached_end}
use borrow.Author.Rules.{rules}
use Rattle.disc.proofs.rules.rule4.Goals as goal

pub loop-k-init : goal.loop-k-init
loop-k-init c = c.requires

pub slice_bounds-read_session-count : goal.slice_bounds-read_session-count
slice_bounds-read_session-count c = c.loop-k.invariant.walked.within

pub slice_bounds-read_session-start : goal.slice_bounds-read_session-start
slice_bounds-read_session-start c = let w = c.loop-k.invariant.walked.within in search rules

pub loop-k-preserved : goal.loop-k-preserved
loop-k-preserved c =
    let t = read_session-told _ _ (sym c.in-Some.is ∙ rw (rest_all, c.wide.ensures.same) at c.read_session.ensures) in
    rw c.wide-next.ensures.same
    (reached-next c.loop-k.invariant
    c.loop-k-test.true t
    (let w = c.wide-in-loop-k.ensures.same in omega arith))

pub overflow_add-at : goal.overflow_add-at
overflow_add-at c =
    let t = read_session-told _ _ (sym c.in-Some.is ∙ rw (rest_all, c.wide.ensures.same) at c.read_session.ensures) in
    let b = t.bytes in
    let w = size-within _ _ c.loop-k.invariant.walked.within
    (is_session_parts t.is) in
    search rules

pub returns-then-wide-next : goal.returns-then-wide-next
returns-then-wide-next c =
    let t = read_session-told _ _ (sym c.in-Some.is ∙ rw (rest_all, c.wide.ensures.same) at c.read_session.ensures) in
    reached-off c.loop-k.invariant
    c.loop-k-test.true t
    (λ e. c.if-wide-next.true (let w = c.wide-in-loop-k.ensures.same in omega arith))

pub returns-in_default : goal.returns-in_default
returns-in_default c =
    reached-not c.loop-k.invariant c.loop-k-test.true
    (read_session_told_not _ _ (sym c.in_default.is ∙ rw (rest_all, c.wide.ensures.same) at
    c.read_session.ensures))

pub returns : goal.returns
returns c = reached_end c.loop-k.invariant c.loop-k-test.false
