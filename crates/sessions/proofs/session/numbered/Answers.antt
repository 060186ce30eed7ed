-- `sessions::session::numbered` meets its contract: each turn tests the next descriptor, and the first that fails decides.
use Rattle.std.proofs.Common.{sym, ◌∙◌, eq-eqb, ne_eqb}
use native.Mathlib.Nat.{le_antisymm}
use Rattle.ground.specs.Tests.{every-none, every_more, every-breaks}
use Rattle.sessions.specs.Session.{numbered}
use Rattle.sessions.proofs.session.numbered.Goals as goal

pub loop-i-init : goal.loop-i-init
loop-i-init c = every-none _

pub loop-i-preserved : goal.loop-i-preserved
loop-i-preserved c = every_more _ _ c.loop-i.invariant (eq-eqb _ _ (sym c.wide.ensures.same ∙ c.if-wide-k.false))

pub returns-then-wide-k : goal.returns-then-wide-k
unfolding numbered
returns-then-wide-k c = every-breaks _ _ c.loop-i.i c.loop-i-test.true (ne_eqb _ _ (λ e. c.if-wide-k.true (c.wide.ensures.same ∙ e)))

pub returns : goal.returns
unfolding numbered
returns c = rw (le_antisymm c.loop-i.auto.i-end c.loop-i-test.false) at (sym c.loop-i.invariant)
