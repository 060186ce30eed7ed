-- `sessions::session::lists_tracks` meets its contract: each turn tests the next descriptor, and the first that fails decides.
use Rattle.std.proofs.Common.{sym}
use native.Mathlib.Nat.{le_antisymm}
use Rattle.ground.specs.Tests.{every-none, every_more, every-breaks}
use Rattle.sessions.proofs.session.lists_tracks.Goals as goal

pub loop-i-init : goal.loop-i-init
loop-i-init c = every-none _

pub loop-i-preserved : goal.loop-i-preserved
loop-i-preserved c = every_more _ _ c.loop-i.invariant (sym c.if-not-named.ensures)

pub returns-then-not-named : goal.returns-then-not-named
returns-then-not-named c = every-breaks _ _ c.loop-i.i c.loop-i-test.true (sym c.if-not-named.ensures)

pub returns : goal.returns
returns c = rw (le_antisymm c.loop-i.auto.i-end c.loop-i-test.false) at (sym c.loop-i.invariant)
