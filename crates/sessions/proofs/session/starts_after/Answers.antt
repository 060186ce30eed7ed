-- `sessions::session::starts_after` meets its contract: each turn passes one session more.
use Rattle.std.proofs.Common.{arith}
use Rattle.sessions.specs.SessionLaws.{starts_none, starts-next}
use Rattle.sessions.proofs.session.starts_after.Goals as goal

pub loop-init : goal.loop-init
loop-init c = (starts_none _, omega arith)

pub loop-preserved : goal.loop-preserved
loop-preserved c = (starts-next _ _ c.loop.invariant.0 c.size_at-at.ensures.same, omega arith)
