-- `sessions::session::numbered` meets its contract: each turn tests the next descriptor, and the first that fails decides.
use Rattle.std.proofs.Common.{◌≡◌, ◌+◌, true, eqb}
use Rattle.ground.specs.Tests.{every}
use Rattle.table.specs.Layout.{session_at}
use Rattle.sessions.proofs.session.numbered.Given as goal

abbrev pub invariant-loop-i : goal.invariant-loop-i
invariant-loop-i l = every l.i (λ n. eqb (session_at l.d (l.j + n)) l.k) ≡ true
