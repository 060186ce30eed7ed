-- `sessions::session::starts_after` meets its contract: each turn passes one session more.
use mathlib.Core.Path.{◌≡◌}
use Prim.Native.Nat.{◌≤◌, ◌*◌}
use Rattle.sessions.specs.Session.{starts}
use Rattle.sessions.proofs.session.starts_after.Given as goal

abbrev pub invariant-loop : goal.invariant-loop
invariant-loop l = (l.at ≡ starts l.d l.counter) × (l.at ≤ 2871 * l.counter)
