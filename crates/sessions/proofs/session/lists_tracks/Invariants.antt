-- `sessions::session::lists_tracks` meets its contract: each turn tests the next descriptor, and the first that fails decides.
use Rattle.std.proofs.Common.{◌≡◌, ◌+◌, true}
use Rattle.ground.specs.Tests.{every}
use Rattle.table.specs.Row.{row_at, names}
use Rattle.sessions.proofs.session.lists_tracks.Given as goal

abbrev pub invariant-loop-i : goal.invariant-loop-i
invariant-loop-i l = every l.i (λ j. names (row_at l.d (3 + j)) l.k (l.f + j)) ≡ true
