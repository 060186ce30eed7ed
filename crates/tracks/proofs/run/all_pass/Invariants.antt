-- `tracks::run::all_pass` meets its contract: every descriptor before j lets the run pass, and one that does not decides.
use mathlib.Core.Path.{◌≡◌}
use mathlib.Core.Bool.{true}
use Prim.Native.Nat.{◌+◌}
use Rattle.ground.specs.Tests.{every}
use Rattle.tracks.specs.Track.{track_at, passes}
use Rattle.tracks.proofs.run.all_pass.Given as goal

abbrev pub invariant-loop-j : goal.invariant-loop-j
invariant-loop-j l = every l.j (λ i. passes l.mode (track_at l.d i) l.a (l.a + l.n)) ≡ true
