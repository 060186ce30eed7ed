-- `tracks::track::found` meets its contract: after j descriptors it holds what the definition finds and the lead-out that stands there.
use mathlib.Core.Path.{◌≡◌}
use Rattle.tracks.specs.Track.{out_at, found}
use Rattle.tracks.proofs.track.found.Given as goal

abbrev pub invariant-loop-j : goal.invariant-loop-j
invariant-loop-j l = (l.out ≡ out_at l.d l.j) × (l.u ≡ found l.ask l.d l.j)
