-- `disc::walk::tracks_end` meets its contract: each turn passes one track more, the first that fails decides, and then the lead-out.
use Rattle.disc.specs.WalkSteps.{Climbed}
use Rattle.disc.proofs.walk.tracks_end.Given as goal

abbrev pub invariant-loop-p : goal.invariant-loop-p
invariant-loop-p l = Climbed l.d l.k l.f l.l l.floor l.p l.at l.low
