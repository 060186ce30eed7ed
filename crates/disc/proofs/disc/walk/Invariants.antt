-- `disc::disc::walk` meets its contract: each turn passes one session more, the first that fails decides, and the rules are asked from there on.
use Rattle.disc.specs.WalkSteps.{Walking}
use Rattle.disc.proofs.disc.walk.Given as goal

abbrev pub invariant-loop-k : goal.invariant-loop-k
invariant-loop-k l = Walking l.n l.d l.k l.s l.last l.next l.floor
