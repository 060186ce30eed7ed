-- `disc::rules::rule4` meets its contract: each turn reads one session more that stands in its place, and the first that does not decides.
use Rattle.disc.specs.WalkSteps.{Reached}
use Rattle.disc.proofs.rules.rule4.Given as goal

abbrev pub invariant-loop-k : goal.invariant-loop-k
invariant-loop-k l = Reached l.n l.d l.k l.at l.next
