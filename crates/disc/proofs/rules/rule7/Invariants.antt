-- `disc::rules::rule7` meets its contract: each turn tests one session more, and the first that fails decides.
use Rattle.disc.specs.RulesLaws.{Risen}
use Rattle.disc.proofs.rules.rule7.Given as goal

abbrev pub invariant-loop-k : goal.invariant-loop-k
invariant-loop-k l = Risen l.n l.d l.k l.at l.out
