-- `disc::rules::each_row` meets its contract: each turn passes one descriptor more, and the first that fails decides.
use Prim.Native.Nat.{◌-◌}
use lib.ListN.{length}
use Rattle.disc.specs.RulesLaws.{Tested}
use Rattle.disc.proofs.rules.each_row.Given as goal

abbrev pub invariant-loop-at : goal.invariant-loop-at
invariant-loop-at l = Tested l.n l.d l.at

abbrev pub decreases-loop-at : goal.decreases-loop-at
decreases-loop-at l = length l.d - l.at
