-- `shelf::stream::wholes_of` meets its contract: each turn counts one whole table more (`passing-next`), and the first that is not whole ends
-- it (`passing-end`).
use Prim.Native.Nat.{◌-◌}
use lib.ListN.{length}
use Rattle.shelf.specs.Totals.{nothing}
use Rattle.shelf.specs.StreamLaws.{Passing}
use Rattle.shelf.proofs.stream.wholes_of.Given as goal

abbrev pub invariant-loop-n : goal.invariant-loop-n
invariant-loop-n l = Passing nothing l.s l.totals l.used

abbrev pub decreases-loop-n : goal.decreases-loop-n
decreases-loop-n l = length l.s - l.used
