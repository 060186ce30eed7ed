-- `shelf::content::data_in` meets its contract: each turn passes one track more, and what the runs come to are the blocks of each track
-- (`run-done`).
use mathlib.Core.Path.{◌≡◌}
use Rattle.shelf.specs.Lengths.{run_at}
use Rattle.shelf.proofs.content.data_in.Given as goal

abbrev pub invariant-loop-i : goal.invariant-loop-i
invariant-loop-i l = l.r ≡ run_at l.s l.i
