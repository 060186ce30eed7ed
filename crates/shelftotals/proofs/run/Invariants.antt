-- `shelftotals::run` meets what its calls require: each read finds room, since fewer bytes are held than the longest table has.
use Rattle.std.proofs.Common.{◌≤◌}
use Rattle.shelftotals.proofs.run.Given as goal

abbrev pub invariant-loop : goal.invariant-loop
invariant-loop l = l.have ≤ 65536
