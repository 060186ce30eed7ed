-- `print::sum::adler32` meets its contract: after each byte a and b are the sums of the bytes so far (`sums_more`).
use Rattle.std.proofs.Common.{◌≡◌, ◌<◌}
use Rattle.print.specs.Sum.{low, high}
use Rattle.print.proofs.sum.adler32.Given as goal

abbrev pub invariant-loop-x : goal.invariant-loop-x
invariant-loop-x l = (l.a ≡ low l.s l.x-index) × (l.b ≡ high l.s l.x-index) × (l.a < 65521) × (l.b < 65521)
