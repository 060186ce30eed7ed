-- `print::digits::write_digits` meets its contract: the digits still to write, and then those written, are the digits of n.
use Rattle.std.proofs.Common.{◌≡◌, ◌++◌}
use Rattle.std.proofs.Math.Seq.{slice}
use Rattle.print.specs.Digits.{last_digits}
use Rattle.print.proofs.digits.write_digits.Given as goal

abbrev pub invariant-loop-i : goal.invariant-loop-i
invariant-loop-i l = last_digits 10 l.i l.rest ++ slice l.i l.k l.out ≡ last_digits 10 l.k l.n
