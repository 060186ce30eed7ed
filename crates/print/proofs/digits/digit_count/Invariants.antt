-- `print::digits::digit_count` meets its contract: after k digits, `rest` is what is left of n.
use Rattle.std.proofs.Common.{◌≡◌, ◌+◌, ◌-◌, ◌/◌, ◌^◌, ◌≤◌, ◌<◌}
use Rattle.print.proofs.digits.digit_count.Given as goal

abbrev pub invariant-loop-rest : goal.invariant-loop-rest
invariant-loop-rest l = (0 < l.k) × (l.k + l.rest < 2 ^ 64) × (l.rest ≡ l.n / 10 ^ l.k) × (1 < l.k → 10 ^ (l.k - 1) ≤ l.n)

abbrev pub decreases-loop-rest : goal.decreases-loop-rest
decreases-loop-rest l = l.rest
