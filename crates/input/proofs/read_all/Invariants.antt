-- `input::read_all` meets its contract and ends: each turn reads at least one byte more, and none past the end.
use Rattle.std.proofs.Common.{◌≡◌, ◌≤◌, ◌-◌, length}
use Rattle.input.proofs.read_all.Given as goal

abbrev pub invariant-loop-at : goal.invariant-loop-at
invariant-loop-at l = (l.at ≤ length l.buf) × (length l.buf ≡ length l.initial.buf)

abbrev pub decreases-loop-at : goal.decreases-loop-at
decreases-loop-at l = length l.initial.buf - l.at
