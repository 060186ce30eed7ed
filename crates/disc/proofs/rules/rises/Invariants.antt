-- `disc::rules::rises` meets its contract: each turn compares two starts, the first pair that falls decides, and then the last start and the lead-out.
use Rattle.std.proofs.Common.{◌≡◌, true, ◌+◌, ltb}
use Rattle.ground.specs.Tests.{every}
use Rattle.disc.specs.Rules.{track_start}
use Rattle.disc.proofs.rules.rises.Given as goal

abbrev pub invariant-loop-i : goal.invariant-loop-i
invariant-loop-i l = (l.start ≡ track_start l.s l.i) × (every l.i (λ j. ltb (track_start l.s j) (track_start l.s (j + 1))) ≡ true)
