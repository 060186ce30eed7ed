-- The range that READ, SEEK and PLAY test; l is L, "the last session's lead-out".
use Rattle.std.specs.Prelude.{ℕ, ◌+◌, ◌-◌, Bool, not, ltb}
use Rattle.ground.specs.Tests.{◌or◌, choose◌then◌else◌}
use Rattle.deck.specs.declared.Deck.{Deck}
use Rattle.gate.specs.declared.fault.Fault.TheVariants.{OutOfRange, IllegalMode}
use Rattle.gate.specs.Gate.{Result, fails}

-- "over L − 1"
unfoldable pub over : ℕ → ℕ → Bool
over a l = ltb (l - 1) a

-- "Address over L − 1, or address plus count over L": neither
unfoldable pub in_range : ℕ → ℕ → ℕ → Bool
in_range a n l = not (over a l or ltb l (a + n))

-- READ: ".. 05/21/00. Then any block outside a data track: 05/64/00."; K2: "range and 05/64/00 follow READ with audio in place of data".
-- `all` says that no block lies outside such a track, and `r` is what comes of it then
unfoldable pub ranged : Bool → ℕ → ℕ → ℕ → Result Deck → Result Deck
ranged all a n l r = choose in_range a n l then (choose all then r else fails IllegalMode) else fails OutOfRange
