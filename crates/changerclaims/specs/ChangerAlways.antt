-- Demand 1 over histories of the changer, where each call is lent the slots that the one before left: from power-on, over any calls, no state
-- meets refusal 2, and none meets 11 where there are 1 to 31 slots. K11: "the discs in slots and drive keep their total over every packet":
-- over any run of them.
use Rattle.std.specs.Prelude.{◌≡◌, true, ℕ}
use Rattle.drive.specs.State.{is_known_state}
use Rattle.claims.specs.Carried.{next_on}
use Rattle.changer.specs.Changer.{is_in_order}
use Rattle.changerclaims.specs.ChangerCall.{Call, answer, next, Board, lend, left}
use Rattle.changerclaims.specs.ChangerDiscs.{discs}

-- state and slots, after one call
abbrev pub after : Call → Board → Board
after = next_on answer next lend left

-- ---- refusal 2

abbrev pub Known : Board → Type 0
Known b = is_known_state b.state.drive ≡ true

-- ---- refusal 11

abbrev pub InOrder : Board → Type 0
InOrder b = is_in_order b.state b.memory.slots ≡ true

-- ---- the discs

abbrev pub discs_on : Board → ℕ
discs_on b = discs b.state b.memory.slots
