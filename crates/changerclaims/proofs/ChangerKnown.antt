-- Demand 1, of the states that the changer hands back: no state that a packet hands back meets 2, nor 11 with the slots that it left, where
-- the one that it was handed did not; and power-on hands back none that meets 2, and 11 then asks for 1 to 31 slots alone.
use Rattle.std.specs.Prelude.{◌≡◌, true, false, List, ℕ, length, eqb, leb}
use Rattle.drive.specs.State.{is_known_state}
use Rattle.ground.specs.Tests.{◌and◌}
use Rattle.changer.specs.declared.Slot.{Slot}
use Rattle.changer.specs.declared.Changer.{Changer}
use Rattle.changer.specs.Changer.{is_in_order, power_on, power_on_without_change, moves_on}
use Rattle.changer.specs.ChangerPacket.{answer, state_of}
use Rattle.changerclaims.proofs.ChangerKnownLaws.{power_known, answer-known, moves_known, answer_order, moves_order, power_order, answer-not-2, answer-not-11}

-- ---- refusal 2

-- power-on, in both forms, hands back a state that 2 does not meet, whatever it was handed
pub changer_known_power : (c : Changer) → (is_known_state (power_on c).drive ≡ true) × (is_known_state (power_on_without_change c).drive ≡ true)
changer_known_power = power_known

-- and any packet does, where it was handed one, refused or not
pub changer_known-next : (c : Changer) (s : List Slot) (p t l : List ℕ) (n : ℕ) → is_known_state c.drive ≡ true
    → is_known_state (state_of (answer c s p t l n)).drive ≡ true
changer_known-next = answer-known

-- and K2's outside call
pub changer_known_move : (k : ℕ) (c : Changer) → is_known_state c.drive ≡ true → is_known_state (moves_on k c).state.drive ≡ true
changer_known_move = moves_known

-- ---- refusal 11

-- after a power-on it asks for 1 to 31 slots alone
pub changer_order_power : (c : Changer) (s : List Slot)
    → (is_in_order (power_on c) s ≡ leb 1 (length s) and leb (length s) 31)
    × (is_in_order (power_on_without_change c) s ≡ leb 1 (length s) and leb (length s) 31)
changer_order_power = power_order

-- and any packet leaves a state in order with the slots that it leaves, where it was handed one
pub changer_order-next : (c : Changer) (s : List Slot) (p t l : List ℕ) (n : ℕ) → is_in_order c s ≡ true
    → is_in_order (state_of (answer c s p t l n)) (answer c s p t l n).deck.slots ≡ true
changer_order-next = answer_order

-- and the outside call, with the same slots
pub changer_order_move : (k : ℕ) (c : Changer) (s : List Slot) → is_in_order c s ≡ true → is_in_order (moves_on k c).state s ≡ true
changer_order_move = moves_order

-- ---- so neither is given: 2 to a known state, 11 to one in order

pub changer_known_not_2 : (c : Changer) (s : List Slot) (p t l : List ℕ) (n : ℕ) → is_known_state c.drive ≡ true
    → eqb (answer c s p t l n).number 2 ≡ false
changer_known_not_2 = answer-not-2

pub changer_order_not_11 : (c : Changer) (s : List Slot) (p t l : List ℕ) (n : ℕ) → is_in_order c s ≡ true → eqb (answer c s p t l n).number 11 ≡ false
changer_order_not_11 = answer-not-11
