-- "For any input a public function's promise leaves one possible result, one next state and one content of each lent memory, refusals as well."
-- A law for each public function of the changer, by its name: two results that meet its promise are equal.
use Rattle.std.specs.Prelude.{◌≡◌, List, ℕ, length}
use Rattle.claims.specs.Unique.{value_once}
use Rattle.changer.specs.declared.Slot.{Slot}
use Rattle.changer.specs.declared.Changer.{Changer}
use Rattle.changer.specs.declared.MovedOn.{MovedOn}
use Rattle.outcome.specs.declared.Outcome.{Outcome}
use Rattle.changer.specs.declared.Lent.{Lent}
use Rattle.changer.specs.Status.{flags_of}
use Rattle.changer.specs.Changer.{power_on, power_on_without_change, moves_on}
use Rattle.changer.specs.ChangerPacket.{answer, Answered, AnsweredOn}

-- the outcome, what the response memory holds then, and what the slots are then
pub unique_packet : (c : Changer) (s : List Slot) (p t l m : List ℕ) (r q : Outcome Changer) (m₁ m₂ : List ℕ) (s₁ s₂ : List Slot)
    → Answered (answer c s p t l (length m)) m r m₁ s₁ → Answered (answer c s p t l (length m)) m q m₂ s₂
    → (r ≡ q) × (m₁ ≡ m₂) × (s₁ ≡ s₂)
unique_packet c s p t l m r q m₁ m₂ s₁ s₂ a b =
    (value_once a.outcome b.outcome, value_once a.memory b.memory, value_once a.slots b.slots)

-- the same of slots that are the first n of an array, and of the rest of the array
pub unique_packet_on : (c : Changer) (s : List Slot) (n : ℕ) (p t l m : List ℕ) (r q : Lent) (m₁ m₂ : List ℕ)
    → AnsweredOn c s n p t l m r m₁ → AnsweredOn c s n p t l m q m₂ → (r ≡ q) × (m₁ ≡ m₂)
unique_packet_on c s n p t l m r q m₁ m₂ a b =
    let o = value_once a.outcome b.outcome in
    let k = value_once a.slots b.slots in
    (λ i. record { slots = k i; outcome = o i }, value_once a.memory b.memory)

pub unique_power_on : (c r s : Changer) → r ≡ power_on c → s ≡ power_on c → r ≡ s
unique_power_on c r s = value_once

pub unique_power_on_without_change : (c r s : Changer) → r ≡ power_on_without_change c → s ≡ power_on_without_change c → r ≡ s
unique_power_on_without_change c r s = value_once

pub unique_move_on : (k : ℕ) (c : Changer) (r s : MovedOn) → r ≡ moves_on k c → s ≡ moves_on k c → r ≡ s
unique_move_on k c r s = value_once

pub unique-flags : (x : Slot) (r s : ℕ) → r ≡ flags_of x → s ≡ flags_of x → r ≡ s
unique-flags x r s = value_once
