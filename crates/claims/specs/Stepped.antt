-- A run of steps on Disc E: each meets the state that the one before left, and has its marked result and what the deck then keeps.
use Rattle.std.specs.Prelude.{ℕ, Bool, true, List, [], ◌∷◌}
use Rattle.ground.specs.Tests.{◌and◌}
use Rattle.deck.specs.declared.Deck.{Deck}
use Rattle.drive.specs.declared.state.Drive.{Drive}
use Rattle.drive.specs.State.{power_on, button, move_on}
use Rattle.table.specs.Layout.{bound}
use Rattle.outcome.specs.Outcome.{state_of}
use Rattle.target.specs.Packet.{answer}
use Rattle.claims.specs.Marked.{table_e, Outcome, shown_by, same_outcome}

-- a packet with Table E and 6,538 bytes of response memory, without a parameter list or with one; the outside call, by k blocks; power-on by
-- default; a press of the button
pub data Step : Type 0 where
  packet : (bytes : List ℕ) → Step
  lends : (list bytes : List ℕ) → Step
  moves : (k : ℕ) → Step
  powers : Step
  presses : Step

-- of a call that is no packet: its number, the sense held afterwards, and the rest 0
abbrev numbered : ℕ → Drive → Outcome
numbered n d = record { number = n; rule = 0; status = 0x00; sense = d.unit.sense; shown = []; start = 0; count = 0 }

-- what comes of it, and the state after it
unfoldable pub comes : Step → Drive → Outcome
comes (packet p) d = shown_by (answer d p table_e [] bound)
comes (lends l p) d = shown_by (answer d p table_e l bound)
comes (moves k) d = numbered (move_on k d).number (move_on k d).state
comes powers d = numbered 0 (power_on d)
comes presses d = numbered (button d).number (button d).state

unfoldable pub after : Step → Drive → Drive
after (packet p) d = state_of (answer d p table_e [] bound)
after (lends l p) d = state_of (answer d p table_e l bound)
after (moves k) d = (move_on k d).state
after powers d = power_on d
after presses d = (button d).state

-- a step, its marked result, and what is marked of the deck after it
pub record Mark : Type 0 where
  pub step : Step
  pub result : Outcome
  pub keeps : Deck → Bool

abbrev pub mark : Step → Outcome → (Deck → Bool) → Mark
mark s r k = record { step = s; result = r; keeps = k }

-- each step comes out as marked
unfoldable pub all_stepped : Drive → List Mark → Bool
unfolding ◌and◌
all_stepped d [] = true
all_stepped d (m ∷ ms) =
    same_outcome (comes m.step d) m.result
    and m.keeps (after m.step d).deck
    and all_stepped (after m.step d) ms
