-- What the code hands back of a packet's answer.
use Rattle.std.specs.Prelude.{ℕ, min, ◌≡◌, List, length, take, Ok, Err}
use Rattle.ground.specs.Memory.{fill}
use Rattle.attention.specs.declared.sense.Sense.{Sense}
use Rattle.attention.specs.declared.Unit.{Unit}
use Rattle.deck.specs.declared.Deck.{Deck}
use Rattle.drive.specs.declared.state.Drive.{Drive}
use Rattle.attention.specs.Unit.{attend}
use Rattle.gate.specs.Fault.{sense_of}
use Rattle.gate.specs.Unit.{hold}
use Rattle.gate.specs.Gate.{Reply}
use Rattle.command.specs.Done.{Done}
use Rattle.outcome.specs.declared.Outcome.{Outcome}

-- the state after the answer
abbrev pub state_of : Reply Deck → Drive
state_of a = record { unit = a.unit; deck = a.deck }

-- "the bytes are the first n of the full answer, n the smaller of the two lengths"
abbrev pub bytes_of : Reply Deck → List ℕ
bytes_of a = take a.limit a.full

-- what is handed back of an answer: its number and rule, status, how many bytes, start, count, and the state
abbrev pub outcome_of : Reply Deck → Outcome Drive
outcome_of a = record {
  number = a.number;
  rule = a.rule;
  status = a.status;
  len = min a.limit (length a.full);
  start = a.start;
  count = a.count;
  state = state_of a;
}

-- the outcome r and the memory m' are what the answer says, of the memory m
pub record Answered (a : Reply Deck) (m : List ℕ) (r : Outcome Drive) (m' : List ℕ) : Type 0 where
  pub outcome : r ≡ outcome_of a
  pub memory : m' ≡ fill m (bytes_of a)

-- the same beside another state
abbrev pub with_state : {S T : Type 0} → Outcome S → T → Outcome T
with_state o s = record { number = o.number; rule = o.rule; status = o.status; len = o.len; start = o.start; count = o.count; state = s }

-- ---- what each way out hands back

-- a refusal: "status 0, 0 bytes, start 0, count 0", the state unchanged
abbrev pub refused : {S : Type 0} → ℕ → ℕ → S → Outcome S
refused n r d = record { number = n; rule = r; status = 0; len = 0; start = 0; count = 0; state = d }

-- "CHECK CONDITION is status 02h, no bytes, .., the triple held as sense"
abbrev pub checked : Sense → Unit → Deck → Outcome Drive
checked s u m =
    record { number = 0; rule = 0; status = 0x02; len = 0; start = 0; count = 0; state = record { unit = hold s u; deck = m } }

-- "GOOD is status 00h"
abbrev pub granted : ℕ → ℕ → ℕ → Unit → Deck → Outcome Drive
granted len start count u m =
    record { number = 0; rule = 0; status = 0x00; len = len; start = start; count = count; state = record { unit = u; deck = m } }

-- a command's end: CHECK CONDITION over the unit u, or GOOD over the unit v, a loading attended to
abbrev pub finished : Unit → Unit → Deck → Done → Outcome Drive
finished u v m (Err f) = checked (sense_of f) u m
finished u v m (Ok w) = granted w.len w.start w.count (attend w.loading v) w.next
