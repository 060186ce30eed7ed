-- A packet met by the changer: the refusals 1, 2, 3, 11, 4, then the drive's own steps, or those of A6h, BDh and 1Bh with LoEj 1.
use Rattle.std.specs.Prelude.{ℕ, min, ◌≡◌, Bool, not, List, ◌++◌, length, take, drop, eqb, ltb}
use Rattle.ground.specs.Tests.{◌and◌, ◌or◌, choose◌then◌else◌}
use Rattle.ground.specs.Memory.{fill}
use Rattle.attention.specs.declared.Unit.{Unit}
use Rattle.deck.specs.declared.Deck.{Deck}
use Rattle.deck.specs.Deck.{is_loaded}
use Rattle.drive.specs.State.{is_known_state, unknown_state}
use Rattle.table.specs.Layout.{bound}
use Rattle.disc.specs.Rules.{is_fit}
use Rattle.disc.specs.Part.{unfit, rule_with}
use Rattle.gate.specs.declared.fault.Fault.TheVariants.{BadField}
use Rattle.gate.specs.Gate.{Result, fails, Reply, refuse, gate}
use Rattle.command.specs.Command.{code_of, decode, lo_ej}
use Rattle.target.specs.Packet.{not_twelve, short_memory}
use Rattle.target.specs.Packet as drive
use Rattle.changer.specs.declared.Slot.{Slot}
use Rattle.changer.specs.declared.Changer.{Changer}
use Rattle.outcome.specs.declared.Outcome.{Outcome}
use Rattle.changer.specs.declared.Lent.{Lent}
use Rattle.changer.specs.Mechanism.{Mechanism, lo_unlo, starts, named_slot, load_unload}
use Rattle.changer.specs.Status.{status_length, mechanism_status}
use Rattle.changer.specs.Changer.{out_of_order, is_in_order}

-- the drive's deck, the home and the slots, of a state and the slots lent
abbrev pub mechanism_of : Changer → List Slot → Mechanism
mechanism_of c s = record { deck = c.drive.deck; home = c.home; slots = s }

-- "LOAD/UNLOAD A6h", "MECHANISM STATUS BDh", "its 1Bh with LoEj 1"
abbrev pub is_load_unload : List ℕ → Bool
is_load_unload p = eqb (code_of p) 0xA6

abbrev pub is_status : List ℕ → Bool
is_status p = eqb (code_of p) 0xBD

abbrev pub is_tray : List ℕ → Bool
is_tray p = eqb (code_of p) 0x1B and lo_ej p

-- the packets that are not answered as by the drive
unfoldable pub is_own : List ℕ → Bool
is_own p = is_load_unload p or is_status p or is_tray p

-- step 5 of these: "its 1Bh with LoEj 1 is 05/24/00"
unfoldable pub own : List ℕ → Mechanism → Result Mechanism
own p m =
    choose is_load_unload p then load_unload (lo_unlo p) (starts p) (named_slot p) m
    else (choose is_status p then mechanism_status (status_length p) m else fails BadField)

-- an answer of the drive's: home and slots stay as they were
abbrev pub carried : Mechanism → Reply Deck → Reply Mechanism
carried m r = record {
  number = r.number;
  rule = r.rule;
  status = r.status;
  full = r.full;
  limit = r.limit;
  start = r.start;
  count = r.count;
  unit = r.unit;
  deck = record { deck = r.deck; home = m.home; slots = m.slots };
}

-- the steps: any other packet is the drive's own
unfoldable pub steps : Unit → Mechanism → List ℕ → List ℕ → List ℕ → Reply Mechanism
steps u m p t l =
    choose is_own p then gate u m (own p m)
    else carried m (drive.steps (decode (code_of p)) u m.deck p t l)

-- "Refusals: 11, after 3": 1, 2, 3, 11 and then 4, where a disc is in the drive; n is the length of the response memory
unfoldable pub refusal_of : Changer → List Slot → List ℕ → List ℕ → ℕ → ℕ
refusal_of c s p t n =
    choose not (eqb (length p) 12) then not_twelve
    else (choose not (is_known_state c.drive) then unknown_state
    else (choose ltb n bound then short_memory
    else (choose not (is_in_order c s) then out_of_order
    else (choose is_loaded c.drive.deck and not (is_fit t) then unfit else 0))))

-- the answer to the packet p with the slots s, the table t, the parameter list l and a response memory of n bytes
unfoldable pub answer : Changer → List Slot → List ℕ → List ℕ → List ℕ → ℕ → Reply Mechanism
answer c s p t l n =
    choose eqb (refusal_of c s p t n) 0 then steps c.drive.unit (mechanism_of c s) p t l
    else refuse (refusal_of c s p t n) (rule_with (refusal_of c s p t n) t) c.drive.unit (mechanism_of c s)

-- ---- what is handed back of an answer

-- the state after the answer
abbrev pub state_of : Reply Mechanism → Changer
state_of a = record { drive = record { unit = a.unit; deck = a.deck.deck }; home = a.deck.home }

-- "the bytes are the first n of the full answer, n the smaller of the two lengths"
abbrev pub bytes_of : Reply Mechanism → List ℕ
bytes_of a = take a.limit a.full

abbrev pub outcome_of : Reply Mechanism → Outcome Changer
outcome_of a = record {
  number = a.number;
  rule = a.rule;
  status = a.status;
  len = min a.limit (length a.full);
  start = a.start;
  count = a.count;
  state = state_of a;
}

-- the outcome r, the memory m' and the slots s' are what the answer says, of the memory m
pub record Answered (a : Reply Mechanism) (m : List ℕ) (r : Outcome Changer) (m' : List ℕ) (s' : List Slot) : Type 0 where
  pub outcome : r ≡ outcome_of a
  pub memory : m' ≡ fill m (bytes_of a)
  pub slots : s' ≡ a.deck.slots

-- where the slots are the first n of s: the outcome and the memory m' are what the answer says, of the memory m, and so are the first slots;
-- the others stay as they were
pub record AnsweredOn (c : Changer) (s : List Slot) (n : ℕ) (p t l m : List ℕ) (r : Lent) (m' : List ℕ) : Type 0 where
  pub outcome : r.outcome ≡ outcome_of (answer c (take n s) p t l (length m))
  pub memory : m' ≡ fill m (bytes_of (answer c (take n s) p t l (length m)))
  pub slots : r.slots ≡ (answer c (take n s) p t l (length m)).deck.slots ++ drop n s
