-- "Steps for a packet", over any deck: a command's result names no attention, and the gate decides what is told.
use Rattle.std.specs.Prelude.{ℕ, Bool, List, [], ◌∷◌, Option, Some, None}
use Rattle.attention.specs.declared.sense.Sense.{Sense}
use Rattle.attention.specs.declared.Unit.{Unit}
use Rattle.attention.specs.Unit.{attend}
use Rattle.gate.specs.declared.fault.Fault.{Fault}
use Rattle.gate.specs.declared.unit.Pending.{Pending}
use Rattle.gate.specs.declared.unit.Pending.TheVariants.{Power, Change}
use Rattle.gate.specs.Fault.{sense_of}
use Rattle.gate.specs.Unit.{hold, clear, pending_of, attention_sense, told, give}

-- what a command comes to: it fails, or it goes well with the next deck, whether that was a loading, its full answer,
-- how many bytes of it are asked for, and the blocks that it names
pub data Result (M : Type 0) : Type 0 where
  fails : Fault → Result M
  goes : (next : M) (loading : Bool) (full : List ℕ) (limit start count : ℕ) → Result M

-- a packet's answer, with the full bytes before cutting; K6: beside refusal 4 the first broken rule, else 0
pub record Reply (M : Type 0) : Type 0 where
  pub number : ℕ
  pub rule : ℕ
  pub status : ℕ
  pub full : List ℕ
  pub limit : ℕ
  pub start : ℕ
  pub count : ℕ
  pub unit : Unit
  pub deck : M

-- "18 bytes, byte 0 70h, 2 key, 7 0Ah, 12 ASC, 13 ASCQ, others 0"
abbrev pub sense_bytes : Sense → List ℕ
sense_bytes s =
    0x70 ∷ 0 ∷ s.key ∷ 0 ∷ 0 ∷ 0 ∷ 0 ∷ 0x0A ∷ 0 ∷ 0 ∷ 0 ∷ 0 ∷ s.asc ∷ s.ascq ∷ 0 ∷ 0 ∷ 0 ∷ 0 ∷ []

module _ {M : Type 0} where
  -- a refusal: "status 0, 0 bytes, start 0, count 0", and the state unchanged
  abbrev pub refuse : ℕ → ℕ → Unit → M → Reply M
  refuse n r u m = record { number = n; rule = r; status = 0; full = []; limit = 0; start = 0; count = 0; unit = u; deck = m }

  -- "CHECK CONDITION is status 02h, no bytes, .., the triple held as sense and, save for the attention in step 2, nothing else changed."
  abbrev pub check : Sense → Unit → M → Reply M
  check s u m = record { number = 0; rule = 0; status = 0x02; full = []; limit = 0; start = 0; count = 0; unit = hold s u; deck = m }

  -- "GOOD is status 00h"
  abbrev pub good : List ℕ → ℕ → ℕ → ℕ → Unit → M → Reply M
  good full limit start count u m =
      record { number = 0; rule = 0; status = 0x00; full = full; limit = limit; start = start; count = count; unit = u; deck = m }

  -- a command's result becomes the answer: GOOD clears the sense, and a loading makes the change attention pending
  abbrev pub settle : Unit → M → Result M → Reply M
  settle u m (fails f) = check (sense_of f) u m
  settle u m (goes next loading full limit start count) = good full limit start count (attend loading (clear u)) next

  -- step 1: "performed even with an attention pending"; "but INQUIRY leaves it", the sense; K7: 4Ah "leaves the sense when GOOD" too
  abbrev pub pass : Unit → M → Result M → Reply M
  pass u m (fails f) = check (sense_of f) u m
  pass u m (goes next loading full limit start count) = good full limit start count (attend loading u) next

  -- step 2: "CHECK CONDITION with 06/29/00 or 06/28/00. That one stops being pending. This is a telling."
  abbrev pub meet : Option Pending → Unit → M → Result M → Reply M
  meet (Some Power) u m r = check (attention_sense (Some Power)) (told (Some Power) u) m
  meet (Some Change) u m r = check (attention_sense (Some Change)) (told (Some Change) u) m
  meet None u m r = settle u m r

  unfoldable pub gate : Unit → M → Result M → Reply M
  gate u m r = meet (pending_of u) u m r

  -- REQUEST SENSE, its length the limit
  abbrev pub request_sense : ℕ → Unit → M → Reply M
  request_sense limit u m = good (sense_bytes (give u).sense) limit 0 0 (give u).unit m
