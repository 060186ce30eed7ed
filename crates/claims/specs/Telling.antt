-- The two attentions, what a packet answers, and when an answer tells an attention: over any deck.
use Rattle.std.specs.Prelude.{ℕ, Bool, List, get_or, take, eqb}
use Rattle.ground.specs.Tests.{◌and◌, ◌or◌}
use Rattle.ground.specs.Memory.{fill}
use Rattle.attention.specs.declared.sense.Sense.{Sense}
use Rattle.attention.specs.declared.Unit.{Unit}
use Rattle.attention.specs.Sense.{triple, same_sense}
use Rattle.gate.specs.Gate.{Reply}

-- "power attention; change attention"
pub data Attention : Type 0 where
  power : Attention
  change : Attention

-- the attention is pending in the state
abbrev pub pending : Attention → Unit → Bool
pending power u = u.power
pending change u = u.change

-- one of the two is
abbrev pub any_pending : Unit → Bool
any_pending u = pending power u or pending change u

-- "06/28/00 change; 06/29/00 power-on"
abbrev pub triple_of : Attention → Sense
triple_of power = triple 0x06 0x29 0x00
triple_of change = triple 0x06 0x28 0x00

-- what a call answers: the refusal's number or 0, beside 4 the first broken rule, status, the full bytes before cutting, how many of
-- them are asked for, start, count, and what the response memory holds afterwards
pub record Answer : Type 0 where
  pub number : ℕ
  pub rule : ℕ
  pub status : ℕ
  pub full : List ℕ
  pub limit : ℕ
  pub start : ℕ
  pub count : ℕ
  pub memory : List ℕ

-- a packet's answer, of the response memory that it was lent
abbrev pub answer_of : {M : Type 0} → List ℕ → Reply M → Answer
answer_of memory r = record {
  number = r.number;
  rule = r.rule;
  status = r.status;
  full = r.full;
  limit = r.limit;
  start = r.start;
  count = r.count;
  memory = fill memory (take r.limit r.full);
}

-- "CHECK CONDITION is status 02h"
abbrev pub is_check : Answer → Bool
is_check a = eqb a.number 0 and eqb a.status 0x02

-- "GOOD is status 00h"
abbrev pub is_good : Answer → Bool
is_good a = eqb a.number 0 and eqb a.status 0x00

-- the triple that REQUEST SENSE's full answer shows: "2 key, .., 12 ASC, 13 ASCQ"
abbrev pub shown_in : List ℕ → Sense
shown_in b = triple (get_or b 2 0) (get_or b 12 0) (get_or b 13 0)

-- "CHECK CONDITION with 06/29/00 or 06/28/00. .. This is a telling."
abbrev pub tells_by_check : Attention → Answer → Unit → Bool
tells_by_check k a new = is_check a and same_sense new.sense (triple_of k)

-- REQUEST SENSE: "A held sense other than 00/00/00 is given ... Otherwise a pending attention .. is given and cleared; that is a telling too."
abbrev pub tells_by_giving : Attention → Unit → Answer → Bool
tells_by_giving k old a = is_good a and same_sense old.sense (triple 0x00 0x00 0x00) and same_sense (shown_in a.full) (triple_of k)

-- a packet's answer tells the attention; `asks` says that the packet is REQUEST SENSE
abbrev pub tells_to : Attention → Bool → Unit → Answer → Unit → Bool
tells_to k asks old a new = tells_by_check k a new or (asks and tells_by_giving k old a)
