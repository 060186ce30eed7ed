-- The calls on the changer, and what an event tells: all of it read off calls, answers, deck, home and slots, never off the attentions.
use Rattle.std.specs.Prelude.{ℕ, ◌≡◌, Bool, true, false, not, List, [], length, eqb}
use Rattle.ground.specs.Tests.{◌and◌, ◌or◌}
use Rattle.disc.specs.Rules.{is_fit}
use Rattle.gate.specs.Gate.{Reply}
use Rattle.event.specs.EventAnswer.{is_clearing}
use Rattle.changer.specs.declared.Slot.{Slot}
use Rattle.changer.specs.declared.Changer.{Changer}
use Rattle.changer.specs.Slot.{slot_at}
use Rattle.changer.specs.Mechanism.{Mechanism, lo_unlo, starts, named_slot}
use Rattle.changer.specs.Changer.{power_on, power_on_without_change, moves_on}
use Rattle.changer.specs.ChangerPacket.{mechanism_of, is_load_unload, state_of, answer as reply_to}
use Rattle.claims.specs.Telling.{Attention, power, change, pending, any_pending, Answer as Given, answer_of, is_good, tells_to}
use Rattle.claims.specs.Call.{Form, by_default, without_change, numbered, is_request_sense, is_needing}
use Rattle.claims.specs.MediaEvent.{Media, pressed, loaded, opened, is_poll}
use Rattle.claims.specs.History as past
use Rattle.claims.specs.History.{Event}
use Rattle.claims.specs.Carried.{BoardWith, answer_on, next_on}

-- power-on in either form, K2's outside call, by k blocks, and a packet with its bytes, its lent table, K4's parameter list, its response
-- memory and the slots lent: "The changer has no tray calls"
pub data Call : Type 0 where
  powering : Form → Call
  moving_on : (k : ℕ) → Call
  packet : (bytes table list memory : List ℕ) (slots : List Slot) → Call

-- what a call answers: what a call on the drive does, and beside it the slots as the call leaves them; a packet alone has some
pub record Answer : Type 0 where
  pub given : Given
  pub slots : List Slot

-- the answer of a call that is no packet
abbrev pub plain : ℕ → Answer
plain n = record { given = numbered n; slots = [] }

-- a packet's answer, of the response memory that it was lent
abbrev pub answer_with : List ℕ → Reply Mechanism → Answer
answer_with memory r = record { given = answer_of memory r; slots = r.deck.slots }

-- what the call answers
abbrev pub answer : Call → Changer → Answer
answer (powering f) c = plain 0
answer (moving_on k) c = plain (moves_on k c).number
answer (packet p t l m s) c = answer_with m (reply_to c s p t l (length m))

-- the state after it
abbrev pub next : Call → Changer → Changer
next (powering by_default) c = power_on c
next (powering without_change) c = power_on_without_change c
next (moving_on k) c = (moves_on k c).state
next (packet p t l m s) c = state_of (reply_to c s p t l (length m))

-- ---- the changer's histories

abbrev pub Happening : Type 0
Happening = Event Call Changer Answer

abbrev pub event : Call → Changer → Happening
event = past.event answer next

-- the calls made one after the other on a handed state
abbrev pub history : Changer → List Call → List Happening
history = past.history answer next

-- the state after them
abbrev pub final : Changer → List Call → Changer
final = past.final answer next

-- the attention is pending in the state, and: one of the two is
abbrev pub is_pending : Attention → Changer → Bool
is_pending k c = pending k c.drive.unit

abbrev pub is_attending : Changer → Bool
is_attending c = any_pending c.drive.unit

-- ---- causes

abbrev pub is_powering : Call → Bool
is_powering (powering f) = true
is_powering (moving_on k) = false
is_powering (packet p t l m s) = false

-- a packet whose bytes are such
abbrev pub is_packet : (List ℕ → Bool) → Call → Bool
is_packet such (powering f) = false
is_packet such (moving_on k) = false
is_packet such (packet p t l m s) = such p

-- "Power-on", in either form
abbrev pub is_power_on : Happening → Bool
is_power_on e = is_powering e.call

-- "Load (LoUnlo 1, Start 1)", by A6h
abbrev pub is_load : List ℕ → Bool
is_load p = is_load_unload p and lo_unlo p and starts p

-- "first returns the drive's disc to its home, then takes the named slot's": then slot i holds a disc, its own or the drive's, whose home it is
abbrev pub holds : ℕ → Mechanism → Bool
holds i m = (slot_at m.slots i).present or (m.deck.disc_in and eqb i m.home)

-- a Load of a slot that holds a disc
abbrev pub taking : List ℕ → Mechanism → Bool
taking p m = is_load p and holds (named_slot p) m

abbrev pub takes_disc : Call → Changer → Bool
takes_disc (powering f) c = false
takes_disc (moving_on k) c = false
takes_disc (packet p t l m s) c = taking p (mechanism_of c s)

-- "then takes the named slot's .., and it is a loading for demand 3. From an empty slot .. it .. is no loading.": such a Load was answered GOOD
abbrev pub is_loading : Happening → Bool
is_loading e = takes_disc e.call e.old and is_good e.answer.given

-- "a power-on or a loading"
abbrev pub is_cause : Happening → Bool
is_cause e = is_power_on e or is_loading e

-- "Power-on ..: power attention pending"; "Loading ..: the change attention becomes pending"; no power-on is K3's "with a loaded disc", since
-- "Power-on takes .. an empty closed drive"
abbrev pub causes : Attention → Happening → Bool
causes power e = is_power_on e
causes change e = is_loading e

-- ---- tellings

-- "no later answer told it": a packet's answer alone can tell an attention
abbrev pub tells : Attention → Happening → Bool
tells k e = is_packet (λ p. tells_to k (is_request_sense p) e.old.drive.unit e.answer.given e.new.drive.unit) e.call

-- ---- successes

-- a packet that needs a disc was answered GOOD; A6h, BDh and 1Bh with LoEj 1 need none
abbrev pub is_success : Happening → Bool
is_success e = is_packet is_needing e.call and is_good e.answer.given

-- ---- the media event

-- "first returns the drive's disc to its home", or "only returns the disc": A6h was answered GOOD with a disc in the drive
abbrev pub is_returning : Happening → Bool
is_returning e = (is_packet is_load_unload e.call and e.old.drive.deck.disc_in) and is_good e.answer.given

-- which of K7's three the event of a history is: there is no button; "2 loading"; "3 opening with a disc", which "A return is .. for K2 and K7",
-- where it is not followed by the loading of the same Load
abbrev pub happens : Media → Happening → Bool
happens pressed e = false
happens loaded e = is_loading e
happens opened e = is_returning e and not (is_loading e)

-- K7: "A media answer of at least five bytes clears the event."
abbrev pub clears : Happening → Bool
clears e = is_packet is_poll e.call and is_good e.answer.given and is_clearing e.answer.given.full e.answer.given.limit

-- a loading or a return happens, or an answer clears: what was waiting then waits no longer
abbrev pub replaces : Happening → Bool
replaces e = (is_loading e or is_returning e) or clears e

-- ---- runs

-- the same call, or the same packet with the same memory and slots, any two parameter lists, and one table or two fit ones
pub data Alike : Call → Call → Type 0 where
  same : (c : Call) → Alike c c
  lists : (p t m : List ℕ) (s : List Slot) {k l : List ℕ} → Alike (packet p t k m s) (packet p t l m s)
  tables : (p m : List ℕ) (s : List Slot) {t u k l : List ℕ} → is_fit t ≡ true → is_fit u ≡ true → Alike (packet p t k m s) (packet p u l m s)

-- "Demand 3's runs share the slot records", and K4: "share the lent parameter list": the same call, or the same packet with the same list, memory
-- and slots and two fit tables
pub data Sharing : Call → Call → Type 0 where
  itself : (c : Call) → Sharing c c
  fitting : (p l m : List ℕ) (s : List Slot) {t u : List ℕ} → is_fit t ≡ true → is_fit u ≡ true → Sharing (packet p t l m s) (packet p u l m s)

-- what a caller lends from call to call: the response memory, and "The slot records .. in memory that the caller lends"
pub record Lent : Type 0 where
  pub response : List ℕ
  pub slots : List Slot

-- the call, lent these in place of its own
abbrev pub lend : Lent → Call → Call
lend b (powering f) = powering f
lend b (moving_on k) = moving_on k
lend b (packet p t l m s) = packet p t l b.response b.slots

-- what a call with that answer leaves in them: one that is no packet leaves them as they were
abbrev pub left : Call → Answer → Lent → Lent
left (powering f) a b = b
left (moving_on k) a b = b
left (packet p t l m s) a b = record { response = a.given.memory; slots = a.slots }

-- the changer with one response memory and one set of slot records, each call lent what the one before left
abbrev pub Board : Type 0
Board = BoardWith Lent Changer

abbrev pub history_on : Board → List Call → List (Event Call Board Answer)
history_on = past.history (answer_on answer next lend left) (next_on answer next lend left)

abbrev pub final_on : Board → List Call → Board
final_on = past.final (answer_on answer next lend left) (next_on answer next lend left)
