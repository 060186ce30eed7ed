-- The calls on the drive, and what an event tells: all of it read off calls, answers and deck, never off the attentions.
use Rattle.std.specs.Prelude.{ℕ, ◌≡◌, Bool, true, false, not, List, [], length, eqb}
use Rattle.ground.specs.Tests.{◌and◌, ◌or◌}
use Rattle.deck.specs.declared.Deck.{Deck}
use Rattle.drive.specs.declared.state.Drive.{Drive}
use Rattle.deck.specs.Deck.{is_loaded}
use Rattle.drive.specs.State.{power_on, power_on_without_change, button, lay, lift, move_on}
use Rattle.disc.specs.Rules.{is_fit}
use Rattle.command.specs.Command.{code_of, lo_ej, start}
use Rattle.outcome.specs.Outcome.{state_of}
use Rattle.target.specs.Packet.{answer as reply_to}
use Rattle.claims.specs.Telling.{Attention, power, change, pending, any_pending, Answer, answer_of, is_good, tells_to}
use Rattle.claims.specs.History as past
use Rattle.claims.specs.History.{Event}
use Rattle.claims.specs.Carried.{Board, answer_on, next_on}

-- K3: the two forms of power-on, that "by default" and "A second form"
pub data Form : Type 0 where
  by_default : Form
  without_change : Form

-- power-on in either form, button, laying, lifting, K2's outside call, by k blocks, and a packet with its bytes, its lent table, K4's parameter
-- list and its response memory: "They and the packets are the calls on the drive."
pub data Call : Type 0 where
  powering : Form → Call
  pressing : Call
  laying : Call
  lifting : Call
  moving_on : (k : ℕ) → Call
  packet : (bytes table list memory : List ℕ) → Call

-- the response memory that is lent: a packet alone has one
abbrev pub memory_of : Call → List ℕ
memory_of (powering f) = []
memory_of pressing = []
memory_of laying = []
memory_of lifting = []
memory_of (moving_on k) = []
memory_of (packet p t l m) = m

-- the answer of a call that is no packet: no rule stands beside its number
abbrev pub numbered : ℕ → Answer
numbered n = record { number = n; rule = 0; status = 0; full = []; limit = 0; start = 0; count = 0; memory = [] }

-- what the call answers
abbrev pub answer : Call → Drive → Answer
answer (powering f) d = numbered 0
answer pressing d = numbered (button d).number
answer laying d = numbered (lay d).number
answer lifting d = numbered (lift d).number
answer (moving_on k) d = numbered (move_on k d).number
answer (packet p t l m) d = answer_of m (reply_to d p t l (length m))

-- the state after it
abbrev pub next : Call → Drive → Drive
next (powering by_default) d = power_on d
next (powering without_change) d = power_on_without_change d
next pressing d = (button d).state
next laying d = (lay d).state
next lifting d = (lift d).state
next (moving_on k) d = (move_on k d).state
next (packet p t l m) d = state_of (reply_to d p t l (length m))

-- ---- the drive's histories

abbrev pub Happening : Type 0
Happening = Event Call Drive Answer

abbrev pub event : Call → Drive → Happening
event = past.event answer next

-- the calls made one after the other on a handed state
abbrev pub history : Drive → List Call → List Happening
history = past.history answer next

-- the state after them
abbrev pub final : Drive → List Call → Drive
final = past.final answer next

-- the attention is pending in the state, and: one of the two is
abbrev pub is_pending : Attention → Drive → Bool
is_pending k d = pending k d.unit

abbrev pub is_attending : Drive → Bool
is_attending d = any_pending d.unit

-- 1Bh, START/STOP UNIT, with LoEj 1: "Eject (1,0)" or "Load (1,1)"
abbrev pub is_eject_or_load : List ℕ → Bool
is_eject_or_load p = eqb (code_of p) 0x1B and lo_ej p

-- ---- causes

abbrev pub is_powering : Call → Bool
is_powering (powering f) = true
is_powering pressing = false
is_powering laying = false
is_powering lifting = false
is_powering (moving_on k) = false
is_powering (packet p t l m) = false

-- a press of the button
abbrev pub is_pressing : Call → Bool
is_pressing (powering f) = false
is_pressing pressing = true
is_pressing laying = false
is_pressing lifting = false
is_pressing (moving_on k) = false
is_pressing (packet p t l m) = false

-- a packet whose bytes are such
abbrev pub is_packet : (List ℕ → Bool) → Call → Bool
is_packet such (powering f) = false
is_packet such pressing = false
is_packet such laying = false
is_packet such lifting = false
is_packet such (moving_on k) = false
is_packet such (packet p t l m) = such p

-- "Power-on (also reset)", in either form
abbrev pub is_power_on : Happening → Bool
is_power_on e = is_powering e.call

-- "by button or packet"
abbrev pub moves_tray : Call → Bool
moves_tray (powering f) = false
moves_tray pressing = true
moves_tray laying = false
moves_tray lifting = false
moves_tray (moving_on k) = false
moves_tray (packet p t l m) = true

-- the tray was open and is closed, with a disc in
abbrev pub closed : Deck → Deck → Bool
closed m n = m.tray_open and not n.tray_open and n.disc_in

-- "Loading is any closing of the tray, by button or packet, with a disc in"
abbrev pub is_loading : Happening → Bool
is_loading e = moves_tray e.call and closed e.old.deck e.new.deck

-- K3: power-on in the form "by default"
abbrev pub greets : Call → Bool
greets (powering by_default) = true
greets (powering without_change) = false
greets pressing = false
greets laying = false
greets lifting = false
greets (moving_on k) = false
greets (packet p t l m) = false

-- K3: "Power-on with a loaded disc .. by default": it meets a drive with the tray closed and a disc in
abbrev pub is_greeting : Happening → Bool
is_greeting e = greets e.call and is_loaded e.old.deck

-- "a power-on or a loading"
abbrev pub is_cause : Happening → Bool
is_cause e = is_power_on e or is_loading e

-- "Power-on ..: power attention pending"; "Loading ..: the change attention becomes pending"; K3: "demand 3 counts such a power-on as
-- a cause of the change attention"
abbrev pub causes : Attention → Happening → Bool
causes power e = is_power_on e
causes change e = is_loading e or is_greeting e

-- ---- tellings

-- "REQUEST SENSE 03h"
abbrev pub is_request_sense : List ℕ → Bool
is_request_sense p = eqb (code_of p) 0x03

-- "no later answer told it": a packet's answer alone can tell an attention
abbrev pub tells : Attention → Happening → Bool
tells k e = is_packet (λ p. tells_to k (is_request_sense p) e.old.unit e.answer e.new.unit) e.call

-- ---- successes

-- "Needing one: 00h, 25h, 28h, 2Bh, 43h, A8h, and 1Bh with LoEj 0 and Start 1."; K2: 45h, 4Bh and 42h, "These commands need a disc."
unfoldable pub is_needing : List ℕ → Bool
is_needing p =
    eqb (code_of p) 0x00
    or eqb (code_of p) 0x25
    or eqb (code_of p) 0x28
    or eqb (code_of p) 0x2B
    or eqb (code_of p) 0x43
    or eqb (code_of p) 0xA8
    or eqb (code_of p) 0x45
    or eqb (code_of p) 0x4B
    or eqb (code_of p) 0x42
    or eqb (code_of p) 0x1B and not (lo_ej p) and start p

-- a packet that needs a disc was answered GOOD
abbrev pub is_success : Happening → Bool
is_success e = is_packet is_needing e.call and is_good e.answer

-- ---- runs

-- the same call, or the same packet with the same memory, any two parameter lists, and one table or two fit ones
pub data Alike : Call → Call → Type 0 where
  same : (c : Call) → Alike c c
  lists : (p t m : List ℕ) {k l : List ℕ} → Alike (packet p t k m) (packet p t l m)
  tables : (p m : List ℕ) {t u k l : List ℕ} → is_fit t ≡ true → is_fit u ≡ true → Alike (packet p t k m) (packet p u l m)

-- K4: "Demand 3's two runs share the lent parameter list": the same call, or the same packet with the same list and memory and two fit tables
pub data Sharing : Call → Call → Type 0 where
  itself : (c : Call) → Sharing c c
  fitting : (p l m : List ℕ) {t u : List ℕ} → is_fit t ≡ true → is_fit u ≡ true → Sharing (packet p t l m) (packet p u l m)

-- the call, lent that memory in place of its own
abbrev pub lend : List ℕ → Call → Call
lend memory (powering f) = powering f
lend memory pressing = pressing
lend memory laying = laying
lend memory lifting = lifting
lend memory (moving_on k) = moving_on k
lend memory (packet p t l m) = packet p t l memory

-- and lent that table in place of its own
abbrev pub lend_table : List ℕ → Call → Call
lend_table table (powering f) = powering f
lend_table table pressing = pressing
lend_table table laying = laying
lend_table table lifting = lifting
lend_table table (moving_on k) = moving_on k
lend_table table (packet p t l m) = packet p table l m

-- what a call with that answer leaves in the memory: one that is no packet leaves it as it was
abbrev pub left : Call → Answer → List ℕ → List ℕ
left (powering f) a memory = memory
left pressing a memory = memory
left laying a memory = memory
left lifting a memory = memory
left (moving_on k) a memory = memory
left (packet p t l m) a memory = a.memory

-- the drive with one response memory, each call lent what the one before left
abbrev pub history_on : Board Drive → List Call → List (Event Call (Board Drive) Answer)
history_on = past.history (answer_on answer next lend left) (next_on answer next lend left)

abbrev pub final_on : Board Drive → List Call → Board Drive
final_on = past.final (answer_on answer next lend left) (next_on answer next lend left)
