-- What one call does to the media event. It is written in four places alone, an opening, a closing, a refused press and a media answer, and
-- each shows in call, answer or tray.
use Rattle.std.specs.Prelude.{◌≡◌, Bool, not, List, [], ◌↔◌, length, eqb}
use Rattle.std.proofs.Math.Path.{refl}
use Rattle.std.proofs.Common.{ap, true≢false, arith}
use Rattle.std.proofs.Math.Bool.{true, false}
use Prim.Native.Nat.{ℕ, zero, suc, ◌≤◌}
use Rattle.std.proofs.Math.Dec.{eqb-suc-zero}
use Rattle.ground.specs.Tests.{◌and◌, ◌or◌, choose◌then◌else◌, either}
use Rattle.attention.specs.declared.sense.Sense.{Sense}
use Rattle.attention.specs.declared.Unit.{Unit}
use Rattle.deck.specs.declared.Deck.{Deck}
use Rattle.drive.specs.declared.state.Drive.{Drive}
use Rattle.drive.specs.declared.state.Moved.{Moved}
use Rattle.deck.specs.Deck.{opening, closing}
use Rattle.drive.specs.State.{is_known_state, button, lay, lift, move_on}
use Rattle.drive.specs.StateLaws.{power_on-with, power_on_without_change-with, button-unknown, button-closes, button-locked, button-opens}
use Rattle.gate.specs.Unit.{pending_of}
use Rattle.gate.specs.Gate.{Result, fails, goes, Reply, gate, pass}
use Rattle.command.specs.declared.decode.Command.{Command}
use Rattle.command.specs.declared.decode.Command.TheVariants.{GetEvent}
use Rattle.command.specs.Command.{decode, code_of}
use Rattle.command.specs.Class.{class_of}
use Rattle.command.specs.ClassLaws.{decode_is}
use Rattle.event.specs.EventAnswer.{is_clearing}
use Rattle.target.specs.Perform.{perform}
use Rattle.target.specs.Packet.{refusal_of, answer as reply_to}
use Rattle.claims.specs.Telling.{answer_of, is_good}
use Rattle.claims.proofs.UnitLaws.{Kind, asks, frees, orders, meets}
use Rattle.claims.specs.Call.{Form, by_default, without_change, Call, powering, pressing, laying, lifting, moving_on, packet, next, event, is_powering, is_power_on, closed, is_loading}
use Rattle.claims.proofs.PacketLaws.{Does, keeping, closing-it, opening-it, clearing, is_traying, is_polling, perform_does, Seen, asking, freeing, ordering, seen, kind_of, kind, rule_of, reply-kind, closed_still}
use Rattle.claims.specs.MediaEvent.{Media, pressed, loaded, opened, number_of, is_pressed, opens_on, is_opening, is_poll, happens, clears, replaces}

-- what a call did to the event, where it was a press under refusal 5, a loading, an opening with a disc, or an answer that clears
pub data Noted : (press load out clear : Bool) (old new : ℕ) → Type 0 where
  by-press : {e : ℕ} → Noted true false false false e 1
  by-load : {e : ℕ} → Noted false true false false e 2
  by-open : {e : ℕ} → Noted false false true false e 3
  by_answer : {e : ℕ} → Noted false false false true e 0
  by-none : {e : ℕ} → Noted false false false false e e

-- ---- the deck alone

pub opens_still : (m : Deck) → opens_on m m ≡ false
unfolding ◌and◌
opens_still m = go m.tray_open _
  where
    go : (b c : Bool) → not b and b and c ≡ false
    go true c = refl
    go false c = refl

-- the deck n after m, where an answer clears or not
abbrev pub NotedOn : Bool → Deck → Deck → Type 0
NotedOn clear m n = Noted false (closed m n) (opens_on m n) clear m.event n.event

still_noted : (m : Deck) → NotedOn false m m
still_noted m = rw (closed_still m, opens_still m) by-none

closing_noted : (m : Deck) → m.tray_open ≡ true → NotedOn false m (closing m).deck
unfolding ◌and◌ choose◌then◌else◌
closing_noted m h = go m.disc_in refl
  where
    go : (b : Bool) → m.disc_in ≡ b → NotedOn false m (closing m).deck
    go true i = rw (h, i) by-load
    go false i = rw (h, i) by-none

opening_noted : (m : Deck) → m.tray_open ≡ false → NotedOn false m (opening m).deck
unfolding ◌and◌ choose◌then◌else◌
opening_noted m h = go m.disc_in refl
  where
    go : (b : Bool) → m.disc_in ≡ b → NotedOn false m (opening m).deck
    go true i = rw (h, i) by-open
    go false i = rw (h, i) by-none

-- ---- a packet

-- the answer r of a packet to the deck m, where `polls` says that it is 4Ah
abbrev pub NotedBy : Bool → List ℕ → Deck → Reply Deck → Type 0
NotedBy polls memory m r = NotedOn (polls and is_good (answer_of memory r) and is_clearing r.full r.limit) m r.deck

-- no bytes tell nothing
telling-none : is_clearing [] 0 ≡ false
unfolding ◌and◌
telling-none = refl

-- an answer that clears nothing, whatever the packet
uncleared : (polls b : Bool) (m n : Deck) → b ≡ false → NotedOn false m n → NotedOn (polls and b) m n
unfolding ◌and◌
uncleared true b m n h w = rw h w
uncleared false b m n h w = w

-- GOOD, of what a command does
goes_noted : {trays polls : Bool} {m n : Deck} {loading : Bool} {full : List ℕ} {limit start count : ℕ}
    → Does trays polls m (goes n loading full limit start count)
    → NotedOn (polls and is_clearing full limit) m n
goes_noted {m = m} (keeping s b) = rw (s.tray, s.disc, s.event, b) (still_noted m)
goes_noted {polls = polls} {m = m} (closing-it w h) = uncleared polls _ m (closing m).deck telling-none (closing_noted m h)
goes_noted {polls = polls} {m = m} (opening-it w h) = uncleared polls _ m (opening m).deck telling-none (opening_noted m h)
goes_noted {m = m} (clearing b) = rw (closed_still m, opens_still m, b) by_answer

module _ (memory : List ℕ) (m : Deck) (trays polls : Bool) where
  -- CHECK CONDITION or a refusal
  stays-noted : (good b : Bool) → good ≡ false → NotedOn (polls and good and b) m m
  unfolding ◌and◌
  stays-noted good b h = uncleared polls (good and b) m m (rw h) (still_noted m)

  pass-noted : (u : Unit) (r : Result Deck) → Does trays polls m r → NotedBy polls memory m (pass u m r)
  unfolding ◌and◌
  pass-noted u (fails f) w = stays-noted false false refl
  pass-noted u (goes n loading full limit start count) w = goes_noted w

  gate-noted : (p c : Bool) (h : Sense) (r : Result Deck) → Does trays polls m r →
      let u : Unit = record { power = p; change = c; sense = h } in
      NotedBy polls memory m (gate u m r)
  unfolding gate pending_of choose◌then◌else◌ ◌and◌
  gate-noted true c h r w = stays-noted false false refl
  gate-noted false true h r w = stays-noted false false refl
  gate-noted false false h (fails f) w = stays-noted false false refl
  gate-noted false false h (goes n loading full limit start count) w = goes_noted w

  -- what a packet does: REQUEST SENSE, which is not 4Ah, leaves the deck
  abbrev KindDoes : Kind Deck → Type 0
  KindDoes (asks limit) = polls ≡ false
  KindDoes (frees r) = Does trays polls m r
  KindDoes (orders r) = Does trays polls m r

  meets-noted : (j rule : ℕ) (k : Kind Deck) (u : Unit) → KindDoes k → NotedBy polls memory m (meets j rule k u m)
  unfolding ◌and◌
  meets-noted zero rule (asks limit) u w = rw w (still_noted m)
  meets-noted zero rule (frees r) u w = pass-noted u r w
  meets-noted zero rule (orders r) u w = gate-noted u.power u.change u.sense r w
  meets-noted (suc j) rule k u w = stays-noted (eqb (suc j) 0 and true) false (rw (eqb-suc-zero j))

-- 4Ah is the code of one command
decode_poll : (n : ℕ) → eqb n 0x4A ≡ is_polling (decode n)
unfolding class_of
decode_poll = decode_is GetEvent refl

kind_does : {c : Command} (s : Seen c) (memory p : List ℕ) (m : Deck) (t l : List ℕ) → KindDoes memory m (is_traying c p) (is_polling c) (kind_of s p (perform c p m t l))
unfolding class_of
kind_does asking memory p m t l = refl
kind_does (freeing {c} f) memory p m t l = perform_does c p m t l
kind_does (ordering {c} n g) memory p m t l = perform_does c p m t l

-- a packet, refused by j or not
pub kind_noted : (j rule : ℕ) (p t l memory : List ℕ) (u : Unit) (m : Deck) → NotedBy (is_poll p) memory m (meets j rule (kind p m t l) u m)
kind_noted j rule p t l memory u m =
    let c = decode (code_of p) in
    rw (decode_poll (code_of p))
    (meets-noted memory m (is_traying c p) (is_polling c) j rule (kind p m t l) u (kind_does (seen c) memory p m t l))

packet_noted : (p t l memory : List ℕ) (d : Drive) → NotedBy (is_poll p) memory d.deck (reply_to d p t l (length memory))
packet_noted p t l memory d =
    let n = length memory in
    rw (reply-kind d p t l n) (kind_noted (refusal_of d p t n) (rule_of d p t n) p t l memory d.unit d.deck)

-- ---- the other calls

-- what the call c did to the event
abbrev NotedAt : Call → Drive → Type 0
NotedAt c d = Noted (is_pressed (event c d)) (is_loading (event c d)) (is_opening (event c d)) (clears (event c d)) d.deck.event (next c d).deck.event

-- the same of an answer that moves the tray, or does not
abbrev MovedAt : Drive → Moved → Type 0
MovedAt d r = Noted (eqb r.number 5) (closed d.deck r.state.deck) (opens_on d.deck r.state.deck) false d.deck.event r.state.deck.event

press_noted : (d : Drive) → MovedAt d (button d)
press_noted d = go (is_known_state d) d.deck.tray_open d.deck.lock refl refl refl
  where
    go : (k t l : Bool) → is_known_state d ≡ k → d.deck.tray_open ≡ t → d.deck.lock ≡ l → MovedAt d (button d)
    go false t l h i j = rw (button-unknown d h) (still_noted d.deck)
    go true true l h i j = rw (button-closes d h i) (closing_noted d.deck i)
    go true false true h i j = rw (button-locked d h i j, closed_still d.deck, opens_still d.deck) by-press
    go true false false h i j = rw (button-opens d h i j) (opening_noted d.deck i)

-- laying, lifting and the outside call leave it
abbrev Leaves : Drive → Moved → Type 0
Leaves d r = r.state.deck.event ≡ d.deck.event

lay-leaves : (d : Drive) → Leaves d (lay d)
unfolding lay
lay-leaves d = either (Leaves d) _ (λ k. either (Leaves d) _ (λ t. refl) (λ t. refl)) (λ k. refl)

lift-leaves : (d : Drive) → Leaves d (lift d)
unfolding lift
lift-leaves d = either (Leaves d) _ (λ k. either (Leaves d) _ (λ t. refl) (λ t. refl)) (λ k. refl)

pub move_on-leaves : (k : ℕ) (d : Drive) → Leaves d (move_on k d)
unfolding move_on
move_on-leaves k d = either (Leaves d) _ (λ h. refl) (λ h. refl)

-- every call but power-on
call_noted : (c : Call) (d : Drive) → is_powering c ≡ false → NotedAt c d
unfolding ◌and◌
call_noted (powering f) d h = absurd (true≢false h)
call_noted pressing d h = press_noted d
call_noted laying d h = rw (lay-leaves d) by-none
call_noted lifting d h = rw (lift-leaves d) by-none
call_noted (moving_on k) d h = rw (move_on-leaves k d) by-none
call_noted (packet p t l m) d h = packet_noted p t l m d

-- ---- one step

-- the test of that one, of the three's
abbrev pub test_of : Media → Bool → Bool → Bool → Bool
test_of pressed p l o = p
test_of loaded p l o = l
test_of opened p l o = o

pub noted_turns : (k : Media) {p l o c : Bool} {old new : ℕ} → Noted p l o c old new
    → eqb new (number_of k) ≡ test_of k p l o or (not ((p or l or o) or c) and eqb old (number_of k))
unfolding ◌or◌ ◌and◌
noted_turns pressed by-press = refl
noted_turns pressed by-load = refl
noted_turns pressed by-open = refl
noted_turns pressed by_answer = refl
noted_turns pressed by-none = refl
noted_turns loaded by-press = refl
noted_turns loaded by-load = refl
noted_turns loaded by-open = refl
noted_turns loaded by_answer = refl
noted_turns loaded by-none = refl
noted_turns opened by-press = refl
noted_turns opened by-load = refl
noted_turns opened by-open = refl
noted_turns opened by_answer = refl
noted_turns opened by-none = refl

-- an event of at most 3 is 0 exactly where none of the three is it
pub no-event : (n : ℕ) → n ≤ 3 → (L : Media → Type 0) → ((k : Media) → (n ≡ number_of k) ↔ L k) → (n ≡ 0) ↔ ((k : Media) → L k → ⊥)
no-event n h L f = (never, none n h (λ k e. (f k).0 e))
  where
    never : n ≡ 0 → (k : Media) → L k → ⊥
    never z pressed w = let e = (f pressed).1 w in omega arith
    never z loaded w = let e = (f loaded).1 w in omega arith
    never z opened w = let e = (f opened).1 w in omega arith

    none : (n : ℕ) → n ≤ 3 → ((k : Media) → n ≡ number_of k → L k) → ((k : Media) → L k → ⊥) → n ≡ 0
    none zero h l q = refl
    none (suc zero) h l q = absurd (q pressed (l pressed refl))
    none (suc (suc zero)) h l q = absurd (q loaded (l loaded refl))
    none (suc (suc (suc zero))) h l q = absurd (q opened (l opened refl))
    none (suc (suc (suc (suc n)))) h l q = absurd (omega arith)

-- the event of a state is that one
abbrev pub is_waiting : Media → Drive → Bool
is_waiting k d = eqb d.deck.event (number_of k)

abbrev Turning : Media → Call → Drive → Type 0
Turning k c d =
    is_waiting k (next c d)
    ≡ happens k (event c d) or (not (is_power_on (event c d)) and (not (replaces (event c d)) and is_waiting k d))

-- power-on clears it in both forms and makes none
power-event : (f : Form) (d : Drive) → (next (powering f) d).deck.event ≡ 0
power-event by_default d = ap (λ (e : Drive). e.deck.event) (power_on-with d)
power-event without_change d = ap (λ (e : Drive). e.deck.event) (power_on_without_change-with d)

power_turns : (k : Media) (f : Form) (d : Drive) → Turning k (powering f) d
unfolding ◌or◌ ◌and◌
power_turns pressed f d = rw (power-event f d)
power_turns loaded f d = rw (power-event f d)
power_turns opened f d = rw (power-event f d)

call_turns : (k : Media) (c : Call) (d : Drive) → is_powering c ≡ false → Turning k c d
unfolding ◌and◌
call_turns pressed c d h = rw h (noted_turns pressed (call_noted c d h))
call_turns loaded c d h = rw h (noted_turns loaded (call_noted c d h))
call_turns opened c d h = rw h (noted_turns opened (call_noted c d h))

pub event_turns : (k : Media) (c : Call) (d : Drive) → Turning k c d
event_turns k (powering f) d = power_turns k f d
event_turns k pressing d = call_turns k pressing d refl
event_turns k laying d = call_turns k laying d refl
event_turns k lifting d = call_turns k lifting d refl
event_turns k (moving_on n) d = call_turns k (moving_on n) d refl
event_turns k (packet p t l m) d = call_turns k (packet p t l m) d refl
