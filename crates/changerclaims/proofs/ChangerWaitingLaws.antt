-- What one call on the changer does to the media event: a take leaves 2, a return alone 3, a media answer 0, and nothing else touches it.
use Rattle.std.specs.Prelude.{◌≡◌, Bool, not, List, [], ◌∷◌, ℕ, zero, suc, ◌≤◌, length, eqb}
use Rattle.std.proofs.Math.Path.{refl, subst}
use Rattle.std.proofs.Common.{sym, ap, true≢false, arith}
use Rattle.std.proofs.Math.Bool.{true, false}
use Rattle.std.proofs.lemmas.Bool.{false≢true}
use Rattle.ground.specs.Tests.{◌and◌, ◌or◌, choose◌then◌else◌, either}
use Rattle.attention.specs.declared.Unit.{Unit}
use Rattle.deck.specs.declared.Deck.{Deck}
use Rattle.drive.specs.declared.state.Drive.{Drive}
use Rattle.drive.specs.StateLaws.{power_on-with, power_on_without_change-with}
use Rattle.gate.specs.Gate.{Result, Reply}
use Rattle.command.specs.declared.decode.Command.{Command}
use Rattle.command.specs.Command.{code_of, decode}
use Rattle.event.specs.EventAnswer.{is_clearing}
use Rattle.target.specs.Perform.{perform}
use Rattle.changer.specs.declared.Slot.{Slot}
use Rattle.changer.specs.declared.Changer.{Changer}
use Rattle.changer.specs.Mechanism.{Mechanism, returned}
use Rattle.changer.specs.Changer.{power_on, power_on_without_change, emptied, moves_on}
use Rattle.changer.specs.ChangerPacket.{mechanism_of, is_load_unload, is_own, own, carried, refusal_of}
use Rattle.claims.specs.Telling.{answer_of, is_good}
use Rattle.claims.proofs.UnitLaws.{Kind, orders, meets, is_done, next_of, comes_to, meets-says, meets-keeps}
use Rattle.claims.proofs.PacketLaws.{Does, failing, keeping, closing-it, opening-it, clearing, is_traying, perform_does, Seen, asking, freeing, ordering, seen, kind_of, kind, closed_still}
use Rattle.claims.specs.Call.{Form, by_default, without_change, closed}
use Rattle.claims.specs.MediaEvent.{Media, pressed, loaded, opened, number_of, opens_on, is_poll}
use Rattle.claims.proofs.WaitingLaws.{Noted, by-press, by-load, by-open, by_answer, by-none, opens_still, kind_noted, move_on-leaves, test_of, noted_turns}
use Rattle.changerclaims.specs.ChangerCall.{Call, powering, moving_on, packet, next, event, final, is_powering, is_power_on, taking, is_loading, is_returning, happens, clears, replaces}
use Rattle.changerclaims.specs.ChangerKind.{carried_kind, carried-reply, kind_on, rule_of, reply-kind, drive_tray, drive-moves}
use Rattle.changerclaims.proofs.ChangerDevice.{Acts, failed, took, gave, stood, own_acts, and_none, own_other}

-- ---- a packet of the changer's own

module _ (m : Mechanism) where
  -- what became of the event, where `load` and `moves` are as in Acts, and the answer is GOOD or not
  abbrev NotedOn : (load moves good : Bool) → Mechanism → Type 0
  NotedOn load moves good n =
      Noted false (load and good) (((moves and m.deck.disc_in) and good) and not (load and good)) false m.deck.event n.deck.event

  still_noted : (load moves : Bool) → NotedOn load moves false m
  unfolding ◌and◌
  still_noted load moves = rw (and_none load, and_none (moves and m.deck.disc_in)) by-none

  returned-noted : NotedOn false true true (returned m)
  unfolding returned ◌and◌ choose◌then◌else◌
  returned-noted = go m.deck.disc_in refl
    where
      go : (b : Bool) → m.deck.disc_in ≡ b → NotedOn false true true (returned m)
      go true h = rw h by-open
      go false h = rw h by-none

  acts-noted : {load moves : Bool} {r : Result Mechanism} → Acts load moves m r → NotedOn load moves (is_done r) (next_of m r)
  unfolding ◌and◌
  acts-noted {load} {moves} failed = still_noted load moves
  acts-noted {moves = moves} (took a d e) = rw (a, e, and_none ((moves and m.deck.disc_in) and true)) by-load
  acts-noted (gave a b) = rw (a, b) returned-noted
  acts-noted (stood a b) = rw (a, b) by-none

-- ---- a packet that the drive answers

-- tray and disc stay
abbrev Kept : Deck → Deck → Type 0
Kept m n = (closed m n ≡ false) × (opens_on m n ≡ false)

keeps : (m : Deck) → Kept m m
keeps m = (closed_still m, opens_still m)

does_keeps : {polls : Bool} {m : Deck} {r : Result Deck} → Does false polls m r → Kept m (next_of m r)
does_keeps {m = m} failing = keeps m
does_keeps {m = m} (keeping s b) = rw (s.tray, s.disc) (keeps m)
does_keeps (closing-it w h) = absurd (false≢true w)
does_keeps (opening-it w h) = absurd (false≢true w)
does_keeps {m = m} (clearing b) = keeps m

kind_keeps : {c : Command} (s : Seen c) (p : List ℕ) (m : Deck) (t l : List ℕ) → is_traying c p ≡ false
    → Kept m (comes_to m (kind_of s p (perform c p m t l)))
kind_keeps asking p m t l h = keeps m
kind_keeps (freeing {c} f) p m t l h = does_keeps (rw h at (perform_does c p m t l))
kind_keeps (ordering {c} n g) p m t l h = does_keeps (rw h at (perform_does c p m t l))

carried-meets : (j rule : ℕ) (m : Mechanism) (k : Kind Deck) (u : Unit) → carried m (meets j rule k u m.deck) ≡ meets j rule (carried_kind m k) u m
carried-meets zero rule m k u = carried-reply m k u
carried-meets (suc j) rule m k u = refl

-- ---- every packet

module _ (p t l memory : List ℕ) (m : Mechanism) (u : Unit) (j rule : ℕ) where
  abbrev NotedBy : Reply Mechanism → Type 0
  NotedBy r =
      let good = is_good (answer_of memory r) in
      Noted false (taking p m and good) (((is_load_unload p and m.deck.disc_in) and good) and not (taking p m and good))
      (is_poll p and good and is_clearing r.full r.limit) m.deck.event r.deck.deck.event

  own-noted : is_own p ≡ true → NotedBy (meets j rule (orders (own p m)) u m)
  unfolding ◌and◌
  own-noted o =
      rw (own_other p 0x4A refl refl refl o)
      (meets-says (NotedOn m (taking p m) (is_load_unload p)) memory j rule (orders (own p m)) u m
      (still_noted m (taking p m) (is_load_unload p)) (λ z. acts-noted m (own_acts p m)))

  drive-noted : is_own p ≡ false → NotedBy (meets j rule (carried_kind m (kind p m.deck t l)) u m)
  unfolding ◌and◌
  drive-noted o =
      let k : Kind Deck = kind p m.deck t l in
      let w = kind_noted j rule p t l memory u m.deck in
      let s = meets-keeps (Kept m.deck) j rule k u m.deck (keeps m.deck)
      (λ z. kind_keeps (seen (decode (code_of p))) p m.deck t l (drive_tray p o)) in
      let v : NotedBy (carried m (meets j rule k u m.deck)) = rw (drive-moves p o) (rw (s.0, s.1) at w) in
      subst NotedBy (carried-meets j rule m k u) v

  meets-noted : NotedBy (meets j rule (kind_on p m t l) u m)
  meets-noted = either (λ (k : Kind Mechanism). NotedBy (meets j rule k u m)) (is_own p) own-noted drive-noted

-- ---- every call

-- what the call did to the event
abbrev NotedAt : Call → Changer → Type 0
NotedAt b c =
    let e = event b c in
    Noted false (is_loading e) (is_returning e and not (is_loading e)) (clears e) c.drive.deck.event (next b c).drive.deck.event

packet_noted : (p t l memory : List ℕ) (s : List Slot) (c : Changer) → NotedAt (packet p t l memory s) c
packet_noted p t l memory s c =
    let m : Mechanism = mechanism_of c s in
    let n : ℕ = length memory in
    subst (NotedBy p t l memory m c.drive.unit (refusal_of c s p t n) (rule_of c s p t n)) (sym (reply-kind c s p t l n))
    (meets-noted p t l memory m c.drive.unit (refusal_of c s p t n) (rule_of c s p t n))

call_noted : (b : Call) (c : Changer) → is_powering b ≡ false → NotedAt b c
unfolding ◌and◌ moves_on
call_noted (powering f) c h = absurd (true≢false h)
call_noted (moving_on k) c h = rw (move_on-leaves k c.drive) by-none
call_noted (packet p t l m s) c h = packet_noted p t l m s c

-- power-on clears it in both forms and makes none
power-event : (f : Form) (c : Changer) → (next (powering f) c).drive.deck.event ≡ 0
unfolding power_on power_on_without_change
power-event by_default c = ap (λ (d : Drive). d.deck.event) (power_on-with (emptied c.drive))
power-event without_change c = ap (λ (d : Drive). d.deck.event) (power_on_without_change-with (emptied c.drive))

-- ---- one step

-- the event of a state is that one
abbrev pub is_waiting : Media → Changer → Bool
is_waiting k c = eqb c.drive.deck.event (number_of k)

abbrev Turning : Media → Call → Changer → Type 0
Turning k b c =
    is_waiting k (next b c)
    ≡ happens k (event b c) or (not (is_power_on (event b c)) and (not (replaces (event b c)) and is_waiting k c))

power_turns : (k : Media) (f : Form) (c : Changer) → Turning k (powering f) c
unfolding ◌or◌ ◌and◌
power_turns pressed f c = rw (power-event f c)
power_turns loaded f c = rw (power-event f c)
power_turns opened f c = rw (power-event f c)

-- a return that no loading follows, or a loading: one of the two
or_alone : (l r : Bool) → l or r ≡ l or (r and not l)
unfolding ◌or◌ ◌and◌
or_alone true r = refl
or_alone false true = refl
or_alone false false = refl

call_turned : (k : Media) (b : Call) (c : Changer) → is_powering b ≡ false →
    let e = event b c in
    is_waiting k (next b c) ≡ test_of k false (is_loading e) (is_returning e and not (is_loading e)) or (not (replaces e) and is_waiting k c)
unfolding ◌or◌
call_turned k b c h = rw (or_alone (is_loading (event b c)) (is_returning (event b c))) (noted_turns k (call_noted b c h))

call_turns : (k : Media) (b : Call) (c : Changer) → is_powering b ≡ false → Turning k b c
unfolding ◌and◌
call_turns pressed b c h = rw h (call_turned pressed b c h)
call_turns loaded b c h = rw h (call_turned loaded b c h)
call_turns opened b c h = rw h (call_turned opened b c h)

pub event_turns : (k : Media) (b : Call) (c : Changer) → Turning k b c
event_turns k (powering f) c = power_turns k f c
event_turns k (moving_on n) c = call_turns k (moving_on n) c refl
event_turns k (packet p t l m s) c = call_turns k (packet p t l m s) c refl

-- ---- the event is at most 3

noted-most : {p l o c : Bool} {old new : ℕ} → Noted p l o c old new → old ≤ 3 → new ≤ 3
noted-most by-press h = omega arith
noted-most by-load h = omega arith
noted-most by-open h = omega arith
noted-most by_answer h = omega arith
noted-most by-none h = h

call-most : (b : Call) (c : Changer) → c.drive.deck.event ≤ 3 → (next b c).drive.deck.event ≤ 3
call-most (powering f) c h = let z = power-event f c in omega arith
call-most (moving_on k) c h = noted-most (call_noted (moving_on k) c refl) h
call-most (packet p t l m s) c h = noted-most (packet_noted p t l m s c) h

calls-most : (calls : List Call) (c : Changer) → c.drive.deck.event ≤ 3 → (final c calls).drive.deck.event ≤ 3
calls-most [] c h = h
calls-most (b ∷ calls) c h = calls-most calls (next b c) (call-most b c h)

pub event-most : (f : Form) (handed : Changer) (calls : List Call) → (final handed (powering f ∷ calls)).drive.deck.event ≤ 3
event-most f handed calls = calls-most calls (next (powering f) handed) (let z = power-event f handed in omega arith)
