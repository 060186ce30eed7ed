-- A state that neither refusal 2 nor 11 meets stays one: what a return and a take leave of the deck, and where the drive's disc has its home.
use Rattle.std.specs.Prelude.{◌≡◌, refl, Bool, true, false, not, List, ℕ, ◌<◌, length, set, eqb, leb}
use Rattle.std.proofs.Common.{sym, ap, ◌∙◌, arith, length-set, get_or-set_same}
use Rattle.std.proofs.lemmas.Bool.{false≢true}
use Rattle.ground.specs.Tests.{◌and◌, ◌or◌, either, and_late, and_with}
use Rattle.deck.specs.declared.Deck.{Deck}
use Rattle.drive.specs.declared.state.Moved.{Moved}
use Rattle.drive.specs.State as drive
use Rattle.drive.specs.State.{is_known_state, move_on}
use Rattle.drive.specs.StateLaws.{KnownDeck, is_known_state_sense, is_known_state_deck, known-is_known_state}
use Rattle.command.specs.Command.{code_of, decode}
use Rattle.claims.proofs.PacketLaws.{seen}
use Rattle.claims.proofs.WholeLaws.{second_holds}
use Rattle.claims.specs.Call.{moving_on, by_default, without_change}
use Rattle.claims.proofs.KnownLaws.{meets-known, held, closing-known, opening-known, kind-known, fit-last, power_state, call_state}
use Rattle.changer.specs.declared.Slot.{Slot}
use Rattle.changer.specs.declared.Changer.{Changer}
use Rattle.changer.specs.Slot.{empty_slot, slot_at}
use Rattle.changer.specs.Mechanism.{Mechanism, returned_deck, returned, taken_deck, named_slot}
use Rattle.changer.specs.Changer.{is_in_order, emptied, power_on, power_on_without_change, moves_on}
use Rattle.changer.specs.ChangerPacket.{mechanism_of, refusal_of, answer, state_of}
use Rattle.changerclaims.specs.ChangerKind.{with_deck, kind_on, rule_of, reply-kind}
use Rattle.changerclaims.specs.ChangerRefusalLaws.{fit-unrefused, answer-ordered}
use Rattle.changerclaims.proofs.ChangerKeptLaws.{Order, is_in_order_order, order-is_in_order, taken, returned-ways, answer_ways, kind-disc, kind-tray}

-- ---- refusal 2

returned_known : (m : Mechanism) → KnownDeck m.deck → KnownDeck (returned m).deck
returned_known m k =
    returned-ways (λ n. KnownDeck n.deck) m (λ d. k)
    (λ d. closing-known _ (held _ (opening-known _ k) false))

taken_known : (i : ℕ) (m : Mechanism) → KnownDeck m.deck → KnownDeck (taken i m).deck
taken_known i m k = closing-known _ (held _ k true)

module _ (c : Changer) (s : List Slot) (p t l : List ℕ) (n : ℕ) where
  abbrev here : Mechanism
  here = mechanism_of c s

  pub answer-known : is_known_state c.drive ≡ true → is_known_state (state_of (answer c s p t l n)).drive ≡ true
  answer-known h =
      let k : KnownDeck c.drive.deck = is_known_state_deck c.drive h in
      known-is_known_state _
      (rw (reply-kind c s p t l n)
      (meets-known (refusal_of c s p t n) (rule_of c s p t n) (kind_on p here t l) c.drive.unit here
      (is_known_state_sense c.drive h)))
      (answer_ways (λ m. KnownDeck m.deck) c s p t l n k
      (λ z e. kind-known c.drive.deck k (seen (decode (code_of p))) p t l (λ i. fit-last t (second_holds _ _ (fit-unrefused c s p t n z) i)))
      (λ z e. returned_known here k)
      (λ z e i w. taken_known (named_slot p) (returned here) (returned_known here k)))

-- the calls that are no packets
pub power_known : (c : Changer) → (is_known_state (power_on c).drive ≡ true) × (is_known_state (power_on_without_change c).drive ≡ true)
unfolding power_on power_on_without_change
power_known c = (power_state by_default (emptied c.drive), power_state without_change (emptied c.drive))

pub moves_known : (k : ℕ) (c : Changer) → is_known_state c.drive ≡ true → is_known_state (moves_on k c).state.drive ≡ true
unfolding moves_on
moves_known k c h = call_state (moving_on k) c.drive h

-- ---- refusal 11

-- a deck with the tray and the disc of the one before
with_deck_order : (m : Mechanism) (d : Deck) → d.tray_open ≡ m.deck.tray_open → d.disc_in ≡ m.deck.disc_in → Order m
    → Order (with_deck m d)
with_deck_order m d e f o = record {
  some = o.some;
  few = o.few;
  tray = e ∙ o.tray;
  place = λ z. o.place (sym f ∙ z);
  free = λ z. o.free (sym f ∙ z);
}

-- the slots are as many as before, and a disc in the drive has a free one
set_order : (m : Mechanism) (d : Deck) (home i : ℕ) (x : Slot) → Order m → d.tray_open ≡ false
    → (d.disc_in ≡ true → home < length m.slots)
    → (d.disc_in ≡ true → (slot_at (set m.slots i x) home).present ≡ false)
    → Order (record { deck = d; home = home; slots = set m.slots i x })
set_order m d home i x o e f g =
    let w : length (set m.slots i x) ≡ length m.slots = length-set m.slots i x in
    record {
      some = let k = o.some in omega arith;
      few = let k = o.few in omega arith;
      tray = e;
      place = λ z. let k = f z in omega arith;
      free = g;
    }

returned_order : (m : Mechanism) → Order m → Order (returned m)
returned_order m o =
    returned-ways Order m (λ d. o)
    (λ d. set_order m (returned_deck m.deck) 0 m.home _ o refl (λ z. absurd (false≢true z)) (λ z. absurd (false≢true z)))

taken_order : (i : ℕ) (m : Mechanism) → Order m → i < length m.slots → Order (taken i m)
taken_order i m o h =
    set_order m (taken_deck m.deck) i i empty_slot o refl (λ z. h)
    (λ z. ap (λ (x : Slot). x.present) (get_or-set_same m.slots i empty_slot empty_slot h))

returned-length : (m : Mechanism) → length (returned m).slots ≡ length m.slots
returned-length m = returned-ways (λ k. length k.slots ≡ length m.slots) m (λ d. refl) (λ d. length-set m.slots m.home _)

pub answer_order : (c : Changer) (s : List Slot) (p t l : List ℕ) (n : ℕ) → is_in_order c s ≡ true
    → is_in_order (state_of (answer c s p t l n)) (answer c s p t l n).deck.slots ≡ true
answer_order c s p t l n h =
    let m : Mechanism = mechanism_of c s in
    let o : Order m = is_in_order_order c s h in
    order-is_in_order _ _
    (answer_ways Order c s p t l n o
    (λ z e. with_deck_order m _ (kind-tray p c.drive.deck t l e) (kind-disc p c.drive.deck t l) o)
    (λ z e. returned_order m o)
    (λ z e i w. taken_order (named_slot p) (returned m) (returned_order m o) (let k = returned-length m in omega arith)))

pub moves_order : (k : ℕ) (c : Changer) (s : List Slot) → is_in_order c s ≡ true → is_in_order (moves_on k c).state s ≡ true
unfolding moves_on move_on
moves_order k c s h =
    let m : Mechanism = mechanism_of c s in
    let o : Order m = is_in_order_order c s h in
    order-is_in_order _ _
    (either (λ (r : Moved). Order (with_deck m r.state.deck)) (is_known_state c.drive) (λ z. with_deck_order m _ refl refl o) (λ z. o))

-- ---- and so 2 and 11 are not given

module _ (c : Changer) (s : List Slot) (p t l : List ℕ) (n : ℕ) where
  pub answer-not-2 : is_known_state c.drive ≡ true → eqb (answer c s p t l n).number 2 ≡ false
  answer-not-2 h = (answer-ordered c s p t n l).two ∙ sym (and_late _ _ (sym (ap not h)))

  pub answer-not-11 : is_in_order c s ≡ true → eqb (answer c s p t l n).number 11 ≡ false
  answer-not-11 h = (answer-ordered c s p t n l).eleven ∙ sym (and_late _ _ (and_late _ _ (and_late _ _ (sym (ap not h)))))

-- ---- after a power-on: an empty closed drive

pub power_order : (c : Changer) (s : List Slot)
    → (is_in_order (power_on c) s ≡ leb 1 (length s) and leb (length s) 31)
    × (is_in_order (power_on_without_change c) s ≡ leb 1 (length s) and leb (length s) 31)
unfolding is_in_order power_on power_on_without_change drive.power_on drive.power_on_without_change ◌or◌ ◌and◌
power_order c s = let e = ap (λ (b : Bool). leb 1 (length s) and b) (sym (and_with (leb (length s) 31) true refl)) in (e, e)
