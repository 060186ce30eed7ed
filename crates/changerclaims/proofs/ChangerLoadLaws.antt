-- A packet that is answered GOOD, or leaves deck, home and slots as they were; what a Load or an Unload leaves that is answered GOOD.
use Rattle.std.specs.Prelude.{◌≡◌, Bool, List, [], length, eqb, ltb}
use Rattle.std.proofs.Math.Path.{refl, ap}
use Rattle.std.proofs.Common.{sym, ◌∙◌, arith, ltb-true, get_or-set_other}
use Rattle.std.proofs.Math.Bool.{true, false, not}
use Rattle.std.proofs.lemmas.Bool.{false≢true, not-false}
use Prim.Native.Nat.{ℕ, zero, suc, ◌<◌}
use Rattle.std.proofs.Math.Seq.{get_or-set_same}
use Rattle.std.proofs.Math.Dec.{eqb-suc-zero}
use Rattle.ground.specs.Tests.{◌and◌, choose◌then◌else◌, when, unless, either, and_head, and_tail}
use Rattle.attention.specs.declared.sense.Sense.{Sense}
use Rattle.attention.specs.declared.Unit.{Unit}
use Rattle.attention.specs.Sense.{triple, sense_at}
use Rattle.attention.specs.Unit.{attend}
use Rattle.play.specs.Play.{no_play}
use Rattle.deck.specs.declared.Deck.{Deck}
use Rattle.deck.specs.Deck.{loaded, opened}
use Rattle.gate.specs.declared.fault.Fault.TheVariants.{BadField, RemovalPrevented}
use Rattle.gate.specs.Unit.{pending_of}
use Rattle.gate.specs.Gate.{Result, fails, goes, Reply, gate, settle}
use Rattle.claims.proofs.UnitLaws.{Kind, asks, frees, orders, meets}
use Rattle.changer.specs.declared.Slot.{Slot}
use Rattle.changer.specs.declared.Changer.{Changer}
use Rattle.changer.specs.Slot.{slot, empty_slot, slot_at, put_back}
use Rattle.changer.specs.Mechanism.{Mechanism, returned, taken_deck, takes, loads, unloads, lo_unlo, starts, named_slot, load_unload}
use Rattle.changer.specs.ChangerPacket.{mechanism_of, is_load_unload, refusal_of, answer, state_of}
use Rattle.changerclaims.specs.ChangerKind.{kind_on, rule_of, reply-kind}
use Rattle.changerclaims.specs.ChangerRefusalLaws.{order-unrefused}
use Rattle.changerclaims.proofs.ChangerKeptLaws.{Order, is_in_order_order, taken, returned-ways, returned-others, own-load, load-own}

-- ---- GOOD, or nothing moves

module _ {M : Type 0} where
  abbrev pub is_granted : Reply M → Bool
  is_granted r = eqb r.number 0 and eqb r.status 0x00

  abbrev pub goes_well : Result M → Bool
  goes_well (fails f) = false
  goes_well (goes next loading full limit start count) = true

  -- without GOOD the deck is as it was
  gate-still : (p c : Bool) (h : Sense) (m : M) (r : Result M) →
      let u : Unit = record { power = p; change = c; sense = h } in
      is_granted (gate u m r) ≡ false → (gate u m r).deck ≡ m
  unfolding gate pending_of choose◌then◌else◌ ◌and◌
  gate-still true c h m r z = refl
  gate-still false true h m r z = refl
  gate-still false false h m (fails f) z = refl
  gate-still false false h m (goes next loading full limit start count) z = absurd (false≢true (sym z))

  meets-still : (j rule : ℕ) (k : Kind M) (u : Unit) (m : M) → is_granted (meets j rule k u m) ≡ false → (meets j rule k u m).deck ≡ m
  unfolding ◌and◌
  meets-still zero rule (asks limit) u m z = refl
  meets-still zero rule (frees (fails f)) u m z = refl
  meets-still zero rule (frees (goes next loading full limit start count)) u m z = absurd (false≢true (sym z))
  meets-still zero rule (orders r) u m z = gate-still u.power u.change u.sense m r z
  meets-still (suc j) rule k u m z = refl

  -- with GOOD the packet was met by no attention and went well
  gate-granted : (p c : Bool) (h : Sense) (m : M) (r : Result M) →
      let u : Unit = record { power = p; change = c; sense = h } in
      is_granted (gate u m r) ≡ true → (gate u m r ≡ settle u m r) × (goes_well r ≡ true)
  unfolding gate pending_of choose◌then◌else◌ ◌and◌
  gate-granted true c h m r z = absurd (false≢true z)
  gate-granted false true h m r z = absurd (false≢true z)
  gate-granted false false h m (fails f) z = absurd (false≢true z)
  gate-granted false false h m (goes next loading full limit start count) z = (refl, refl)

  meets-granted : (j rule : ℕ) (r : Result M) (u : Unit) (m : M) → is_granted (meets j rule (orders r) u m) ≡ true
      → (j ≡ 0) × (meets j rule (orders r) u m ≡ settle u m r) × (goes_well r ≡ true)
  unfolding ◌and◌
  meets-granted zero rule r u m z = let g = gate-granted u.power u.change u.sense m r z in (refl, g.0, g.1)
  meets-granted (suc j) rule r u m z = absurd (false≢true (ap (λ (b : Bool). b and true) (sym (eqb-suc-zero j)) ∙ z))

pub answer_still : (c : Changer) (s : List Slot) (p t l : List ℕ) (n : ℕ) → is_granted (answer c s p t l n) ≡ false
    → (answer c s p t l n).deck ≡ mechanism_of c s
answer_still c s p t l n =
    rw (reply-kind c s p t l n) (meets-still (refusal_of c s p t n) _ (kind_on p (mechanism_of c s) t l) c.drive.unit (mechanism_of c s))

-- ---- A6h with GOOD

-- the pair and the slot are good, and the drive is not locked
load_unload-granted : (lo start : Bool) (i : ℕ) (m : Mechanism) → goes_well (load_unload lo start i m) ≡ true
    → (load_unload lo start i m ≡ (choose start then loads i m else unloads m)) × (i < length m.slots)
unfolding load_unload
load_unload-granted lo start i m =
    either Q _ (λ h w. absurd (false≢true w))
    (λ h. either Q _ (λ k w. absurd (false≢true w))
    (λ k. either Q _ (λ z w. absurd (false≢true w)) (λ z w. (refl, ltb-true _ _ (not-false _ k)))))
  where
    Q : Result Mechanism → Type 0
    Q r = goes_well r ≡ true → (r ≡ (choose start then loads i m else unloads m)) × (i < length m.slots)

-- "pair and slot first", then the lock
module _ (lo start : Bool) (i : ℕ) (m : Mechanism) where
  pub load_unload-bad : lo and ltb i (length m.slots) ≡ false → load_unload lo start i m ≡ fails BadField
  unfolding load_unload ◌and◌ choose◌then◌else◌
  load_unload-bad h = go lo (ltb i (length m.slots)) _ h
    where
      go : (a b : Bool) (r : Result Mechanism) → a and b ≡ false
          → (choose not a then fails BadField else (choose not b then fails BadField else r)) ≡ fails BadField
      go false b r h = refl
      go true b r h = rw h

  module _ (h : lo and ltb i (length m.slots) ≡ true) where
    passes : (r : Result Mechanism) → (choose not lo then fails BadField else (choose not (ltb i (length m.slots)) then fails BadField else r)) ≡ r
    passes r = unless _ _ _ (ap not (and_head _ _ h)) ∙ unless _ _ _ (ap not (and_tail _ _ h))

    pub load_unload-locked : m.deck.lock ≡ true → load_unload lo start i m ≡ fails RemovalPrevented
    unfolding load_unload
    load_unload-locked k = passes _ ∙ when _ _ _ k

    pub load_unload-free : m.deck.lock ≡ false → goes_well (load_unload lo start i m) ≡ true
    unfolding load_unload takes
    load_unload-free k =
        ap goes_well (passes _ ∙ unless _ _ _ k)
        ∙ either Well start (λ z. either Well _ (λ w. refl) (λ w. refl)) (λ z. refl)
      where
        Well : Result Mechanism → Type 0
        Well r = goes_well r ≡ true

-- GOOD is what goes well
pub settle-granted : {M : Type 0} (u : Unit) (m : M) (r : Result M) → is_granted (settle u m r) ≡ goes_well r
unfolding ◌and◌
settle-granted u m (fails f) = refl
settle-granted u m (goes next loading full limit start count) = refl

kind_on-load : (p : List ℕ) (m : Mechanism) (t l : List ℕ) → is_load_unload p ≡ true
    → kind_on p m t l ≡ orders (load_unload (lo_unlo p) (starts p) (named_slot p) m)
kind_on-load p m t l h = when _ _ _ (load-own p h) ∙ ap orders (own-load p m h)

module _ (c : Changer) (s : List Slot) (p t l : List ℕ) (n : ℕ) (h : is_load_unload p ≡ true) (g : is_granted (answer c s p t l n) ≡ true) where
  abbrev here : Mechanism
  here = mechanism_of c s

  abbrev unit : Unit
  unit = c.drive.unit

  -- what the packet comes to, refused or not
  met : answer c s p t l n
      ≡ meets (refusal_of c s p t n) (rule_of c s p t n) (orders (load_unload (lo_unlo p) (starts p) (named_slot p) here)) unit here
  met =
      reply-kind c s p t l n
      ∙ ap (λ (k : Kind Mechanism). meets (refusal_of c s p t n) (rule_of c s p t n) k unit here) (kind_on-load p here t l h)

  -- it is in order, the slot is there, and the answer is that of the Load or Unload
  load-granted :
      Order here
      × (named_slot p < length s)
      × (answer c s p t l n ≡ settle unit here (choose starts p then loads (named_slot p) here else unloads here))
  load-granted =
      let w = meets-granted (refusal_of c s p t n) (rule_of c s p t n) _ unit here (ap is_granted (sym met) ∙ g) in
      let k = load_unload-granted (lo_unlo p) (starts p) (named_slot p) here w.2 in
      (is_in_order_order c s (order-unrefused c s p t n w.0), k.1, met ∙ w.1 ∙ ap (settle unit here) k.0)

  -- ---- what it leaves

  abbrev given : Reply Mechanism
  given = answer c s p t l n

  abbrev named : ℕ
  named = named_slot p

  -- the state with GOOD, where `change` says that the change attention is pending then
  abbrev pub state_with : Bool → Deck → ℕ → Changer
  state_with change deck home = record {
    drive = record { unit = record { power = unit.power; change = change; sense = triple 0x00 0x00 0x00 }; deck = deck };
    home = home;
  }

  -- the drive closed and stopped, with a disc or without, and an event
  abbrev pub deck_with : Bool → ℕ → Deck
  deck_with disc e = record {
    tray_open = false;
    disc_in = disc;
    lock = c.drive.deck.lock;
    play = no_play;
    page = c.drive.deck.page;
    event = e;
  }

  there : named < length (returned here).slots
  there = let k = (returned-others c s p t l n).count in let j = load-granted.1 in omega arith

  -- after the return the named slot has a disc: it had one, or is the home
  pub present-full : (slot_at s named).present ≡ true → (slot_at (returned here).slots named).present ≡ true
  present-full w =
      returned-ways (λ k. (slot_at k.slots named).present ≡ true) here (λ d. w)
      (λ d.
      ap (λ (x : Slot). x.present)
      (get_or-set_other s c.home named _ empty_slot
      (λ e. false≢true (sym (load-granted.0.free d) ∙ ap (λ (j : ℕ). (slot_at s j).present) (sym e) ∙ w)))
      ∙ w)

  pub present-home : c.drive.deck.disc_in ≡ true → named ≡ c.home → (slot_at (returned here).slots named).present ≡ true
  present-home d e =
      returned-ways (λ k. (slot_at k.slots named).present ≡ true) here (λ z. absurd (false≢true (sym z ∙ d)))
      (λ z.
      ap (λ (j : ℕ). (slot_at (put_back s c.home) j).present) e
      ∙ ap (λ (x : Slot). x.present) (get_or-set_same s c.home _ empty_slot (load-granted.0.place d)))

  -- or it has none
  other-slot : (c.drive.deck.disc_in ≡ true → named ≡ c.home → ⊥) → slot_at (returned here).slots named ≡ slot_at s named
  other-slot f =
      returned-ways (λ k. slot_at k.slots named ≡ slot_at s named) here (λ d. refl) (λ d. get_or-set_other s c.home named _ empty_slot (f d))

  load-takes : starts p ≡ true → (slot_at (returned here).slots named).present ≡ true
      → given ≡ settle unit here (goes (taken named (returned here)) true [] 0 0 0)
  unfolding takes
  load-takes b w = load-granted.2 ∙ ap (settle unit here) (when _ _ _ b ∙ when _ _ _ w)

  load-passes : starts p ≡ true → (slot_at (returned here).slots named).present ≡ false
      → given ≡ settle unit here (goes (returned here) false [] 0 0 0)
  unfolding takes
  load-passes b w = load-granted.2 ∙ ap (settle unit here) (when _ _ _ b ∙ unless _ _ _ w)

  pub unload-leaves : starts p ≡ false → given ≡ settle unit here (goes (returned here) false [] 0 0 0)
  unload-leaves b = load-granted.2 ∙ ap (settle unit here) (unless _ _ _ b)

  taken-deck : taken_deck (returned here).deck ≡ deck_with true loaded
  unfolding choose◌then◌else◌
  taken-deck = returned-ways (λ k. taken_deck k.deck ≡ deck_with true loaded) here (λ d. refl) (λ d. refl)

  pub load-took : starts p ≡ true → (slot_at (returned here).slots named).present ≡ true
      → (slot_at given.deck.slots named ≡ empty_slot) × (state_of given ≡ state_with true (deck_with true loaded) named)
  unfolding attend sense_at choose◌then◌else◌
  load-took b w =
      let e = load-takes b w in (
        ap (λ (r : Reply Mechanism). slot_at r.deck.slots named) e ∙ get_or-set_same (returned here).slots named empty_slot empty_slot there,
        ap state_of e ∙ ap (λ (m : Deck). state_with true m named) taken-deck,
      )

  -- the home slot of the disc that was in the drive, where it is not the named one
  module _ (b : starts p ≡ true) (d : c.drive.deck.disc_in ≡ true) (f : named ≡ c.home → ⊥) where
    abbrev home_slot : Slot
    home_slot = slot true (slot_at s c.home).changed

    home-slot : slot_at (returned here).slots c.home ≡ home_slot
    home-slot =
        returned-ways (λ k. slot_at k.slots c.home ≡ home_slot) here (λ z. absurd (false≢true (sym z ∙ d)))
        (λ z. get_or-set_same s c.home _ empty_slot (load-granted.0.place d))

    pub load-home : slot_at given.deck.slots c.home ≡ home_slot
    load-home = by-disc (slot_at (returned here).slots named).present refl
      where
        by-disc : (w : Bool) → (slot_at (returned here).slots named).present ≡ w → slot_at given.deck.slots c.home ≡ home_slot
        by-disc true e =
            rw (load-takes b e) (get_or-set_other (returned here).slots named c.home empty_slot empty_slot (λ z. f (sym z)) ∙ home-slot)
        by-disc false e = rw (load-passes b e) home-slot

  -- from an empty slot, not the home of the drive's disc, which stays as it was
  module _ (b : starts p ≡ true) (none : (slot_at s named).present ≡ false) (f : c.drive.deck.disc_in ≡ true → named ≡ c.home → ⊥) where
    pub load-leaves : given ≡ settle unit here (goes (returned here) false [] 0 0 0)
    load-leaves = load-passes b (ap (λ (x : Slot). x.present) (other-slot f) ∙ none)

    pub load-empty : slot_at given.deck.slots named ≡ slot_at s named
    load-empty = ap (λ (r : Reply Mechanism). slot_at r.deck.slots named) load-leaves ∙ other-slot f

  -- where nothing is taken
  module _ (e : given ≡ settle unit here (goes (returned here) false [] 0 0 0)) where
    pub left-gave : c.drive.deck.disc_in ≡ true
        → (slot_at given.deck.slots c.home ≡ slot true (slot_at s c.home).changed)
        × (state_of given ≡ state_with unit.change (deck_with false opened) 0)
    unfolding returned attend sense_at choose◌then◌else◌
    left-gave d = rw (e, d) (get_or-set_same s c.home _ empty_slot (load-granted.0.place d), refl)

    pub left-rests : c.drive.deck.disc_in ≡ false
        → (given.deck.slots ≡ s) × (state_of given ≡ state_with unit.change c.drive.deck c.home)
    unfolding returned attend sense_at choose◌then◌else◌
    left-rests d = rw (e, d) (refl, refl)
