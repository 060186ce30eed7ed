-- K11: "Every other slot stays as it was; the discs in slots and drive keep their total over every packet." What a Load and an Unload leave,
-- what A6h, BDh and 1Bh with LoEj 1 answer, and that every other packet is the drive's own.
use Rattle.std.specs.Prelude.{◌≡◌, Bool, true, false, List, ℕ, ◌≤◌, length, take, ltb}
use Rattle.std.proofs.Common.{sym, ◌∙◌, arith}
use Rattle.std.proofs.Math.Path.{ap}
use Rattle.std.proofs.lemmas.Bool.{false≢true}
use Rattle.ground.specs.Tests.{◌and◌, ◌or◌, choose◌then◌else◌, either}
use Rattle.attention.specs.declared.sense.Sense.{Sense}
use Rattle.attention.specs.Sense.{triple, sense_at}
use Rattle.deck.specs.declared.Deck.{Deck}
use Rattle.attention.specs.Unit.{attend}
use Rattle.gate.specs.declared.fault.Fault.{Fault}
use Rattle.gate.specs.declared.fault.Fault.TheVariants.{BadField, RemovalPrevented}
use Rattle.gate.specs.Fault.{sense_of}
use Rattle.gate.specs.Gate.{fails, Reply, settle}
use Rattle.target.specs.Packet as drive
use Rattle.changer.specs.declared.Slot.{Slot}
use Rattle.changer.specs.declared.Changer.{Changer}
use Rattle.changer.specs.Slot.{slot_at}
use Rattle.changer.specs.Mechanism.{Mechanism, lo_unlo, starts, named_slot}
use Rattle.changer.specs.Status.{status_bytes, status_length}
use Rattle.changer.specs.Changer.{is_in_order}
use Rattle.changer.specs.ChangerPacket.{mechanism_of, is_load_unload, is_status, is_tray, is_own, own, carried, answer, state_of, bytes_of, outcome_of}
use Rattle.changerclaims.specs.ChangerDiscs.{discs}
use Rattle.changerclaims.proofs.ChangerKeptLaws.{is_in_order_order, answer-discs, answer-others, answer-slots, answer-own, own-load, own-status, own-tray, load-own, status-own, tray-own, answer-drive}
use Rattle.changerclaims.proofs.ChangerLoadLaws.{is_granted, goes_well, answer_still, load_unload-bad, load_unload-locked, load_unload-free, settle-granted, present-full, present-home, load-took, load-home, load-empty, load-leaves, unload-leaves, left-gave, left-rests}
use Rattle.changerclaims.specs.ChangerKept as said

-- of every state, slots, packet, table, parameter list and length of the response memory
module _ (c : Changer) (s : List Slot) (p t l : List ℕ) (n : ℕ) where
  abbrev after : Changer
  after = said.after c s p t l n

  abbrev slots_after : List Slot
  slots_after = said.slots_after c s p t l n

  abbrev is_good : Bool
  is_good = said.is_good c s p t l n

  abbrev has_disc : Bool
  has_disc = said.has_disc c s p t l n

  -- "the discs in slots and drive keep their total over every packet", refused or not
  pub changer-discs : discs after slots_after ≡ discs c s
  changer-discs = answer-discs c s p t l n

  -- "Every other slot stays as it was": there are as many, and each stays that is not the one that A6h names and not the home of a disc in
  -- the drive
  pub changer-slots-stay :
      (length slots_after ≡ length s)
      × ((j : ℕ) → ((is_load_unload p ≡ true) × (j ≡ named_slot p) → ⊥) → ((has_disc ≡ true) × (j ≡ c.home) → ⊥) → slot_at slots_after j ≡ slot_at s j)
  changer-slots-stay = let o = answer-others c s p t l n in (o.count, o.stay)

  -- a packet that is not A6h leaves all slots and the home as they were
  pub changer-slots-only : is_load_unload p ≡ false → (slots_after ≡ s) × (after.home ≡ c.home)
  changer-slots-only = answer-slots c s p t l n

  -- and so does one that is not answered GOOD, which leaves the drive's deck too: tray, disc, lock, play record, page and event
  pub changer-slots-good : is_good ≡ false → (slots_after ≡ s) × (after.home ≡ c.home) × (after.drive.deck ≡ c.drive.deck)
  changer-slots-good h =
      let e = answer_still c s p t l n h in
      (ap (λ (m : Mechanism). m.slots) e, ap (λ (m : Mechanism). m.home) e, ap (λ (m : Mechanism). m.deck) e)

  abbrev state_with : Bool → Deck → ℕ → Changer
  state_with = said.state_with c s p t l n

  abbrev drive_with : Bool → ℕ → Deck
  drive_with = said.drive_with c s p t l n

  abbrev Takes : Type 0
  Takes = said.Takes c s p t l n

  abbrev home_slot : Slot
  home_slot = said.home_slot c s p t l n

  abbrev Returns : Type 0
  Returns = said.Returns c s p t l n

  abbrev Rests : Type 0
  Rests = said.Rests c s p t l n

  module _ (a6 : is_load_unload p ≡ true) (good : is_good ≡ true) where
    module _ (load : starts p ≡ true) where
      -- from a slot with a disc
      pub changer-load : (slot_at s (named_slot p)).present ≡ true → Takes
      changer-load w = load-took c s p t l n a6 good load (present-full c s p t l n a6 good w)

      -- of the home slot: returned, then taken
      pub changer-load-home : has_disc ≡ true → named_slot p ≡ c.home → Takes
      changer-load-home d e = load-took c s p t l n a6 good load (present-home c s p t l n a6 good d e)

      -- where it is not the home slot the drive's disc is back in it, whether the named one has a disc or not
      pub changer-load-back : has_disc ≡ true → (named_slot p ≡ c.home → ⊥) → slot_at slots_after c.home ≡ home_slot
      changer-load-back = load-home c s p t l n a6 good load

      -- "From an empty slot, which stays as it was, it leaves an empty closed drive and is no loading."
      module _ (none : (slot_at s (named_slot p)).present ≡ false) where
        pub changer-load-empty : has_disc ≡ true → (named_slot p ≡ c.home → ⊥) → Returns
        changer-load-empty d f = left-gave c s p t l n a6 good (load-leaves c s p t l n a6 good load none (λ z. f)) d

        pub changer-load-empty-stays : (has_disc ≡ true → named_slot p ≡ c.home → ⊥) → slot_at slots_after (named_slot p) ≡ slot_at s (named_slot p)
        changer-load-empty-stays = load-empty c s p t l n a6 good load none

        pub changer-load-empty-still : has_disc ≡ false → Rests
        changer-load-empty-still d =
            left-rests c s p t l n a6 good (load-leaves c s p t l n a6 good load none (λ z. absurd (false≢true (sym d ∙ z)))) d

    -- "Unload (1,0) only returns the disc"
    module _ (unload : starts p ≡ false) where
      pub changer-unload : has_disc ≡ true → Returns
      changer-unload d = left-gave c s p t l n a6 good (unload-leaves c s p t l n a6 good unload) d

      pub changer-unload-still : has_disc ≡ false → Rests
      changer-unload-still d = left-rests c s p t l n a6 good (unload-leaves c s p t l n a6 good unload) d

  -- ---- the changer's own packets, past the refusals, with nothing pending

  module _ (unrefused : (answer c s p t l n).number ≡ 0) (quiet : c.drive.unit.power or c.drive.unit.change ≡ false) where
    abbrev Checks : Sense → Type 0
    Checks = said.Checks c s p t l n unrefused quiet

    checks : (f : Fault) → is_own p ≡ true → own p (mechanism_of c s) ≡ fails f → Checks (sense_of f)
    checks f h e =
        let a = answer-own c s p t l n h unrefused quiet ∙ ap (settle c.drive.unit (mechanism_of c s)) e in
        (ap outcome_of a, ap (λ (r : Reply Mechanism). r.deck.slots) a)

    -- "its 1Bh with LoEj 1 is 05/24/00"; with LoEj 0 it is one of those below
    pub changer-tray : is_tray p ≡ true → Checks (triple 0x05 0x24 0x00)
    unfolding sense_at
    changer-tray h = checks BadField (tray-own p h) (own-tray p (mechanism_of c s) h)

    -- A6h: "other pairs are 05/24/00. .. A slot beyond the last (counted from 0, tested in Unload too) is 05/24/00, a locked drive 05/53/02,
    -- pair and slot first."
    module _ (a6 : is_load_unload p ≡ true) where
      pub changer-load-bad : lo_unlo p and ltb (named_slot p) (length s) ≡ false → Checks (triple 0x05 0x24 0x00)
      unfolding sense_at
      changer-load-bad h =
          checks BadField (load-own p a6) (own-load p (mechanism_of c s) a6 ∙ load_unload-bad (lo_unlo p) (starts p) (named_slot p) (mechanism_of c s) h)

      pub changer-load-locked : lo_unlo p and ltb (named_slot p) (length s) ≡ true → c.drive.deck.lock ≡ true → Checks (triple 0x05 0x53 0x02)
      unfolding sense_at
      changer-load-locked h k =
          checks RemovalPrevented (load-own p a6)
          (own-load p (mechanism_of c s) a6 ∙ load_unload-locked (lo_unlo p) (starts p) (named_slot p) (mechanism_of c s) h k)

      pub changer-load-good : lo_unlo p and ltb (named_slot p) (length s) ≡ true → c.drive.deck.lock ≡ false → is_good ≡ true
      changer-load-good h k =
          ap is_granted (answer-own c s p t l n (load-own p a6) unrefused quiet)
          ∙ settle-granted c.drive.unit (mechanism_of c s) (own p (mechanism_of c s))
          ∙ ap goes_well (own-load p (mechanism_of c s) a6)
          ∙ load_unload-free (lo_unlo p) (starts p) (named_slot p) (mechanism_of c s) h k

    -- BDh: the bytes of the status, cut to the length; the sense is cleared, and nothing else changes
    pub changer-status : is_status p ≡ true
        → (is_good ≡ true)
        × (bytes_of (answer c s p t l n) ≡ take (status_length p) (status_bytes (choose has_disc then c.home else 0) s))
        × Rests
    unfolding ◌and◌ attend choose◌then◌else◌ sense_at
    changer-status h =
        let a =
        answer-own c s p t l n (status-own p h) unrefused quiet
        ∙ ap (settle c.drive.unit (mechanism_of c s)) (own-status p (mechanism_of c s) h) in
        (ap is_granted a, ap bytes_of a, (ap (λ (r : Reply Mechanism). r.deck.slots) a, ap state_of a))

  -- past refusal 11 "home slot or 0" is at most 30, so of byte 0 the bits of fault and state are 0 ("no fault, ready"), and the slot whose disc is
  -- in the drive shows none
  pub changer-status-home : is_in_order c s ≡ true
      → ((choose has_disc then c.home else 0) ≤ 30) × (has_disc ≡ true → (slot_at s c.home).present ≡ false)
  changer-status-home h =
      let o = is_in_order_order c s h in
      let few = o.few in
      (either (λ n. n ≤ 30) has_disc (λ d. let w = o.place d in omega arith) (λ d. omega arith), o.free)

  -- ---- every packet that is not A6h, BDh or 1Bh with LoEj 1, past refusal 11, is answered exactly as by the drive, home and slots as they were

  pub changer-others : is_in_order c s ≡ true → is_own p ≡ false → answer c s p t l n ≡ carried (mechanism_of c s) (drive.answer c.drive p t l n)
  changer-others = answer-drive c s p t l n
