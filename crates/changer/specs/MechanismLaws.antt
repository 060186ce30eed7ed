-- What the code of LOAD/UNLOAD hands back, and that it is what the definition says.
use Rattle.std.specs.Prelude.{ℕ, ◌<◌, ◌≤◌, ◌≡◌, refl, Bool, true, false, List, [], length, take, Ok, Err}
use Rattle.std.proofs.Common.{ap, ◌∙◌, get_or-set_same, get_or-set_other, lt-ltb, le-ltb}
use Rattle.std.proofs.Math.Bool.{not}
use Rattle.ground.specs.Tests.{when, unless, either}
use Rattle.ground.specs.Memory.{fill, Laid}
use Rattle.deck.specs.declared.Deck.{Deck}
use Rattle.deck.specs.Deck.{closing, with_disc}
use Rattle.gate.specs.declared.fault.Fault.{Fault}
use Rattle.gate.specs.declared.fault.Fault.TheVariants.{BadField, RemovalPrevented}
use Rattle.gate.specs.Gate.{Result, fails, goes}
use Rattle.command.specs.Done.{done, done_of}
use Rattle.command.specs.Tray.{moving as shifted}
use Rattle.target.specs.Perform.{written}
use Rattle.target.specs.PerformLaws.{Quiet, performed_quiet, performed_goes}
use Rattle.changer.specs.declared.Slot.{Slot}
use Rattle.changer.specs.declared.load.Act.{Act}
use Rattle.changer.specs.Slot.{slot, empty_slot, slot_at, put_back}
use Rattle.changer.specs.Mechanism.{Mechanism, returned_deck, returned, takes, loads, unloads, load_unload}
use Rattle.changer.specs.Moves.{settled, Within, staying, moving, within-staying, within-moving, settled_still, settled-moving, settled-one}

-- the deck's part of a result
abbrev pub deck_of : Result Mechanism → Result Deck
deck_of (fails f) = fails f
deck_of (goes next loading full limit start count) = goes next.deck loading full limit start count

-- the mechanism after it
abbrev pub after : Mechanism → Result Mechanism → Mechanism
after m (fails f) = m
after m (goes next loading full limit start count) = next

-- a disc in the drive has a place among the slots for its home
abbrev pub Homed : Mechanism → Type 0
Homed m = m.deck.disc_in ≡ true → m.home < length m.slots

-- what the code hands back is what the result says
pub record Acted (r : Result Mechanism) (m : Mechanism) (a : Act) : Type 0 where
  pub done : a.done ≡ done_of (deck_of r)
  pub home : a.home ≡ (after m r).home
  pub slots : settled m.slots a.moves ≡ (after m r).slots
  pub within : Within a.moves (length m.slots)

-- and what it leaves in the response memory
pub record ActedOn (r : Result Mechanism) (m : Mechanism) (b : List ℕ) (a : Act) (b' : List ℕ) : Type 0 where
  pub acted : Acted r m a
  pub memory : b' ≡ fill b (written (deck_of r))

abbrev pub still_with : Deck → ℕ → Act
still_with m home = record { done = done_of (done m); home = home; moves = staying }

abbrev pub failed_with : Fault → ℕ → Act
failed_with f home = record { done = Err f; home = home; moves = staying }

-- ---- what a slot holds once a disc is back at its home

module _ (s : List Slot) (home : ℕ) where
  pub put_back-home : home < length s → (slot_at (put_back s home) home).present ≡ true
  put_back-home h = ap (λ (x : Slot). x.present) (get_or-set_same s home (slot true (slot_at s home).changed) empty_slot h)

  pub put_back-other : (i : ℕ) → (i ≡ home → ⊥) → (slot_at (put_back s home) i).present ≡ (slot_at s i).present
  put_back-other i n = ap (λ (x : Slot). x.present) (get_or-set_other s home i (slot true (slot_at s home).changed) empty_slot n)

-- ---- what the code does is what the definition says

module _ (m : Mechanism) where
  acted-fault : (f : Fault) → Acted (fails f) m (failed_with f m.home)
  acted-fault f = record { done = refl; home = refl; slots = settled_still m.slots staying refl; within = within-staying (length m.slots) }

  acted-kept : Acted (goes m false [] 0 0 0) m (still_with m.deck m.home)
  acted-kept = record { done = refl; home = refl; slots = settled_still m.slots staying refl; within = within-staying (length m.slots) }

  pub acted-fails : (f : Fault) {r : Result Mechanism} → r ≡ fails f → Acted r m (failed_with f m.home)
  acted-fails f e = rw e (acted-fault f)

  -- with a disc in the drive
  module _ (d : m.deck.disc_in ≡ true) (h : m.home < length m.slots) where
    abbrev back : Slot
    back = slot true (slot_at m.slots m.home).changed

    abbrev emptied_of : Mechanism
    emptied_of = record { deck = returned_deck m.deck; home = 0; slots = put_back m.slots m.home }

    returned-back : returned m ≡ emptied_of
    unfolding returned
    returned-back = when _ _ _ d

    pub acted-unload :
        Acted (unloads m) m (record { done = done_of (done (returned_deck m.deck)); home = 0; moves = moving m.home back m.home back })
    acted-unload = rw returned-back (record {
      done = refl;
      home = refl;
      slots = settled-one m.slots m.home back;
      within = within-moving back back h h;
    })

    pub loads-none : (i : ℕ) → (slot_at (put_back m.slots m.home) i).present ≡ false → loads i m ≡ unloads m
    unfolding takes
    loads-none i n = unless _ _ _ (ap (λ (x : Mechanism). (slot_at x.slots i).present) returned-back ∙ n)

    pub acted-exchange : (i : ℕ) → i < length m.slots → (slot_at (put_back m.slots m.home) i).present ≡ true
        → Acted (loads i m) m (record {
          done = done_of (shifted (closing (with_disc (returned_deck m.deck) true)));
          home = i;
          moves = moving m.home back i empty_slot;
        })
    unfolding takes
    acted-exchange i l p = rw (returned-back, when _ _ _ p) (record {
      done = refl;
      home = refl;
      slots = settled-moving m.slots m.home back i empty_slot;
      within = within-moving back empty_slot h l;
    })

  -- with none
  module _ (d : m.deck.disc_in ≡ false) where
    returned-none : returned m ≡ m
    unfolding returned
    returned-none = unless _ _ _ d

    pub acted-unmoved : Acted (unloads m) m (still_with m.deck m.home)
    acted-unmoved = rw returned-none acted-kept

    pub acted-take : (i : ℕ) → i < length m.slots → (slot_at m.slots i).present ≡ true
        → Acted (loads i m) m (record {
          done = done_of (shifted (closing (with_disc m.deck true)));
          home = i;
          moves = moving i empty_slot i empty_slot;
        })
    unfolding takes
    acted-take i l p = rw (returned-none, when _ _ _ p) (record {
      done = refl;
      home = refl;
      slots = settled-one m.slots i empty_slot;
      within = within-moving empty_slot empty_slot l l;
    })

    pub acted-no-take : (i : ℕ) → (slot_at m.slots i).present ≡ false → Acted (loads i m) m (still_with m.deck m.home)
    unfolding takes
    acted-no-take i n = rw (returned-none, unless _ _ _ n) acted-kept

  -- ---- pair, slot and lock, in this order

  module _ (start : Bool) (i : ℕ) where
    pub load_unload-pair : {lo : Bool} → lo ≡ false → load_unload lo start i m ≡ fails BadField
    unfolding load_unload
    load_unload-pair e = when _ _ _ (ap not e)

    module _ {lo : Bool} (e : lo ≡ true) where
      pub load_unload-slot : length m.slots ≤ i → load_unload lo start i m ≡ fails BadField
      unfolding load_unload
      load_unload-slot h = unless _ _ _ (ap not e) ∙ when _ _ _ (ap not (le-ltb _ _ h))

      module _ (h : i < length m.slots) where
        pub load_unload-locked : m.deck.lock ≡ true → load_unload lo start i m ≡ fails RemovalPrevented
        unfolding load_unload
        load_unload-locked k = unless _ _ _ (ap not e) ∙ unless _ _ _ (ap not (lt-ltb _ _ h)) ∙ when _ _ _ k

        module _ (k : m.deck.lock ≡ false) where
          pub load_unload-loads : start ≡ true → load_unload lo start i m ≡ loads i m
          unfolding load_unload
          load_unload-loads g = unless _ _ _ (ap not e) ∙ unless _ _ _ (ap not (lt-ltb _ _ h)) ∙ unless _ _ _ k ∙ when _ _ _ g

          pub load_unload-unloads : start ≡ false → load_unload lo start i m ≡ unloads m
          unfolding load_unload
          load_unload-unloads g = unless _ _ _ (ap not e) ∙ unless _ _ _ (ap not (lt-ltb _ _ h)) ∙ unless _ _ _ k ∙ unless _ _ _ g

-- ---- the response memory

-- LOAD/UNLOAD writes nothing
pub load_unload_quiet : (lo start : Bool) (i : ℕ) (m : Mechanism) → Quiet (deck_of (load_unload lo start i m))
unfolding load_unload takes
load_unload_quiet lo start i m =
    let Q : Result Mechanism → Type 0 = λ r. Quiet (deck_of r) in
    either Q _ (λ a. refl) (λ a. either Q _ (λ b. refl) (λ b. either Q _ (λ d. refl) (λ d. either Q _ (λ e. either Q _ (λ f. refl) (λ f. refl)) (λ e. refl))))

pub acted_on_quiet : {r : Result Mechanism} {m : Mechanism} {a : Act} (b : List ℕ) → Quiet (deck_of r) → Acted r m a → ActedOn r m b a b
acted_on_quiet {r} b q x = record { acted = x; memory = (performed_quiet {r = deck_of r} b q refl).memory }

-- MECHANISM STATUS leaves its answer, cut
pub acted_on_status : (m : Mechanism) (full : List ℕ) {limit n : ℕ} {b b' : List ℕ} → length full ≤ length b → Laid b (take limit full) n b'
    → ActedOn (goes m false full limit 0 0) m b
    (record { done = Ok (record { next = m.deck; loading = false; len = n; start = 0; count = 0 }); home = m.home; moves = staying }) b'
acted_on_status m full {limit} h l =
    let x = performed_goes {r = goes m.deck false full limit 0 0} full refl h l in
    record {
      acted = record { done = x.outcome; home = refl; slots = settled_still m.slots staying refl; within = within-staying (length m.slots) };
      memory = x.memory;
    }
