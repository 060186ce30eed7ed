-- The laws of the class that is answered: each way out, and over all 256 bytes which it is, by its bits alone.
use Rattle.std.specs.Prelude.{◌≡◌, refl, Bool, true, false, not, ℕ, zero, suc, ◌/◌, ◌%◌, ◌≤◌, ◌<◌, eqb}
use Rattle.std.proofs.Common.{sym, ◌∙◌, eq-eqb, ne_eqb, eqb-true}
use Rattle.std.proofs.Math.Path.{ap}
use Rattle.std.specs.Int.Bits.{bit_and}
use Rattle.std.specs.Int.Count.{count_trailing_zeros}
use Rattle.std.proofs.lemmas.Nat.{trailing_le}
use Rattle.std.proofs.Math.Dec.{eqb-suc-zero}
use Rattle.ground.specs.Tests.{◌and◌, choose◌then◌else◌, when, unless, every, every-at}
use Rattle.deck.specs.Deck.{no_event}
use Rattle.event.specs.EventClass.{external, media, supported, no_class, waiting, lowest, or_else, class_for}

pub lowest_small : (classes : ℕ) → lowest classes ≤ no_class
lowest_small classes = trailing_le 8 classes

module _ (event : ℕ) where
  pub waiting_none : event ≡ 0 → waiting event ≡ 0
  unfolding waiting
  waiting_none h = when _ _ _ (eq-eqb _ _ h)

  pub waiting-media : (event ≡ 0 → ⊥) → waiting event ≡ 0x10
  unfolding waiting
  waiting-media h = unless _ _ _ (ne_eqb _ _ h)

module _ (asked event : ℕ) where
  pub class_for-all : bit_and (bit_and asked supported) (waiting event) ≡ 0 → class_for asked event ≡ lowest (bit_and asked supported)
  unfolding class_for or_else
  class_for-all h = ap lowest (when _ _ _ (eq-eqb _ _ h))

  pub class_for-having : (bit_and (bit_and asked supported) (waiting event) ≡ 0 → ⊥)
      → class_for asked event ≡ lowest (bit_and (bit_and asked supported) (waiting event))
  unfolding class_for or_else
  class_for-having h = ap lowest (unless _ _ _ (ne_eqb _ _ h))

-- ---- by the bits alone

-- bits 3 and 4 of a byte
abbrev bit3 : ℕ → Bool
bit3 b = eqb (b / 8 % 2) 1

abbrev bit4 : ℕ → Bool
bit4 b = eqb (b / 16 % 2) 1

-- media where it is asked for and has an event waiting; else external where that is asked for; else media; else none
abbrev pub by_bits : ℕ → Bool → ℕ
by_bits asked waits = choose bit4 asked and waits then media else (choose bit3 asked then external else (choose bit4 asked then media else no_class))

-- over all 256 bytes, with no event and with one
all_quiet : every 256 (λ b. eqb (class_for b 0) (by_bits b false)) ≡ true
unfolding every class_for or_else waiting count_trailing_zeros ◌and◌ choose◌then◌else◌
all_quiet = refl

all-waiting : every 256 (λ b. eqb (class_for b 1) (by_bits b true)) ≡ true
unfolding every class_for or_else waiting count_trailing_zeros ◌and◌ choose◌then◌else◌
all-waiting = refl

-- which event waits does not matter
class_for_any : (asked event : ℕ) → class_for asked (suc event) ≡ class_for asked 1
unfolding class_for waiting
class_for_any asked event = rw (eqb-suc-zero event)

pub class_for_bits : (asked event : ℕ) → asked < 256 → class_for asked event ≡ by_bits asked (not (eqb event no_event))
class_for_bits asked zero h = eqb-true _ _ (every-at 256 (λ b. eqb (class_for b 0) (by_bits b false)) all_quiet asked h)
class_for_bits asked (suc event) h =
    class_for_any asked event ∙ eqb-true _ _ (every-at 256 (λ b. eqb (class_for b 1) (by_bits b true)) all-waiting asked h) ∙ ap (λ (b : Bool). by_bits asked (not b)) (sym (eqb-suc-zero event))
