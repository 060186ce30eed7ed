-- The laws of the answer: its two forms and their lengths, what it leaves waiting, and what holds of every way out.
use Rattle.std.specs.Prelude.{◌≡◌, refl, Bool, true, false, not, ℕ, ◌≤◌, ◌<◌, min, eqb}
use Rattle.std.proofs.Common.{sym, ap, ◌∙◌, arith, eq-eqb, ne_eqb, eqb-true, le-leb}
use mathlib.Core.List.{List}
use Rattle.std.proofs.Math.ListN.{length}
use Rattle.std.proofs.lemmas.Bool.{eqb-false, lt-leb}
use Rattle.ground.specs.Tests.{choose◌then◌else◌, when, unless, either, and_off, and_late, and_both}
use Rattle.deck.specs.declared.Deck.{Deck}
use Rattle.deck.specs.Deck.{no_event, with_event}
use Rattle.gate.specs.declared.fault.Fault.TheVariants.{BadField}
use Rattle.gate.specs.Gate.{Result, fails, goes}
use Rattle.command.specs.Command.{byte, bit0}
use Rattle.command.specs.Done.{answering}
use Rattle.event.specs.EventClass.{media, no_class, class_for}
use Rattle.event.specs.EventAnswer.{class_bytes, none_bytes, event_bytes, cleared, is_clearing, get_event}

module _ (class : ℕ) (m : Deck) where
  pub event_bytes-none : class ≡ no_class → event_bytes class m ≡ none_bytes
  unfolding event_bytes
  event_bytes-none h = when _ _ _ (eq-eqb _ _ h)

  pub event_bytes-class : (class ≡ no_class → ⊥) → event_bytes class m ≡ class_bytes class m
  unfolding event_bytes
  event_bytes-class h = unless _ _ _ (ne_eqb _ _ h)

  -- never more than eight
  pub event_bytes-length : length (event_bytes class m) ≤ 8
  unfolding event_bytes
  event_bytes-length = either (λ (l : List ℕ). length l ≤ 8) _ (λ h. omega arith) (λ h. omega arith)

  -- a media answer is of eight bytes
  event_bytes-media : class ≡ media → length (event_bytes class m) ≡ 8
  event_bytes-media h = ap length (event_bytes-class (λ n. let e : ◌≡◌ {A = ℕ} media no_class = sym h ∙ n in omega arith))

  pub cleared-media : (limit : ℕ) → class ≡ media → 5 ≤ limit → cleared class (min limit (length (event_bytes class m))) m ≡ with_event m no_event
  unfolding cleared
  cleared-media limit h l =
      let n = event_bytes-media h in
      when _ _ _ (and_both _ _ (eq-eqb _ _ h) (le-leb 5 (min limit (length (event_bytes class m))) (omega arith)))

  pub cleared-short : (limit : ℕ) → limit < 5 → cleared class (min limit (length (event_bytes class m))) m ≡ m
  unfolding cleared
  cleared-short limit l =
      unless _ _ _ (sym (and_late (eqb class media) _ (sym (lt-leb 5 (min limit (length (event_bytes class m))) (omega arith)))))

  pub cleared-other : (given : ℕ) → (class ≡ media → ⊥) → cleared class given m ≡ m
  unfolding cleared
  cleared-other given h = unless _ _ _ (sym (and_off _ _ (ne_eqb _ _ h)))

  -- the class that is answered stands in byte 2, and 80h where there is none
  event_bytes-shown : eqb (byte (event_bytes class m) 2) media ≡ eqb class media
  event_bytes-shown = go (eqb class no_class) refl
    where
      shown : List ℕ → Bool
      shown l = eqb (byte l 2) media

      go : (b : Bool) → eqb class no_class ≡ b → eqb (byte (event_bytes class m) 2) media ≡ eqb class media
      go true h = ap shown (event_bytes-none (eqb-true _ _ h)) ∙ ap (λ (k : ℕ). eqb k media) (sym (eqb-true class no_class h))
      go false h = ap shown (event_bytes-class (eqb-false class no_class h))

  -- so the answer tells whether it cleared the event: it shows the class media, and at least five bytes of it are given
  pub cleared-told : (limit : ℕ) → let full = event_bytes class m in
      cleared class (min limit (length full)) m ≡ (choose is_clearing full limit then with_event m no_event else m)
  unfolding cleared
  cleared-told limit = rw event_bytes-shown

-- ---- each way out

-- a fault, or an answer of at most eight bytes that leaves the deck, or its event cleared
module _ (P : Result Deck → Type 0) (limit : ℕ) (m : Deck) where
  pub get_event-ways : (b1 asked : ℕ) → P (fails BadField)
      → ((full : List ℕ) → length full ≤ 8 → P (goes (choose is_clearing full limit then with_event m no_event else m) false full limit 0 0))
      → P (get_event b1 asked limit m)
  unfolding answering
  get_event-ways b1 asked f g =
      let class = class_for asked m.event in
      either P (not (bit0 b1)) (λ h. f) (λ h. rw (cleared-told class m limit) (g (event_bytes class m) (event_bytes-length class m)))
