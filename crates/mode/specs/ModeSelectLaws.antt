-- The laws of MODE SELECT: each way out.
use Rattle.std.specs.Prelude.{◌≡◌, true, false, List, ℕ, length}
use Rattle.std.proofs.Common.{sym, ◌∙◌}
use borrow.Author.Tests.{eq-eqb, ne_eqb}
use Rattle.ground.specs.Tests.{when, unless, either, and_tail, and_on, and_off, and_both, or_left, or_right, or_else}
use Rattle.page.specs.Page.{page_of, is_setting}
use Rattle.deck.specs.declared.Deck.{Deck}
use Rattle.deck.specs.Deck.{with_page}
use Rattle.gate.specs.declared.fault.Fault.TheVariants.{ListLength, ListField}
use Rattle.gate.specs.Gate.{Result, fails}
use Rattle.command.specs.Command.{byte}
use Rattle.command.specs.Done.{done}
use Rattle.mode.specs.ModeSelect.{is_list_length, is_page, selected, mode_select}

module _ (code len recovery retry : ℕ) (m : Deck) where
  pub selected-sets : is_page code len recovery ≡ true → selected code len recovery retry m ≡ done (with_page m (page_of recovery retry))
  unfolding selected
  selected-sets h = when _ _ _ h

  pub selected-bad : is_page code len recovery ≡ false → selected code len recovery retry m ≡ fails ListField
  unfolding selected
  selected-bad h = unless _ _ _ h

module _ (n : ℕ) (l : List ℕ) (m : Deck) where
  pub mode_select-differs : (n ≡ length l → ⊥) → mode_select n l m ≡ fails ListLength
  unfolding mode_select is_list_length
  mode_select-differs h = unless _ _ _ (sym (and_off _ _ (ne_eqb _ _ h)))

  module _ (e : n ≡ length l) where
    -- a list that is neither empty nor of sixteen bytes is of another length
    pub mode_select-other : (n ≡ 0 → ⊥) → (n ≡ 16 → ⊥) → mode_select n l m ≡ fails ListLength
    unfolding mode_select is_list_length
    mode_select-other h k = unless _ _ _ (sym (and_on _ _ (eq-eqb _ _ e) (sym (or_else _ _ (ne_eqb _ _ h) ∙ ne_eqb _ _ k))))

    pub mode_select-none : n ≡ 0 → mode_select n l m ≡ done m
    unfolding mode_select is_list_length
    mode_select-none h = when _ _ _ (and_both _ _ (eq-eqb _ _ e) (or_left _ _ (eq-eqb _ _ h))) ∙ when _ _ _ (eq-eqb _ _ h)

    pub mode_select-page : (n ≡ 0 → ⊥) → n ≡ 16 → mode_select n l m ≡ selected (byte l 8) (byte l 9) (byte l 10) (byte l 11) m
    unfolding mode_select is_list_length
    mode_select-page h k = when _ _ _ (and_both _ _ (eq-eqb _ _ e) (or_right _ _ (eq-eqb _ _ k))) ∙ unless _ _ _ (ne_eqb _ _ h)

-- what holds of each way out holds of the command: a page that is set has one of the twenty
pub mode_select_ways :
    (P : Result Deck → Type 0) (n : ℕ) (l : List ℕ) (m : Deck) → P (fails ListLength) → P (done m)
    → (is_setting (byte l 10) ≡ true → P (done (with_page m (page_of (byte l 10) (byte l 11))))) → P (fails ListField) → P (mode_select n l m)
unfolding mode_select selected is_page
mode_select_ways P n l m a b f c =
    either P _ (λ h. either P _ (λ k. b) (λ k. either P _ (λ i. f (and_tail _ _ (and_tail _ _ i))) (λ i. c))) (λ h. a)
