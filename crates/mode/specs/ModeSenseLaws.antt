-- The laws of MODE SENSE: each way out, and what holds of them all.
use Rattle.std.specs.Prelude.{◌≡◌, refl, false, ℕ, Result as Answer, Ok, Err}
use Rattle.std.proofs.Common.{◌∙◌, eq-eqb, ne_eqb}
use Rattle.ground.specs.Tests.{when, unless}
use Rattle.page.specs.declared.Page.{Page}
use Rattle.page.specs.Page.{defaults}
use Rattle.deck.specs.declared.Deck.{Deck}
use Rattle.gate.specs.declared.fault.Fault.{Fault}
use Rattle.gate.specs.declared.fault.Fault.TheVariants.{BadField, NoSaving}
use Rattle.gate.specs.Gate.{Result, fails, goes}
use Rattle.command.specs.Done.{answering-goes}
use Rattle.mode.specs.ModeSense.{control_in, page_in, asks_changeable, asks_default, asks_saved, changeable, values_of, page_shown, mode_bytes, gives, mode_sense}

module _ (control : ℕ) (current : Page) where
  pub values_of-changeable : control ≡ asks_changeable → values_of control current ≡ changeable
  unfolding values_of
  values_of-changeable h = when _ _ _ (eq-eqb _ _ h)

  module _ (n : control ≡ asks_changeable → ⊥) where
    pub values_of-default : control ≡ asks_default → values_of control current ≡ defaults
    unfolding values_of
    values_of-default h = unless _ _ _ (ne_eqb _ _ n) ∙ when _ _ _ (eq-eqb _ _ h)

    pub values_of-current : (control ≡ asks_default → ⊥) → values_of control current ≡ current
    unfolding values_of
    values_of-current h = unless _ _ _ (ne_eqb _ _ n) ∙ unless _ _ _ (ne_eqb _ _ h)

module _ (b : ℕ) (current : Page) where
  pub page_shown-other : (page_in b ≡ 0x01 → ⊥) → page_shown b current ≡ Err BadField
  unfolding page_shown
  page_shown-other h = unless _ _ _ (ne_eqb _ _ h)

  module _ (p : page_in b ≡ 0x01) where
    pub page_shown-saved : control_in b ≡ asks_saved → page_shown b current ≡ Err NoSaving
    unfolding page_shown
    page_shown-saved h = when _ _ _ (eq-eqb _ _ p) ∙ when _ _ _ (eq-eqb _ _ h)

    pub page_shown-values : (control_in b ≡ asks_saved → ⊥) → page_shown b current ≡ Ok (values_of (control_in b) current)
    unfolding page_shown
    page_shown-values h = when _ _ _ (eq-eqb _ _ p) ∙ unless _ _ _ (ne_eqb _ _ h)

-- what holds of every fault and of the bytes of any values holds of the command
module _ (P : Result Deck → Type 0) (limit : ℕ) (m : Deck) where
  gives-ways : (s : Answer Page Fault) → ((f : Fault) → P (fails f)) → ((g : Page) → P (goes m false (mode_bytes g) limit 0 0)) → P (gives s limit m)
  gives-ways (Err f) a v = a f
  gives-ways (Ok g) a v = rw (answering-goes m (mode_bytes g) limit {bad = false} refl) (v g)

  pub mode_sense-ways : (b : ℕ) → ((f : Fault) → P (fails f)) → ((g : Page) → P (goes m false (mode_bytes g) limit 0 0)) → P (mode_sense b limit m)
  mode_sense-ways b = gives-ways (page_shown b m.page)
