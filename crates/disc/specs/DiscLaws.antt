-- What a reading tells: a fit table's disc, or the first broken rule.
use Rattle.std.specs.Prelude.{◌≡◌, refl, Bool, true, false, List, ℕ, ◌≤◌, Ok, Err}
use Rattle.std.proofs.Common.{sym, ap, ◌∙◌, arith, ne_eqb}
use Rattle.ground.specs.Tests.{when, unless}
use Rattle.disc.specs.Rules.{fault, is_fit}
use Rattle.disc.specs.Disc.{disc_of, unfit_by, reading}
use Rattle.disc.specs.declared.disc.Disc.{Disc}
use Rattle.disc.specs.declared.disc.Unfit.{Unfit}

pub reading_fit : (t : List ℕ) (disc : Disc) → reading t ≡ Ok disc → (is_fit t ≡ true) × (disc ≡ disc_of t)
unfolding reading
reading_fit t disc h = decided (is_fit t) refl
  where
    decided : (b : Bool) → is_fit t ≡ b → (is_fit t ≡ true) × (disc ≡ disc_of t)
    decided true e = let k = sym (when _ (Ok (disc_of t)) (Err (unfit_by (fault t))) e) ∙ h in (e, cc)
    decided false e =
        let k = sym (unless _ (Ok (disc_of t)) (Err (unfit_by (fault t))) e) ∙ h in
        let z : ◌≡◌ {A = ℕ} 0 1 = cc in absurd (omega arith)

-- that it is not, and the first broken rule
pub reading-unfit : (t : List ℕ) (u : Unfit) → reading t ≡ Err u → (is_fit t ≡ false) × (u.rule ≡ fault t)
unfolding reading
reading-unfit t u h = decided (is_fit t) refl
  where
    decided : (b : Bool) → is_fit t ≡ b → (is_fit t ≡ false) × (u.rule ≡ fault t)
    decided true e =
        let k = sym (when _ (Ok (disc_of t)) (Err (unfit_by (fault t))) e) ∙ h in
        let z : ◌≡◌ {A = ℕ} 0 1 = cc in absurd (omega arith)
    decided false e = let k = sym (unless _ (Ok (disc_of t)) (Err (unfit_by (fault t))) e) ∙ h in (e, cc)

-- the reading of a table that is not fit is the first broken rule
pub reading_broken : (t : List ℕ) {n : ℕ} → n ≡ fault t → 1 ≤ n → Err (unfit_by n) ≡ reading t
unfolding reading is_fit
reading_broken t e l = ap (λ (n : ℕ). Err (unfit_by n)) e ∙ sym (unless _ _ _ (ne_eqb (fault t) 0 (λ z. omega arith)))
