-- The laws of the settings: what the search of a row finds, that it is the library's, and that the default is one of them.
use Rattle.std.specs.Prelude.{◌≡◌, refl, true, false, List, [], ◌∷◌, ℕ, ◌+◌, ◌≤◌, ◌<◌, length, drop, get_or, eqb, nat_eq}
use Rattle.std.specs.List.{list_any}
use Rattle.std.proofs.Common.{add-one, eq-eqb, ne_eqb, drop_of_length-le, drop-cons}
use Rattle.ground.specs.Tests.{◌or◌, or_plain}
use Rattle.page.specs.Page.{among, is_setting}

module _ (row : List ℕ) (i b : ℕ) where
  -- the search: the byte at i is it
  pub among-here : i < length row → get_or row i 0 ≡ b → true ≡ among (drop i row) b
  unfolding among ◌or◌
  among-here h e = rw (drop-cons row i 0 h, eq-eqb _ _ e)

  -- it is not, so what is left decides
  pub among_on : i < length row → (get_or row i 0 ≡ b → ⊥) → among (drop i row) b ≡ among (drop (i + 1) row) b
  unfolding among ◌or◌
  among_on h n = rw (drop-cons row i 0 h, ne_eqb _ _ n, add-one i)

  -- and past the end there is none
  pub among_none : length row ≤ i → false ≡ among (drop i row) b
  unfolding among
  among_none h = rw (drop_of_length-le row {i = i} h)

-- the search of a row, in the library's words
pub among-any : (row : List ℕ) (b : ℕ) → list_any (λ x. nat_eq x b) row ≡ among row b
unfolding among
among-any [] b = refl
among-any (x ∷ row) b = rw (among-any row b) (or_plain (eqb x b) (among row b))

pub is_setting_default : is_setting 0x00 ≡ true
unfolding is_setting among ◌or◌
is_setting_default = refl
