-- The first places of the slots.
use Rattle.std.specs.Prelude.{ℕ, zero, suc, ◌<◌, ◌≤◌, ◌≡◌, refl, List, [], ◌∷◌, ◌++◌, length, take}
use Rattle.std.proofs.Math.Path.{sym, ap}
use Rattle.std.proofs.Common.{◌∙◌, eq-or-lt_of_le, take-suc}
use Rattle.std.proofs.Math.Logic.{⊎_elim}
use native.Mathlib.Omega.{arith}
use Rattle.std.proofs.Math.ListN.{length-append, get_or-append}
use Rattle.std.proofs.Math.Seq.{get_or_at}
use Rattle.changer.specs.declared.Slot.{Slot}
use Rattle.changer.specs.Slot.{empty_slot, slot_at}

-- one more than a changer may have, so that too many are seen among the first
abbrev pub room : ℕ
room = 32

-- the first n places of a list; past its end empty slots
unfoldable pub firsts : List Slot → ℕ → List Slot
firsts l zero = []
firsts l (suc n) = firsts l n ++ slot_at l n ∷ []

module _ (l : List Slot) where
  firsts-length : (n : ℕ) → length (firsts l n) ≡ n
  unfolding firsts
  firsts-length zero = refl
  firsts-length (suc n) = length-append (firsts l n) (slot_at l n ∷ []) ∙ (let h = firsts-length n in omega arith)

  firsts-take : (n : ℕ) → n ≤ length l → firsts l n ≡ take n l
  unfolding firsts
  firsts-take zero h = refl
  firsts-take (suc n) h = ap (λ (z : List Slot). z ++ slot_at l n ∷ []) (firsts-take n (omega arith)) ∙ sym (take-suc l n empty_slot h)

  firsts_at : (n i : ℕ) → i < n → slot_at l i ≡ slot_at (firsts l n) i
  unfolding firsts
  firsts_at zero i h = absurd (omega arith)
  firsts_at (suc n) i h =
      let e = firsts-length n in
      let le : i ≤ n = omega arith in
      ⊎_elim
      (λ (e' : i ≡ n). sym (ap (slot_at (firsts l n ++ slot_at l n ∷ [])) e' ∙ get_or_at (firsts l n) (slot_at l n) [] empty_slot n e ∙ ap (slot_at l) (sym e')))
      (λ (lt : i < n). firsts_at n i lt ∙ sym (get_or-append (firsts l n) (slot_at l n ∷ []) empty_slot i (omega arith)))
      (eq-or-lt_of_le le)
