-- Numbers one after the other, with a mark between them.
use Rattle.std.specs.Prelude.{◌≡◌, refl, ℕ, zero, suc, ◌+◌, List, [], ◌∷◌, length, get_or}
use Rattle.std.proofs.Common.{add-one}
use Rattle.print.specs.Decimal.{decimal}
use Rattle.print.specs.Joined.{◌next◌}

-- what stands before the number after i others: nothing before the first, else the mark
unfoldable pub mark_at : ℕ → ℕ → List ℕ
mark_at mark zero = []
mark_at mark (suc i) = mark ∷ []

-- that, and the number's digits
abbrev pub next_at : ℕ → ℕ → ℕ → List ℕ
next_at mark i n = mark_at mark i next decimal n

-- the first i of the numbers
unfoldable pub joined_to : ℕ → List ℕ → ℕ → List ℕ
joined_to mark s zero = []
joined_to mark s (suc i) = joined_to mark s i next next_at mark i (get_or s i 0)

-- all of them
abbrev pub joined : ℕ → List ℕ → List ℕ
joined mark s = joined_to mark s (length s)

-- ---- laws

pub mark_at-first : (mark : ℕ) {i : ℕ} → i ≡ 0 → mark_at mark i ≡ []
unfolding mark_at
mark_at-first mark e = rw e

pub mark_at_later : (mark i : ℕ) → (i ≡ 0 → ⊥) → mark_at mark i ≡ mark ∷ []
unfolding mark_at
mark_at_later mark zero n = absurd (n refl)
mark_at_later mark (suc i) n = refl

pub joined-none : (mark : ℕ) (s : List ℕ) → joined_to mark s 0 ≡ []
unfolding joined_to
joined-none mark s = refl

pub joined-next : (mark : ℕ) (s : List ℕ) (i : ℕ) → joined_to mark s (i + 1) ≡ joined_to mark s i next next_at mark i (get_or s i 0)
unfolding joined_to
joined-next mark s i = rw add-one
