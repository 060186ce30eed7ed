-- Tests that compute, sealed so that goals stay short, and the laws by which proofs use them.
use Rattle.std.specs.Prelude.{◌≡◌, Bool, ◌&&◌, ◌||◌, ℕ, zero, suc, ◌+◌, ◌<◌}
use Rattle.std.proofs.Math.Path.{refl}
use Rattle.std.proofs.Common.{sym, ◌∙◌, add-one, arith}
use Rattle.std.proofs.Math.Bool.{true, false}
use Rattle.std.proofs.Math.Decide.{ℕ_discrete}

infixr 35 ◌and◌
infixr 34 ◌or◌
infix 1 choose◌then◌else◌
-- both tests hold
unfoldable pub ◌and◌ : Bool → Bool → Bool
true and b = b
false and b = false

-- at least one of the tests holds
unfoldable pub ◌or◌ : Bool → Bool → Bool
true or b = true
false or b = b

-- the first value where the test holds, else the second
unfoldable pub choose◌then◌else◌ {ℓ} : {A : Type ℓ} → Bool → A → A → A
choose true then x else y = x
choose false then x else y = y

-- the test p holds of 0, 1, .. and each number below n
unfoldable pub every : ℕ → (ℕ → Bool) → Bool
unfolding ◌and◌
every zero p = true
every (suc n) p = every n p and p n

-- ---- and

-- this test holds: what is left decides
pub and_on : (a b : Bool) {r : Bool} → a ≡ true → r ≡ b → r ≡ a and b
unfolding ◌and◌
and_on a b {r} h e = rw h e

-- this test fails: the whole fails
pub and_off : (a b : Bool) → a ≡ false → false ≡ a and b
unfolding ◌and◌
and_off a b h = rw h

-- a test further on fails: the whole fails
pub and_late : (a b : Bool) → false ≡ b → false ≡ a and b
unfolding ◌and◌
and_late true b h = h
and_late false b h = refl

pub and_head : (a b : Bool) → a and b ≡ true → a ≡ true
unfolding ◌and◌
and_head true b h = refl
and_head false b h = h

pub and_tail : (a b : Bool) → a and b ≡ true → b ≡ true
unfolding ◌and◌
and_tail true b h = h
and_tail false b h = absurd (let z : ◌≡◌ {A = ℕ} 0 1 = cc in omega arith)

pub and_both : (a b : Bool) → a ≡ true → b ≡ true → a and b ≡ true
unfolding ◌and◌
and_both a b h k = rw h k

-- a test that holds adds nothing
pub and_with : (a b : Bool) → b ≡ true → a ≡ a and b
unfolding ◌and◌
and_with true b h = sym h
and_with false b h = refl

pub and_assoc : (a b c : Bool) → (a and b) and c ≡ a and (b and c)
unfolding ◌and◌
and_assoc true b c = refl
and_assoc false b c = refl

-- the library's test
pub and_plain : (a b : Bool) → (a && b) ≡ a and b
unfolding ◌and◌
and_plain true b = refl
and_plain false b = refl

-- ---- or

pub or_left : (a b : Bool) → a ≡ true → a or b ≡ true
unfolding ◌or◌
or_left a b h = rw h

pub or_right : (a b : Bool) → b ≡ true → a or b ≡ true
unfolding ◌or◌
or_right true b h = refl
or_right false b h = h

-- the first test fails: the second decides
pub or_else : (a b : Bool) → a ≡ false → a or b ≡ b
unfolding ◌or◌
or_else a b h = rw h

-- the library's test
pub or_plain : (a b : Bool) → (a || b) ≡ a or b
unfolding ◌or◌
or_plain true b = refl
or_plain false b = refl

-- ---- if

module _ {ℓ} {A : Type ℓ} where
  pub when : (b : Bool) (x y : A) → b ≡ true → (choose b then x else y) ≡ x
  unfolding choose◌then◌else◌
  when b x y h = rw h

  pub unless : (b : Bool) (x y : A) → b ≡ false → (choose b then x else y) ≡ y
  unfolding choose◌then◌else◌
  unless b x y h = rw h

  -- what holds of both values holds of the chosen one
  pub either {κ} : (P : A → Type κ) (b : Bool) {x y : A} → (b ≡ true → P x) → (b ≡ false → P y) → P (choose b then x else y)
  unfolding choose◌then◌else◌
  either P true f g = f refl
  either P false f g = g refl

-- ---- every

pub every-none : (p : ℕ → Bool) → every 0 p ≡ true
unfolding every
every-none p = refl

pub every_step : (n : ℕ) (p : ℕ → Bool) → every (n + 1) p ≡ every n p and p n
unfolding every
every_step n p = rw add-one

-- one more number holds
pub every_more : (n : ℕ) (p : ℕ → Bool) → every n p ≡ true → p n ≡ true → every (n + 1) p ≡ true
every_more n p h k = every_step n p ∙ and_both (every n p) (p n) h k

-- the test holds at each number below n
pub every-at : (n : ℕ) (p : ℕ → Bool) → every n p ≡ true → (i : ℕ) → i < n → p i ≡ true
unfolding every
every-at zero p h i k = absurd (omega arith)
every-at (suc n) p h i k = elim (ℕ_discrete i n) [
  | yes e ↦ rw e (and_tail (every n p) (p n) h)
  | no e ↦ every-at n p (and_head (every n p) (p n) h) i (omega arith)
]

-- one number below n fails: the whole fails
pub every-breaks : (n : ℕ) (p : ℕ → Bool) (i : ℕ) → i < n → p i ≡ false → false ≡ every n p
unfolding every
every-breaks zero p i k h = absurd (omega arith)
every-breaks (suc n) p i k h = elim (ℕ_discrete i n) [
  | yes e ↦ and_late (every n p) (p n) (sym (rw e at h))
  | no e ↦ and_off (every n p) (p n) (sym (every-breaks n p i (omega arith) h))
]

-- what holds at each number holds of all
pub every-all : (n : ℕ) (p : ℕ → Bool) → ((i : ℕ) → i < n → p i ≡ true) → every n p ≡ true
unfolding every
every-all zero p f = refl
every-all (suc n) p f = and_both (every n p) (p n) (every-all n p (λ i k. f i (omega arith))) (f n (omega arith))

-- two tests that agree below n
pub every-same : (n : ℕ) (p q : ℕ → Bool) → ((i : ℕ) → i < n → p i ≡ q i) → every n p ≡ every n q
unfolding every
every-same zero p q f = refl
every-same (suc n) p q f = rw (every-same n p q (λ i k. f i (omega arith))) (rw (f n (omega arith)))

-- ---- tests asked one after another

pub and_three : (a b c : Bool) {v r : Bool} → v ≡ a and b → r ≡ v and c → r ≡ a and b and c
and_three a b c p s = s ∙ rw p (and_assoc a b c)

pub and_four : (a b c d : Bool) {v w r : Bool} → v ≡ a and b → w ≡ v and c → r ≡ w and d → r ≡ a and b and c and d
and_four a b c d p q s = and_three a b (c and d) p (s ∙ rw q (and_assoc _ c d))
