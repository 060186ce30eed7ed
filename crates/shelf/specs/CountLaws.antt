-- Laws of sums and counts below a bound: one step, and what a run of numbers adds that pass the test alike.
use Rattle.std.specs.Prelude.{◌≡◌, refl, Bool, true, false, ℕ, zero, suc, ◌+◌, ◌-◌, ◌≤◌, ◌<◌}
use Rattle.std.proofs.Common.{◌∙◌, arith, add-one, lt_of_not-le}
use Rattle.std.proofs.Math.Decide.{dec_le}
use Rattle.ground.specs.Tests.{choose◌then◌else◌, when, unless}
use Rattle.shelf.specs.Count.{sum_below, one_if, count_below}

-- ---- sums

pub sum-none : (f : ℕ → ℕ) → sum_below 0 f ≡ 0
unfolding sum_below
sum-none f = refl

pub sum-next : (n : ℕ) (f : ℕ → ℕ) → sum_below (n + 1) f ≡ sum_below n f + f n
unfolding sum_below
sum-next n f = rw add-one

-- two functions that agree below n
pub sum_same : (n : ℕ) (f g : ℕ → ℕ) → ((i : ℕ) → i < n → f i ≡ g i) → sum_below n f ≡ sum_below n g
unfolding sum_below
sum_same zero f g h = refl
sum_same (suc n) f g h = rw (sum_same n f g (λ i l. h i (omega arith)), h n (omega arith))

-- nothing is added
pub sum-zero : (n : ℕ) (f : ℕ → ℕ) → ((i : ℕ) → i < n → f i ≡ 0) → sum_below n f ≡ 0
unfolding sum_below
sum-zero zero f h = refl
sum-zero (suc n) f h = let a = sum-zero n f (λ i l. h i (omega arith)) in let b = h n (omega arith) in omega arith

-- ---- 1 or 0

pub one_if_true : (b : Bool) → b ≡ true → one_if b ≡ 1
unfolding one_if
one_if_true b h = when b 1 0 h

pub one_if_false : (b : Bool) → b ≡ false → one_if b ≡ 0
unfolding one_if
one_if_false b h = unless b 1 0 h

pub one_if-most : (b : Bool) → one_if b ≤ 1
one_if-most true = let e = one_if_true true refl in omega arith
one_if-most false = let e = one_if_false false refl in omega arith

-- ---- counts

pub count_none : (p : ℕ → Bool) → count_below 0 p ≡ 0
unfolding count_below
count_none p = sum-none _

pub count_next : (n : ℕ) (p : ℕ → Bool) → count_below (n + 1) p ≡ count_below n p + one_if (p n)
unfolding count_below
count_next n p = sum-next n _

-- at most n of them
pub count_most : (n : ℕ) (p : ℕ → Bool) → count_below n p ≤ n
count_most zero p = let e = count_none p in omega arith
count_most (suc n) p =
    let e : count_below (suc n) p ≡ count_below n p + one_if (p n) = rw (add-one n) at (count_next n p) in
    let m = one_if-most (p n) in
    let r = count_most n p in omega arith

-- numbers from a up to e that pass the test alike: all of them are counted, or none
pub count_run :
    (p : ℕ → Bool) (x : Bool) (a e : ℕ) → a ≤ e → ((b : ℕ) → a ≤ b → b < e → p b ≡ x)
    → count_below e p ≡ count_below a p + (choose x then e - a else 0)
count_run p x a zero l h =
    let z : a ≡ 0 = omega arith in
    let n : (choose x then 0 - a else 0) ≡ 0 = nothing x in
    rw z (let m : (choose x then 0 - 0 else 0) ≡ 0 = rw z at n in omega arith)
  where
    nothing : (x : Bool) → (choose x then 0 - a else 0) ≡ 0
    nothing true = when true (0 - a) 0 refl ∙ omega arith
    nothing false = unless false (0 - a) 0 refl
count_run p x a (suc e) l h = elim (dec_le a e) [
  | yes g ↦ (let s : count_below (suc e) p ≡ count_below e p + one_if (p e) = rw (add-one e) at (count_next e p) in
      let r = count_run p x a e g (λ b i j. h b i (omega arith)) in
      let q = one_more x (h e g (omega arith)) g in omega arith)
  | no g ↦ (let z : a ≡ suc e = let i = lt_of_not-le g in omega arith in
      rw z (let m = nothing x in omega arith))
]
  where
    one_more : (x : Bool) → p e ≡ x → a ≤ e → (choose x then suc e - a else 0) ≡ (choose x then e - a else 0) + one_if (p e)
    one_more true q g = let u = one_if_true (p e) q in let v = when true (suc e - a) 0 refl in let w = when true (e - a) 0 refl in omega arith
    one_more false q g = let u = one_if_false (p e) q in let v = unless false (suc e - a) 0 refl in let w = unless false (e - a) 0 refl in omega arith

    nothing : (x : Bool) → (choose x then suc e - suc e else 0) ≡ 0
    nothing true = when true (suc e - suc e) 0 refl ∙ omega arith
    nothing false = unless false (suc e - suc e) 0 refl

-- three tests of which exactly one holds of each number
pub count_three :
    (n : ℕ) (p q r : ℕ → Bool) → ((i : ℕ) → i < n → one_if (p i) + one_if (q i) + one_if (r i) ≡ 1)
    → count_below n p + count_below n q + count_below n r ≡ n
count_three zero p q r h = let a = count_none p in let b = count_none q in let c = count_none r in omega arith
count_three (suc n) p q r h =
    let a : count_below (suc n) p ≡ count_below n p + one_if (p n) = rw (add-one n) at (count_next n p) in
    let b : count_below (suc n) q ≡ count_below n q + one_if (q n) = rw (add-one n) at (count_next n q) in
    let c : count_below (suc n) r ≡ count_below n r + one_if (r n) = rw (add-one n) at (count_next n r) in
    let i = count_three n p q r (λ i l. h i (omega arith)) in
    let o = h n (omega arith) in omega arith
