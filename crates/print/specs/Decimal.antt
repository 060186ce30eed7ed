-- Numbers as plain decimal digits.
use Rattle.std.specs.Prelude.{ℕ, zero, suc, ◌-◌, ◌*◌, ◌/◌, ◌^◌, ◌≤◌, ◌<◌, ◌≡◌, refl, true, false, List, leb, length}
use Rattle.std.proofs.Common.{ap, ◌∙◌, arith, pow-suc, zero-lt-suc, lt_of_not-le, le-leb, length-append}
use Rattle.std.proofs.Math.Nat.{pow-le-pow_right}
use Rattle.std.proofs.Math.Decide.{dec_le}
use Rattle.std.proofs.Math.Numerals.{unary_clauses}
use Rattle.std.proofs.lemmas.Bool.{lt-leb}
use Rattle.print.specs.Digits.{last_digits, IsDigitCount}
use Rattle.ground.specs.Tests.{choose◌then◌else◌, when, unless, either}

-- how many digits n has, at most `most`: one where it is below ten, else one more than a tenth of it has
unfoldable pub places : ℕ → ℕ → ℕ
places zero n = 0
places (suc most) n = choose leb n 9 then 1 else suc (places most (n / 10))

-- the digits of a number of 64 bits, which has at most twenty
unfoldable pub decimal : ℕ → List ℕ
decimal n = last_digits 10 (places 20 n) n

-- ---- laws

pow_pos : (j : ℕ) → 1 ≤ 10 ^ j
pow_pos zero = omega arith
pow_pos (suc j) = let e : 10 ^ suc j ≡ 10 ^ j * 10 = pow-suc 10 j in let h = pow_pos j in omega arith

-- the fewest digits that hold a number are as many as it has
pub places_fewest : (most n k : ℕ) → k ≤ most → IsDigitCount 10 1 n k → places most n ≡ k
unfolding places
places_fewest zero n k h f = omega arith
places_fewest (suc most) n zero h f = absurd (omega arith)
places_fewest (suc most) n (suc zero) h f = (let e : leb n 9 ≡ true = le-leb n 9 (omega (arith, f.1)) in when _ _ _ e)
places_fewest (suc most) n (suc (suc j)) h f =
    let p : 10 ^ suc j ≡ 10 ^ j * 10 = pow-suc 10 j in
    let q : 10 ^ suc (suc j) ≡ 10 ^ suc j * 10 = pow-suc 10 (suc j) in
    let one : 1 ≤ 10 ^ j = pow_pos j in
    let low : 10 ^ j * 10 ≤ n = simp unary_clauses at (f.2 (omega arith)) in
    let high : n < 10 ^ suc (suc j) = f.1 in
    let tenth : 10 ^ j ≤ n / 10 = omega arith in
    let rest : IsDigitCount 10 1 (n / 10) (suc j) = (omega arith, omega arith, λ g. simp unary_clauses tenth) in
    let e : leb n 9 ≡ false = lt-leb n 9 (omega arith) in
    unless _ _ _ e ∙ ap suc (places_fewest most (n / 10) (suc j) (omega arith) rest)

-- a number of 64 bits has at most twenty digits
pub twenty : (n k : ℕ) → n < 2 ^ 64 → IsDigitCount 10 1 n k → k ≤ 20
twenty n k h f = elim (dec_le k 20) [
  | yes p ↦ p
  | no p ↦ (let q : 20 < k = lt_of_not-le p in
      let low : 10 ^ (k - 1) ≤ n = f.2 (omega arith) in
      let e : 20 ≤ k - 1 = omega arith in
      let m : 10 ^ 20 ≤ 10 ^ (k - 1) = pow-le-pow_right (zero-lt-suc 9) e in
      absurd (omega arith))
]

-- the digits of the fewest places are the number's
pub decimal_is : (n k : ℕ) → n < 2 ^ 64 → IsDigitCount 10 1 n k → last_digits 10 k n ≡ decimal n
unfolding decimal
decimal_is n k h f = rw (places_fewest 20 n k (twenty n k h f) f) refl

-- ---- lengths

digits-length : (k n : ℕ) → length (last_digits 10 k n) ≡ k
digits-length zero n = refl
digits-length (suc k) n = rw length-append (let h = digits-length k (n / 10) in omega arith)

places-most : (most n : ℕ) → places most n ≤ most
unfolding places
places-most zero n = omega arith
places-most (suc most) n = either (λ (x : ℕ). x ≤ suc most) (leb n 9) (λ h. omega arith) (λ h. let k = places-most most (n / 10) in omega arith)

pub decimal-length : (n : ℕ) → length (decimal n) ≤ 20
unfolding decimal
decimal-length n = rw digits-length (places-most 20 n)
