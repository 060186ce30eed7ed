-- What the digits' proofs want of powers of ten, and of lists that end in what is written already.
use Rattle.std.proofs.Common.{◌≡◌, ℕ, zero, suc, ◌+◌, ◌-◌, ◌*◌, ◌/◌, ◌%◌, ◌^◌, ◌≤◌, ◌<◌, List, [], ◌∷◌, ◌++◌, length, take, drop, set, refl, sym, ap, subst, ◌∙◌, arith, add-one, sub-one, pow-suc, le-div_iff_mul-le, div-lt_iff_lt-mul, le_of_suc-le-suc, not-suc-le-zero, length-take-le}
use Rattle.std.proofs.Math.Nat.{one-le-pow, div-div-eq-div-mul}
use Rattle.std.proofs.Math.Seq.{slice, take-set-lt, append_snoc}
use Rattle.std.proofs.lemmas.Bool.Decides.{nat_tests}
use Rattle.print.specs.Digits.{hex_digit_ascii, last_digits, IsPrefixLen}

pub prefix_len_of_le : (n : ℕ) (xs : List ℕ) → n ≤ length xs → IsPrefixLen n xs
prefix_len_of_le n xs h = (h, sym (length-take-le n xs h))

pub tenth-pow_one : (n : ℕ) → n / 10 ≡ n / 10 ^ 1
tenth-pow_one n = refl

pub tenth-pow : (n k : ℕ) → n / 10 ^ k / 10 ≡ n / 10 ^ (k + 1)
tenth-pow n k = div-div-eq-div-mul n (10 ^ k) 10 ∙ ap (λ (d : ℕ). n / d) (sym (pow-suc 10 k) ∙ ap (λ (j : ℕ). 10 ^ j) (sym (add-one k)))

-- something is left of n after k digits, so one more is wanted
pub pow-le_of_tenth : (n k : ℕ) → 0 < n / 10 ^ k → 10 ^ (k + 1 - 1) ≤ n
pow-le_of_tenth n k some =
    let e : k ≡ k + 1 - 1 = omega arith in
    let p : 1 * 10 ^ k ≤ n = (le-div_iff_mul-le (one-le-pow k 10 (omega arith))).0 some in
    subst (λ (j : ℕ). 10 ^ j ≤ n) e (omega arith)

-- nothing is left of n after k digits, so k digits hold it
pub lt-pow_of_tenth : (n k : ℕ) → n / 10 ^ k < 1 → n < 10 ^ k
lt-pow_of_tenth n k none =
    let p : n < 1 * 10 ^ k = (div-lt_iff_lt-mul (one-le-pow k 10 (omega arith))).0 none in
    omega arith

-- a decimal digit's code
pub digit_code : (d : ℕ) → d < 10 → 48 + d ≡ hex_digit_ascii d
digit_code d h = grind (arith, nat_tests)

-- after a store at j, the list from j on begins with what was stored
drop-set : (t : List ℕ) (j g : ℕ) → j < length t → drop j (set t j g) ≡ g ∷ drop (suc j) t
drop-set [] j g h = absurd (not-suc-le-zero h)
drop-set (x ∷ xs) zero g h = refl
drop-set (x ∷ xs) (suc j) g h = drop-set xs j g (le_of_suc-le-suc h)

-- a turn moves the last of the digits that are still to write to the front of those that are written
pub digits_step : (i k rest g : ℕ) (out : List ℕ) → 0 < i → i ≤ k → k ≤ length out → g ≡ hex_digit_ascii (rest % 10)
    → last_digits 10 (i - 1) (rest / 10) ++ slice (i - 1) k (set out (i - 1) g) ≡ last_digits 10 i rest ++ slice i k out
digits_step zero k rest g out some h room e = absurd (not-suc-le-zero some)
digits_step (suc j) k rest g out some h room e =
    let todo = last_digits 10 j (rest / 10) in
    let done = slice (suc j) k out in
    let within : j < length (take k out) = subst (λ (n : ℕ). j < n) (sym (length-take-le k out room)) h in
    ap (λ (m : ℕ). last_digits 10 m (rest / 10) ++ slice m k (set out m g)) (sub-one (suc j))
    ∙ ap (λ (l : List ℕ). todo ++ drop j l) (take-set-lt k out j g h)
    ∙ ap (λ (l : List ℕ). todo ++ l) (drop-set (take k out) j g within)
    ∙ ap (λ (x : ℕ). todo ++ x ∷ done) e
    ∙ sym (append_snoc todo (hex_digit_ascii (rest % 10)) done)
