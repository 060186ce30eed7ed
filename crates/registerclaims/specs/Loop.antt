-- A loop that takes the smaller of what remains and m at each place goes through the pieces of the cut; true by the law of a cut's first piece.
use Rattle.std.specs.Prelude.{ℕ, zero, suc, ◌+◌, ◌-◌, ◌*◌, ◌%◌, ◌≤◌, ◌<◌, min, ◌≡◌, List, [], ◌∷◌, map, length, take, drop}
use Rattle.std.proofs.Common.{sym, ap, ◌∙◌, arith, lt_of_not-le, zero-add, zero-mul, suc-mul, length-drop, drop_of_length-le, drop-drop}
use Rattle.std.proofs.Math.Nat.{zero-mod, add-mod_right}
use Rattle.std.proofs.Math.Decide.{dec_le}
use Rattle.registerclaims.specs.Cut.{cut, rounded_up, cut-none, cut-next, cut_number, cut_reaches}

-- the next piece of l behind j elements: the smaller of what remains and m
abbrev pub size_at : ℕ → List ℕ → ℕ → ℕ
size_at m l j = min m (length l - j)

-- `got k j` is what k rounds get from place j on, each `g` of a piece of l; `ends k j` is where they end, `at j` the place j
pub record Loops {B X : Type 0} (m : ℕ) (l : List ℕ) (g : List ℕ → B) (at : ℕ → X) (got : ℕ → ℕ → List B) (ends : ℕ → ℕ → X) : Type 0 where
  pub none : (j : ℕ) → (got 0 j ≡ []) × (ends 0 j ≡ at j)
  pub more : (k j : ℕ) → j < length l → j % m ≡ 0
      → (got (suc k) j ≡ g (take (size_at m l j) (drop j l)) ∷ got k (j + size_at m l j)) × (ends (suc k) j ≡ ends k (j + size_at m l j))
  pub over : (k : ℕ) → (got (suc k) (length l) ≡ []) × (ends (suc k) (length l) ≡ at (length l))

module _ {B X : Type 0} {m : ℕ} {l : List ℕ} {g : List ℕ → B} {at : ℕ → X} {got : ℕ → ℕ → List B} {ends : ℕ → ℕ → X}
    (w : Loops m l g at got ends) (p : 0 < m) where
  -- from where a piece begins, or from the end
  loops-from : (k j : ℕ) → j ≤ length l → (j < length l → j % m ≡ 0)
      → (got k j ≡ map g (take k (cut m (drop j l)))) × (ends k j ≡ at (min (j + k * m) (length l)))
  loops-from zero j h z =
      let e = zero-mul m in
      let i : j ≡ min (j + 0 * m) (length l) = omega arith in
      ((w.none j).0, (w.none j).1 ∙ ap at i)
  loops-from (suc k) j h z = elim (dec_le (length l) j) [
    | yes x ↦ (let e : j ≡ length l = omega arith in
        let i : length l ≡ min (j + suc k * m) (length l) = omega arith in
        let n : drop j l ≡ [] = drop_of_length-le l {i = j} (omega arith) in (
          ap (got (suc k)) e ∙ (w.over k).0 ∙ sym (ap (λ (q : List (List ℕ)). map g (take (suc k) q)) (ap (cut m) n ∙ cut-none m)),
          ap (ends (suc k)) e ∙ (w.over k).1 ∙ ap at i,
        ))
    | no x ↦ (let y = lt_of_not-le x in
        let c = size_at m l j in
        let n = length-drop j l in
        let q : cut m (drop j l) ≡ take c (drop j l) ∷ cut m (drop (j + c) l) =
        cut-next m (drop j l) p (omega arith)
        ∙ ap (λ (i : ℕ). take (min m i) (drop j l) ∷ cut m (drop (min m i) (drop j l))) n
        ∙ ap (λ (r : List ℕ). take c (drop j l) ∷ cut m r) (drop-drop c j l) in
        let s = w.more k j y (z y) in
        let ih = loops-from k (j + c) (omega arith)
        (λ v. let e : j + c ≡ j + m = omega arith in ap (λ (i : ℕ). i % m) e ∙ add-mod_right j m ∙ z y) in
        let u = suc-mul k m in
        let i : min (j + c + k * m) (length l) ≡ min (j + suc k * m) (length l) = omega arith in (
          s.0 ∙ ap (λ (r : List B). g (take c (drop j l)) ∷ r) ih.0 ∙ sym (ap (λ (r : List (List ℕ)). map g (take (suc k) r)) q),
          s.1 ∙ ih.1 ∙ ap at i,
        ))
  ]

  -- from the start k rounds get the first k pieces
  pub loops-got : (k : ℕ) → got k 0 ≡ map g (take k (cut m l))
  loops-got k = (loops-from k 0 (omega arith) (λ h. zero-mod m)).0

  loops-ends : (k : ℕ) → ends k 0 ≡ at (min (k * m) (length l))
  loops-ends k = (loops-from k 0 (omega arith) (λ h. zero-mod m)).1 ∙ ap (λ (i : ℕ). at (min i (length l))) (zero-add (k * m))

  -- fewer rounds than the quotient, rounded up, end before the end
  pub loops-going : (k : ℕ) → k < rounded_up (length l) m → (ends k 0 ≡ at (k * m)) × (k * m < length l)
  loops-going k h =
      let n = cut_number m l p in
      let r = (cut_reaches m l k p).0 (omega arith) in
      let e : min (k * m) (length l) ≡ k * m = omega arith in
      (loops-ends k ∙ ap at e, r)

  -- and as many at it
  pub loops-done : (k : ℕ) → rounded_up (length l) m ≤ k → ends k 0 ≡ at (length l)
  loops-done k h =
      let n = cut_number m l p in
      let e : min (k * m) (length l) ≡ length l = elim (dec_le (length l) (k * m)) [
        | yes x ↦ omega arith
        | no x ↦ absurd (let r = (cut_reaches m l k p).1 (lt_of_not-le x) in omega arith)
      ] in
      loops-ends k ∙ ap at e
