-- A list cut in pieces of m: true by the two laws of a cut, `cut-none` and `cut_more`, over what remains.
use Rattle.std.specs.Prelude.{ℕ, zero, suc, ◌+◌, ◌-◌, ◌*◌, ◌/◌, ◌%◌, ◌≤◌, ◌<◌, min, ◌≡◌, refl, List, [], ◌∷◌, ◌++◌, ◌↔◌, length, get_or, take, drop}
use Rattle.std.proofs.Common.{sym, ap, ◌∙◌, arith, lt_of_not-le, zero-mul, suc-mul, div-add-mod', le-div_iff_mul-le, add-one, length-take, length-drop, take-append-drop, drop_of_length-le, take_all, drop-drop}
use Rattle.std.proofs.Math.Nat.{div-eq_of_lt, add-div_right}
use Rattle.std.proofs.Math.Decide.{dec_le}
use Rattle.std.proofs.Math.Seq.{take-length, drop-length}

-- at most k pieces of l, each the smaller of what remains and m
unfoldable pub cut_by : ℕ → ℕ → List ℕ → List (List ℕ)
cut_by zero m l = []
cut_by (suc k) m [] = []
cut_by (suc k) m (a ∷ l) = take m (a ∷ l) ∷ cut_by k m (drop m (a ∷ l))

-- as many as it takes
unfoldable pub cut : ℕ → List ℕ → List (List ℕ)
cut m l = cut_by (length l) m l

-- pieces joined
unfoldable pub joined : List (List ℕ) → List ℕ
joined [] = []
joined (p ∷ ps) = p ++ joined ps

-- n over m, rounded up
abbrev pub rounded_up : ℕ → ℕ → ℕ
rounded_up n m = (n + (m - 1)) / m

-- ---- the two laws

pub cut-none : (m : ℕ) → cut m [] ≡ []
unfolding cut cut_by
cut-none m = refl

-- more pieces allowed than there are bytes are not used
cut_by_enough : (i j m : ℕ) (l : List ℕ) → 0 < m → length l ≤ i → length l ≤ j → cut_by i m l ≡ cut_by j m l
unfolding cut_by
cut_by_enough zero zero m l h x y = refl
cut_by_enough zero (suc j) m [] h x y = refl
cut_by_enough zero (suc j) m (a ∷ l) h x y = absurd (omega arith)
cut_by_enough (suc i) zero m [] h x y = refl
cut_by_enough (suc i) zero m (a ∷ l) h x y = absurd (omega arith)
cut_by_enough (suc i) (suc j) m [] h x y = refl
cut_by_enough (suc i) (suc j) m (a ∷ l) h x y =
    let e = length-drop m (a ∷ l) in
    ap (λ (r : List (List ℕ)). take m (a ∷ l) ∷ r) (cut_by_enough i j m (drop m (a ∷ l)) h (omega arith) (omega arith))

pub cut_more : (m : ℕ) (l : List ℕ) → 0 < m → 0 < length l → cut m l ≡ take m l ∷ cut m (drop m l)
unfolding cut cut_by
cut_more m [] h k = absurd (omega arith)
cut_more m (a ∷ l) h k =
    let e = length-drop m (a ∷ l) in
    ap (λ (r : List (List ℕ)). take m (a ∷ l) ∷ r)
    (cut_by_enough (length l) (length (drop m (a ∷ l))) m (drop m (a ∷ l)) h (omega arith) (omega arith))

-- as much of the list as there is
all_of_it : (m : ℕ) (l : List ℕ) → (take (min m (length l)) l ≡ take m l) × (drop (min m (length l)) l ≡ drop m l)
all_of_it m l = elim (dec_le m (length l)) [
  | yes x ↦ (let e : min m (length l) ≡ m = omega arith in (ap (λ (i : ℕ). take i l) e, ap (λ (i : ℕ). drop i l) e))
  | no x ↦ (let y = lt_of_not-le x in let e : min m (length l) ≡ length l = omega arith in (
    ap (λ (i : ℕ). take i l) e ∙ take-length l ∙ sym (take_all m l (omega arith)),
    ap (λ (i : ℕ). drop i l) e ∙ drop-length l ∙ sym (drop_of_length-le l {i = m} (omega arith)),
  ))
]

-- the first piece by its size, the smaller of what remains and m
pub cut-next : (m : ℕ) (l : List ℕ) → 0 < m → 0 < length l
    → cut m l ≡ take (min m (length l)) l ∷ cut m (drop (min m (length l)) l)
cut-next m l h k = let e = all_of_it m l in rw (e.0, e.1) (cut_more m l h k)

-- what holds of no bytes, and of bytes if it holds of those behind their first piece, holds of every cut
pub cut_each : (m : ℕ) (P : List ℕ → List (List ℕ) → Type 0) → 0 < m → P [] []
    → ((l : List ℕ) → 0 < length l → P (drop m l) (cut m (drop m l)) → P l (take m l ∷ cut m (drop m l))) → (l : List ℕ) → P l (cut m l)
cut_each m P h none more l = go (length l) l (omega arith)
  where
    go : (i : ℕ) (l : List ℕ) → length l ≤ i → P l (cut m l)
    go zero [] k = rw (cut-none m) none
    go zero (a ∷ l) k = absurd (omega arith)
    go (suc i) [] k = rw (cut-none m) none
    go (suc i) (a ∷ l) k =
        let e = length-drop m (a ∷ l) in
        rw (cut_more m (a ∷ l) h (omega arith)) (more (a ∷ l) (omega arith) (go i (drop m (a ∷ l)) (omega arith)))

-- ---- the pieces

-- joined they are the list
pub cut-joined : (m : ℕ) (l : List ℕ) → 0 < m → joined (cut m l) ≡ l
unfolding joined
cut-joined m l h =
    cut_each m (λ l ps. joined ps ≡ l) h refl (λ l k e. ap (λ (r : List ℕ). take m l ++ r) e ∙ take-append-drop m l) l

-- their number is the quotient, rounded up
pub cut_number : (m : ℕ) (l : List ℕ) → 0 < m → length (cut m l) ≡ rounded_up (length l) m
cut_number m l h = cut_each m (λ l ps. length ps ≡ rounded_up (length l) m) h (sym (none 0 (omega arith))) more l
  where
    none : (n : ℕ) → n + (m - 1) < m → rounded_up n m ≡ 0
    none n k = div-eq_of_lt k

    one_more : (n : ℕ) → 0 < n → suc (rounded_up (n - m) m) ≡ rounded_up n m
    one_more n k = elim (dec_le m n) [
      | yes x ↦ (let e : n + (m - 1) ≡ (n - m + (m - 1)) + m = omega arith in
          sym (ap (λ (i : ℕ). i / m) e ∙ add-div_right (n - m + (m - 1)) h ∙ add-one _))
      | no x ↦ (let y = lt_of_not-le x in
          let e : n + (m - 1) ≡ (n - 1) + m = omega arith in
          let z : (n - 1) / m ≡ 0 = div-eq_of_lt (omega arith) in
          ap suc (none (n - m) (omega arith)) ∙ sym (ap (λ (i : ℕ). i / m) e ∙ add-div_right (n - 1) h ∙ add-one _ ∙ ap suc z))
    ]

    more : (l : List ℕ) → 0 < length l → length (cut m (drop m l)) ≡ rounded_up (length (drop m l)) m
        → suc (length (cut m (drop m l))) ≡ rounded_up (length l) m
    more l k e = ap suc (e ∙ ap (λ (n : ℕ). rounded_up n m) (length-drop m l)) ∙ one_more (length l) k

-- there is a piece i exactly where i pieces before it leave something
pub cut_reaches : (m : ℕ) (l : List ℕ) (i : ℕ) → 0 < m → (i < length (cut m l)) ↔ (i * m < length l)
cut_reaches m l i h =
    let e = cut_number m l h in let s = suc-mul i m in
    let d = le-div_iff_mul-le {k = m} {x = suc i} {y = length l + (m - 1)} h in
    ((λ k. let w = d.0 (rw e at k) in omega arith), (λ k. rw e (d.1 (omega arith))))

-- the piece i
pub cut_piece : (m : ℕ) (l : List ℕ) (i : ℕ) → 0 < m → i < length (cut m l) → get_or (cut m l) i [] ≡ take m (drop (i * m) l)
cut_piece m l i h k = cut_each m Pieces h (λ i k. absurd (omega arith)) more l i k
  where
    Pieces : List ℕ → List (List ℕ) → Type 0
    Pieces l ps = (i : ℕ) → i < length ps → get_or ps i [] ≡ take m (drop (i * m) l)

    more : (l : List ℕ) → 0 < length l → Pieces (drop m l) (cut m (drop m l)) → Pieces l (take m l ∷ cut m (drop m l))
    more l n e zero k = rw (zero-mul m)
    more l n e (suc i) k =
        let s : m + i * m ≡ suc i * m = let z = suc-mul i m in omega arith in
        e i (omega arith) ∙ ap (take m) (drop-drop (i * m) m l ∙ ap (λ (n : ℕ). drop n l) s)

-- its size is the smaller of what remains and m
pub cut-size : (m : ℕ) (l : List ℕ) (i : ℕ) → 0 < m → i < length (cut m l) → length (get_or (cut m l) i []) ≡ min m (length l - i * m)
cut-size m l i h k = ap length (cut_piece m l i h k) ∙ length-take m (drop (i * m) l) ∙ ap (min m) (length-drop (i * m) l)

-- the piece that the element j is in
pub cut_at : (m : ℕ) (l : List ℕ) (j : ℕ) → 0 < m → j < length l → length (get_or (cut m l) (j / m) []) ≡ min m (length l - (j - j % m))
cut_at m l j h k =
    let e = div-add-mod' j m in
    let w = cut-size m l (j / m) h ((cut_reaches m l (j / m) h).1 (omega arith)) in
    omega arith

-- before the last it is m
pub cut-whole : (m : ℕ) (l : List ℕ) (i : ℕ) → 0 < m → i + 1 < length (cut m l) → length (get_or (cut m l) i []) ≡ m
cut-whole m l i h k =
    let e = cut-size m l i h (omega arith) in
    let w = (cut_reaches m l (suc i) h).0 (omega arith) in
    let s = suc-mul i m in
    omega arith
