-- Laws of a stream: its whole tables one after the other, what comes behind, and that it makes no difference in which pieces it was read.
use Rattle.std.specs.Prelude.{◌≡◌, refl, true, false, ◌⊎◌, List, [], ◌∷◌, ◌++◌, ℕ, zero, suc, ◌+◌, ◌-◌, ◌≤◌, ◌<◌, min, take, get_or, leb, Result, Ok, Err, Option, Some, None}
use Rattle.std.proofs.Math.Path.{sym, ap}
use Rattle.std.proofs.Common.{◌∙◌, ⊎_elim, append_assoc, append-nil, zero-add, lt_of_not-le, length-append, length-take, take-append-drop, drop-drop, length-take-le, get_or-append-add, get_or-drop, get_or-take, take_all, le-leb}
use native.Mathlib.Omega.{arith}
use Rattle.std.proofs.Math.Decide.{dec_le}
use Rattle.std.proofs.Math.ListN.{length, drop, length-drop}
use Rattle.std.proofs.lemmas.List.{take-append-le, drop-append-le}
use Rattle.std.proofs.Math.Seq.{take-append_seam}
use Rattle.std.proofs.lemmas.Bool.{lt-leb}
use Rattle.std.specs.List.{copy_within}
use Rattle.ground.specs.Tests.{choose◌then◌else◌, when, unless, either}
use Rattle.ground.specs.Memory.{Laid, fill, fill_fits}
use Rattle.shelf.specs.Totals.{nothing, sum, of_table, totals_of, within, too_large, bounded}
use Rattle.shelf.specs.TotalsLaws.{sum_assoc, sum_comm, sum-nothing, nothing-sum, totals-none, totals-next, totals-one, totals-append, nothing-within, within-over, within_chose, bounded_is, bounded-over, bounded-told, bounded-told-over}
use Rattle.shelf.specs.Stream.{table_length, wholes_in, rest_in, wholes, rest, cut_off, tables, shelf, counted, passed_to, passed, left_by, taken_by, kept_by, left_in, Took}
use Rattle.shelf.specs.declared.totals.Totals.{Totals}
use Rattle.shelf.specs.declared.totals.TooLarge.{TooLarge}
use Rattle.shelf.specs.declared.stream.Passed.{Passed}
use Rattle.shelf.specs.declared.stream.Taken.{Taken}

-- how long the table is that s begins with, where it is whole
unfoldable pub length_of_whole : List ℕ → Option ℕ
length_of_whole s = choose leb (table_length s) (length s) then Some (table_length s) else None

pub whole_length-whole : (s : List ℕ) → table_length s ≤ length s → length_of_whole s ≡ Some (table_length s)
unfolding length_of_whole
whole_length-whole s h = when _ _ _ (le-leb _ _ h)

pub whole_length-cut : (s : List ℕ) → length s < table_length s → length_of_whole s ≡ None
unfolding length_of_whole
whole_length-cut s h = unless _ _ _ (lt-leb _ _ h)

-- what is told of it
pub whole_length_some : (s : List ℕ) {n : ℕ} → Some n ≡ length_of_whole s → (table_length s ≤ length s) × (n ≡ table_length s)
whole_length_some s e = elim (dec_le (table_length s) (length s)) [
  | yes g ↦ (let w = whole_length-whole s g in (g, cc))
  | no g ↦ (let w = whole_length-cut s (lt_of_not-le g) in cc)
]

pub whole_length-none : (s : List ℕ) → None ≡ length_of_whole s → length s < table_length s
whole_length-none s e = elim (dec_le (table_length s) (length s)) [
  | yes g ↦ (let w = whole_length-whole s g in cc)
  | no g ↦ lt_of_not-le g
]

-- ---- enough turns: more make no difference

wholes_in_enough : (n m : ℕ) (s : List ℕ) → length s ≤ n → length s ≤ m → wholes_in n s ≡ wholes_in m s
unfolding wholes_in
wholes_in_enough zero zero s h k = refl
wholes_in_enough zero (suc m) s h k = let l : length s < table_length s = omega arith in sym (unless _ _ _ (lt-leb _ _ l))
wholes_in_enough (suc n) zero s h k = let l : length s < table_length s = omega arith in unless _ _ _ (lt-leb _ _ l)
wholes_in_enough (suc n) (suc m) s h k = elim (dec_le (table_length s) (length s)) [
  | yes g ↦ (let l = length-drop (table_length s) s in
      let r = wholes_in_enough n m (drop (table_length s) s) (omega arith) (omega arith) in
      ap (λ (x : List (List ℕ)). choose leb (table_length s) (length s) then take (table_length s) s ∷ x else []) r)
  | no g ↦ (let l = lt-leb _ _ (lt_of_not-le g) in unless _ _ _ l ∙ sym (unless _ _ _ l))
]

rest_in_enough : (n m : ℕ) (s : List ℕ) → length s ≤ n → length s ≤ m → rest_in n s ≡ rest_in m s
unfolding rest_in
rest_in_enough zero zero s h k = refl
rest_in_enough zero (suc m) s h k = let l : length s < table_length s = omega arith in sym (unless _ _ _ (lt-leb _ _ l))
rest_in_enough (suc n) zero s h k = let l : length s < table_length s = omega arith in unless _ _ _ (lt-leb _ _ l)
rest_in_enough (suc n) (suc m) s h k = elim (dec_le (table_length s) (length s)) [
  | yes g ↦ (let l = length-drop (table_length s) s in
      let r = rest_in_enough n m (drop (table_length s) s) (omega arith) (omega arith) in
      ap (λ (x : List ℕ). choose leb (table_length s) (length s) then x else s) r)
  | no g ↦ (let l = lt-leb _ _ (lt_of_not-le g) in unless _ _ _ l ∙ sym (unless _ _ _ l))
]

-- ---- one table after the other

wholes_in_front : (n : ℕ) (s : List ℕ) → table_length s ≤ length s → wholes_in (suc n) s ≡ take (table_length s) s ∷ wholes_in n (drop (table_length s) s)
unfolding wholes_in
wholes_in_front n s h = when _ _ _ (le-leb _ _ h)

rest_in_front : (n : ℕ) (s : List ℕ) → table_length s ≤ length s → rest_in (suc n) s ≡ rest_in n (drop (table_length s) s)
unfolding rest_in
rest_in_front n s h = when _ _ _ (le-leb _ _ h)

wholes_in-none : (n : ℕ) (s : List ℕ) → length s < table_length s → wholes_in n s ≡ []
unfolding wholes_in
wholes_in-none zero s h = refl
wholes_in-none (suc n) s h = unless _ _ _ (lt-leb _ _ h)

rest_in-none : (n : ℕ) (s : List ℕ) → length s < table_length s → rest_in n s ≡ s
unfolding rest_in
rest_in-none zero s h = refl
rest_in-none (suc n) s h = unless _ _ _ (lt-leb _ _ h)

-- a whole table stands in front
pub wholes-next : (s : List ℕ) → table_length s ≤ length s → wholes s ≡ take (table_length s) s ∷ wholes (drop (table_length s) s)
unfolding wholes
wholes-next s h =
    let l = length-drop (table_length s) s in
    let n : length s ≡ suc (length s - 1) = omega arith in
    ap (λ (x : ℕ). wholes_in x s) n ∙ wholes_in_front (length s - 1) s h
    ∙ ap (λ (x : List (List ℕ)). take (table_length s) s ∷ x)
    (wholes_in_enough (length s - 1) (length (drop (table_length s) s)) (drop (table_length s) s) (omega arith) (omega arith))

pub rest-next : (s : List ℕ) → table_length s ≤ length s → rest s ≡ rest (drop (table_length s) s)
unfolding rest
rest-next s h =
    let l = length-drop (table_length s) s in
    let n : length s ≡ suc (length s - 1) = omega arith in
    ap (λ (x : ℕ). rest_in x s) n ∙ rest_in_front (length s - 1) s h
    ∙ rest_in_enough (length s - 1) (length (drop (table_length s) s)) (drop (table_length s) s) (omega arith) (omega arith)

-- none does
pub wholes_end : (s : List ℕ) → length s < table_length s → wholes s ≡ []
unfolding wholes
wholes_end s h = wholes_in-none (length s) s h

pub rest_end : (s : List ℕ) → length s < table_length s → rest s ≡ s
unfolding rest
rest_end s h = rest_in-none (length s) s h

-- ---- a stream, and more behind it

-- the length of a table that is told is not changed by what comes behind
length_more : (s r : List ℕ) → 2 ≤ length s → table_length (s ++ r) ≡ table_length s
length_more [] r h = absurd (omega arith)
length_more (a ∷ []) r h = absurd (omega arith)
length_more (a ∷ b ∷ s) r h = refl

-- what is left is counted again with what comes behind
record More (s r : List ℕ) : Type 0 where
  wholes : wholes (s ++ r) ≡ wholes s ++ wholes (rest s ++ r)
  rest : rest (s ++ r) ≡ rest (rest s ++ r)

more_end : (s r : List ℕ) → length s < table_length s → More s r
more_end s r h = record {
  wholes =
      sym (ap (λ (x : List (List ℕ)). x ++ wholes (rest s ++ r)) (wholes_end s h) ∙ ap (λ (x : List ℕ). wholes (x ++ r)) (rest_end s h));
  rest = sym (ap (λ (x : List ℕ). rest (x ++ r)) (rest_end s h));
}

more-next : (s r : List ℕ) → table_length s ≤ length s → More (drop (table_length s) s) r → More s r
more-next s r h m =
    let e = length_more s r (omega arith) in
    let l = length-append s r in
    let g : table_length (s ++ r) ≤ length (s ++ r) = omega arith in
    let d : drop (table_length (s ++ r)) (s ++ r) ≡ drop (table_length s) s ++ r =
    ap (λ (x : ℕ). drop x (s ++ r)) e ∙ drop-append-le (table_length s) s r h in
    let t : take (table_length (s ++ r)) (s ++ r) ≡ take (table_length s) s =
    ap (λ (x : ℕ). take x (s ++ r)) e ∙ take-append-le (table_length s) s r h in
    record {
      wholes = wholes-next (s ++ r) g ∙ ap (λ (x : List (List ℕ)). take (table_length (s ++ r)) (s ++ r) ∷ x) (ap wholes d ∙ m.wholes)
          ∙ ap (λ (x : List ℕ). x ∷ (wholes (drop (table_length s) s) ++ wholes (rest (drop (table_length s) s) ++ r))) t
          ∙ ap (λ (x : List ℕ). take (table_length s) s ∷ (wholes (drop (table_length s) s) ++ wholes (x ++ r))) (sym (rest-next s h))
          ∙ ap (λ (x : List (List ℕ)). x ++ wholes (rest s ++ r)) (sym (wholes-next s h));
      rest = rest-next (s ++ r) g ∙ ap rest d ∙ m.rest ∙ ap (λ (x : List ℕ). rest (x ++ r)) (sym (rest-next s h));
    }

more : (n : ℕ) (s r : List ℕ) → length s ≤ n → More s r
more zero s r h = more_end s r (omega arith)
more (suc n) s r h = elim (dec_le (table_length s) (length s)) [
  | yes g ↦ more-next s r g (more n (drop (table_length s) s) r (let l = length-drop (table_length s) s in omega arith))
  | no g ↦ more_end s r (lt_of_not-le g)
]

pub wholes_more : (s r : List ℕ) → wholes (s ++ r) ≡ wholes s ++ wholes (rest s ++ r)
wholes_more s r = (more (length s) s r (omega arith)).wholes

pub rest_more : (s r : List ℕ) → rest (s ++ r) ≡ rest (rest s ++ r)
rest_more s r = (more (length s) s r (omega arith)).rest

pub tables_more : (s r : List ℕ) → tables (s ++ r) ≡ wholes s ++ tables (rest s ++ r)
unfolding tables
tables_more s r =
    ap (λ (x : List ℕ). wholes (s ++ r) ++ cut_off x) (rest_more s r)
    ∙ ap (λ (x : List (List ℕ)). x ++ cut_off (rest (rest s ++ r))) (wholes_more s r)
    ∙ append_assoc (wholes s) (wholes (rest s ++ r)) (cut_off (rest (rest s ++ r)))

-- ---- what is left

-- no whole table
rest_short_in : (n : ℕ) (s : List ℕ) → length s ≤ n → length (rest s) < table_length (rest s)
rest_short_in zero s h = rw (rest_end s (omega arith)) (omega arith)
rest_short_in (suc n) s h = elim (dec_le (table_length s) (length s)) [
  | yes g ↦ (let l = length-drop (table_length s) s in
      rw (rest-next s g) (rest_short_in n (drop (table_length s) s) (omega arith)))
  | no g ↦ (let l = lt_of_not-le g in rw (rest_end s l) l)
]

pub rest_short : (s : List ℕ) → length (rest s) < table_length (rest s)
rest_short s = rest_short_in (length s) s (omega arith)

rest-here : (s : List ℕ) → length s < table_length s → (length (rest s) ≤ length s) × (drop (length s - length (rest s)) s ≡ rest s)
rest-here s h = let z : length s - length s ≡ 0 = omega arith in rw (rest_end s h, z) (omega arith, refl)

-- the end of the stream: as many bytes as it is long
rest_end_in : (n : ℕ) (s : List ℕ) → length s ≤ n → (length (rest s) ≤ length s) × (drop (length s - length (rest s)) s ≡ rest s)
rest_end_in zero s h = rest-here s (omega arith)
rest_end_in (suc n) s h = elim (dec_le (table_length s) (length s)) [
  | yes g ↦ (let l = length-drop (table_length s) s in
      let r = rest_end_in n (drop (table_length s) s) (omega arith) in
      let a = r.0 in
      let e : table_length s + (length (drop (table_length s) s) - length (rest (drop (table_length s) s)))
      ≡ length s - length (rest (drop (table_length s) s)) = omega arith in
      rw (rest-next s g) (
        omega arith,
        ap (λ (x : ℕ). drop x s) (sym e)
            ∙ sym (drop-drop (length (drop (table_length s) s) - length (rest (drop (table_length s) s))) (table_length s) s) ∙ r.1,
      ))
  | no g ↦ rest-here s (lt_of_not-le g)
]

pub rest-length : (s : List ℕ) → length (rest s) ≤ length s
rest-length s = (rest_end_in (length s) s (omega arith)).0

pub rest-drop : (s : List ℕ) → drop (length s - length (rest s)) s ≡ rest s
rest-drop s = (rest_end_in (length s) s (omega arith)).1

-- ---- the tables of a stream

pub cut_off_some : (s : List ℕ) → 0 < length s → cut_off s ≡ s ∷ []
unfolding cut_off
cut_off_some [] h = absurd (omega arith)
cut_off_some (b ∷ s) h = refl

pub cut_off-none : cut_off [] ≡ []
unfolding cut_off
cut_off-none = refl

-- an empty stream has none
pub tables-none : tables [] ≡ []
unfolding tables
tables-none = rw (wholes_end [] (omega arith), rest_end [] (omega arith)) cut_off-none

-- a whole table, and then those of what is behind it
pub tables-next : (s : List ℕ) → table_length s ≤ length s → tables s ≡ take (table_length s) s ∷ tables (drop (table_length s) s)
unfolding tables
tables-next s h =
    ap (λ (x : List (List ℕ)). x ++ cut_off (rest s)) (wholes-next s h)
    ∙ ap (λ (x : List ℕ). take (table_length s) s ∷ (wholes (drop (table_length s) s) ++ cut_off x)) (rest-next s h)

-- one that is cut off is the last
pub tables-cut : (s : List ℕ) → 0 < length s → length s < table_length s → tables s ≡ s ∷ []
unfolding tables
tables-cut s l h = rw (wholes_end s h, rest_end s h) (cut_off_some s l)

-- ---- bytes of a room moved to its front

-- once the first i of them are there, the next one stands where it stood
pub moved-next :
    (m : List ℕ) (from n i : ℕ) {m₁ : List ℕ} → Laid m (take i (take n (drop from m))) i m₁ → i < n → from + i < length m
    → get_or m₁ (from + i) 0 ≡ get_or (take n (drop from m)) i 0
moved-next m from n i {m₁} l h k =
    let d = length-drop from m in
    let t = length-take n (drop from m) in
    let e : length (take i (take n (drop from m))) ≡ i = length-take-le i (take n (drop from m)) (omega arith) in
    let f : m₁ ≡ take i (take n (drop from m)) ++ drop i m =
    l.bytes ∙ fill_fits m (take i (take n (drop from m))) (omega arith)
    ∙ ap (λ (x : ℕ). take i (take n (drop from m)) ++ drop x m) e in
    let p : from + i ≡ length (take i (take n (drop from m))) + from = omega arith in
    ap (λ (x : List ℕ). get_or x (from + i) 0) f
    ∙ ap (λ (x : ℕ). get_or (take i (take n (drop from m)) ++ drop i m) x 0) p
    ∙ get_or-append-add (take i (take n (drop from m))) (drop i m) from 0
    ∙ get_or-drop i m from 0
    ∙ ap (λ (x : ℕ). get_or m x 0) (omega arith)
    ∙ sym (get_or-drop from m i 0)
    ∙ sym (get_or-take n (drop from m) i 0 h)

-- how many they are
pub moved_length : (m : List ℕ) (from n i : ℕ) → (n ≤ i) ⊎ (length m ≤ from + i) → length (take n (drop from m)) ≤ i
moved_length m from n i c = let d = length-drop from m in let t = length-take n (drop from m) in ⊎_elim (λ h. omega arith) (λ h. omega arith) c

-- ---- table by table, as the code goes

pub passed_to_on : (a : Totals) (used : ℕ) → within a ≡ true → passed_to a used ≡ Ok (record { totals = a; used = used })
unfolding passed_to
passed_to_on a used h = when _ _ _ h

pub passed_to-over : (a : Totals) (used : ℕ) → within a ≡ false → passed_to a used ≡ Err too_large
unfolding passed_to
passed_to-over a used h = unless _ _ _ h

pub passed_to-told :
    (a : Totals) (used : ℕ) {p : Passed} → Ok p ≡ passed_to a used → (within a ≡ true) × (p.totals ≡ a) × (p.used ≡ used)
unfolding passed_to
passed_to-told a used {p} h =
    ⊎_elim (λ w. let k = w.1 in
    let e : p ≡ record { totals = a; used = used } = cc in (w.0, ap (λ (x : Passed). x.totals) e, ap (λ (x : Passed). x.used) e)) (λ w. let k = w.1 in
    let z : ◌≡◌ {A = ℕ} 0 1 = cc in absurd (omega arith)) (within_chose a h)

pub passed_to-told-over : (a : Totals) (used : ℕ) {e : TooLarge} → Err e ≡ passed_to a used → within a ≡ false
unfolding passed_to
passed_to-told-over a used h =
    ⊎_elim (λ w. let k = w.1 in let z : ◌≡◌ {A = ℕ} 0 1 = cc in absurd (omega arith)) (λ w. w.0) (within_chose a h)

-- from the totals a on, the tables of s before `at` are counted, which comes to b
pub record Passing (a : Totals) (s : List ℕ) (b : Totals) (at : ℕ) : Type 0 where
  pub fits : at ≤ length s
  pub counts : sum b (totals_of (wholes (drop at s))) ≡ sum a (totals_of (wholes s))
  pub leaves : rest (drop at s) ≡ rest s
  pub bound : within b ≡ true

pub passing-none : (s : List ℕ) → Passing nothing s nothing 0
passing-none s = record { fits = omega arith; counts = refl; leaves = refl; bound = nothing-within }

module _ {a : Totals} {s : List ℕ} {b : Totals} {at : ℕ} (p : Passing a s b at) where
  -- a whole table stands here, and is counted
  module _ (h : table_length (drop at s) ≤ length (drop at s)) where
    -- what it and those behind it come to
    passing-more :
        sum (sum b (of_table (take (table_length (drop at s)) (drop at s)))) (totals_of (wholes (drop (at + table_length (drop at s)) s)))
        ≡ sum a (totals_of (wholes s))
    passing-more =
        let d = drop-drop (table_length (drop at s)) at s in
        ap (λ (x : List ℕ). sum (sum b (of_table (take (table_length (drop at s)) (drop at s)))) (totals_of (wholes x))) (sym d)
        ∙ sum_assoc b (of_table (take (table_length (drop at s)) (drop at s))) (totals_of (wholes (drop (table_length (drop at s)) (drop at s))))
        ∙ ap (sum b) (sym (ap totals_of (wholes-next (drop at s) h) ∙ totals-next _ _))
        ∙ p.counts

    pub passing-next :
        {b' : Totals} {n : ℕ} → n ≡ table_length (drop at s) → Ok b' ≡ bounded (sum b (of_table (take n (drop at s)))) → Passing a s b' (at + n)
    passing-next {b'} {n} e q =
        let t = bounded-told _ (rw e at q) in
        let l = length-drop at s in
        let f = p.fits in
        rw (e, t.1) (record {
          fits = omega arith;
          counts = passing-more;
          leaves = ap rest (sym (drop-drop (table_length (drop at s)) at s)) ∙ sym (rest-next (drop at s) h) ∙ p.leaves;
          bound = t.0;
        })

    -- or is too much
    pub passing-over :
        {n : ℕ} {o : TooLarge} → n ≡ table_length (drop at s) → Err o ≡ bounded (sum b (of_table (take n (drop at s)))) → Err o ≡ passed a s
    unfolding passed
    passing-over {n} e q =
        let w = bounded-told-over _ (rw e at q) in
        sym (passed_to-over _ _ (ap within (sym passing-more) ∙ within-over _ _ w))

  -- none does
  pub passing-end : length (drop at s) < table_length (drop at s) → Ok (record { totals = b; used = at }) ≡ passed a s
  unfolding passed
  passing-end h =
      let e : b ≡ sum a (totals_of (wholes s)) =
      sym (sum-nothing b) ∙ ap (sum b) (sym (ap totals_of (wholes_end (drop at s) h) ∙ totals-none)) ∙ p.counts in
      let r : drop at s ≡ rest s = sym (rest_end (drop at s) h) ∙ p.leaves in
      let l = length-drop at s in
      let f = p.fits in
      let n : at ≡ length s - length (rest s) = let m : length (drop at s) ≡ length (rest s) = ap length r in omega arith in
      sym (passed_to_on _ _ p.bound) ∙ ap (λ (x : Totals). passed_to x at) e ∙ ap (passed_to (sum a (totals_of (wholes s)))) n

-- ---- on top of totals

-- what the whole tables come to, added to any totals
pub passed_on :
    (a : Totals) (s : List ℕ) {p : Passed} → Ok p ≡ passed nothing s → passed_to (sum a p.totals) p.used ≡ passed a s
unfolding passed
passed_on a s h =
    let t = passed_to-told _ _ h in
    rw (t.1, t.2) (ap (λ (x : Totals). passed_to (sum a x) (length s - length (rest s))) (nothing-sum (totals_of (wholes s))))

pub passed_over : (a : Totals) (s : List ℕ) {e : TooLarge} → Err e ≡ passed nothing s → Err e ≡ passed a s
unfolding passed
passed_over a s h =
    let w = passed_to-told-over _ _ h in
    let v : within (totals_of (wholes s)) ≡ false = sym (ap within (nothing-sum (totals_of (wholes s)))) ∙ w in
    sym (passed_to-over _ _ (ap within (sum_comm a (totals_of (wholes s))) ∙ within-over _ a v))

-- ---- all tables, the last of which may be cut off

-- the whole tables counted, and then what is left of s, with what comes behind it
counted_more : (a : Totals) (s r : List ℕ) → sum a (shelf (s ++ r)) ≡ sum (sum a (totals_of (wholes s))) (shelf (rest s ++ r))
unfolding shelf
counted_more a s r =
    ap (λ (x : List (List ℕ)). sum a (totals_of x)) (tables_more s r)
    ∙ ap (sum a) (totals-append (wholes s) (tables (rest s ++ r)))
    ∙ sym (sum_assoc a (totals_of (wholes s)) (totals_of (tables (rest s ++ r))))

-- from what the whole tables of s left on; or they were too much, and so is all with what comes behind
pub counted_on :
    (a : Totals) (s r : List ℕ) {p : Passed} → Ok p ≡ passed a s → counted p.totals (drop p.used s ++ r) ≡ counted a (s ++ r)
unfolding counted passed
counted_on a s r h =
    let t = passed_to-told _ _ h in
    rw (t.1, t.2, rest-drop s) (ap bounded (sym (counted_more a s r)))

pub counted-past : (a : Totals) (s r : List ℕ) {e : TooLarge} → Err e ≡ passed a s → Err e ≡ counted a (s ++ r)
unfolding counted passed
counted-past a s r h = sym (bounded-over _ (ap within (counted_more a s r) ∙ within-over _ _ (passed_to-told-over _ _ h)))

-- totals so far, and what is left behind the whole tables
unfoldable pub with_rest : Totals → List ℕ → Result Totals TooLarge
with_rest a [] = Ok a
with_rest a (b ∷ s) = bounded (sum a (of_table (b ∷ s)))

pub with_rest-none : (a : Totals) (s : List ℕ) → length s ≡ 0 → with_rest a s ≡ Ok a
unfolding with_rest
with_rest-none a [] h = refl
with_rest-none a (b ∷ s) h = absurd (omega arith)

pub with_rest_some : (a : Totals) (s : List ℕ) → (length s ≡ 0 → ⊥) → with_rest a s ≡ bounded (sum a (of_table s))
unfolding with_rest
with_rest_some a [] h = absurd (h refl)
with_rest_some a (b ∷ s) h = refl

-- where no whole table is left, that is all of them
with_rest-all : (a : Totals) (s : List ℕ) → within a ≡ true → length s < table_length s → with_rest a s ≡ counted a s
unfolding with_rest counted shelf
with_rest-all a [] w h =
    sym (ap (λ (x : List (List ℕ)). bounded (sum a (totals_of x))) tables-none ∙ ap (λ (x : Totals). bounded (sum a x)) totals-none
    ∙ ap bounded (sum-nothing a) ∙ bounded_is a w)
with_rest-all a (b ∷ s) w h =
    ap (λ (x : Totals). bounded (sum a x)) (sym (ap totals_of (tables-cut (b ∷ s) (omega arith) h) ∙ totals-one (b ∷ s)))

-- the bytes counted lie in what was read
pub passed_used : (a : Totals) (s : List ℕ) {p : Passed} → Ok p ≡ passed a s → p.used ≤ length s
unfolding passed
passed_used a s h = let u = (passed_to-told _ _ h).2 in omega arith

-- so all tables: the whole ones, and then one that is cut off or none
pub counted-rest : (a : Totals) (s : List ℕ) {p : Passed} → Ok p ≡ passed a s → with_rest p.totals (drop p.used s) ≡ counted a s
unfolding passed
counted-rest a s {p} h =
    let t = passed_to-told _ _ h in
    with_rest-all p.totals (drop p.used s) (ap within t.1 ∙ t.0) (rw (t.2, rest-drop s) (rest_short s))
    ∙ ap (counted p.totals) (sym (append-nil (drop p.used s))) ∙ counted_on a s [] h ∙ ap (counted a) (append-nil s)

pub counted-over : (a : Totals) (s : List ℕ) {e : TooLarge} → Err e ≡ passed a s → Err e ≡ counted a s
counted-over a s h = counted-past a s [] h ∙ ap (counted a) (append-nil s)

-- ---- room for more

pub left_by_on : (p : Passed) (n : ℕ) → left_by (Ok p) n ≡ n - p.used
unfolding left_by
left_by_on p n = refl

left_by-over : (e : TooLarge) (n : ℕ) → left_by (Err e) n ≡ 0
unfolding left_by
left_by-over e n = refl

-- of bytes fewer than the longest table has, which is 65,537 long
pub passed-left : (a : Totals) (s : List ℕ) → ((i : ℕ) → get_or s i 0 < 256) → left_by (passed a s) (length s) ≤ 65536
unfolding passed passed_to
passed-left a s h =
    either (λ (r : Result Passed TooLarge). left_by r (length s) ≤ 65536) (within (sum a (totals_of (wholes s))))
    (λ w. let e = left_by_on (record { totals = sum a (totals_of (wholes s)); used = length s - length (rest s) }) (length s) in
    let l = rest-length s in
    let t = rest_short s in
    let p : get_or (rest s) 0 0 < 256 = byte 0 in
    let q : get_or (rest s) 1 0 < 256 = byte 1 in
    omega arith) (λ w. let e = left_by-over too_large (length s) in omega arith)
  where
    byte : (i : ℕ) → get_or (rest s) i 0 < 256
    byte i = rw (sym (rest-drop s)) (rw (get_or-drop (length s - length (rest s)) s i 0) (h _))

-- ---- a piece taken in

-- the part of a room from `used` up to n, seen from either end
drop_of_take : (m : List ℕ) (used n : ℕ) → used ≤ n → n ≤ length m → take (n - used) (drop used m) ≡ drop used (take n m)
drop_of_take m used n h k =
    let l = length-take-le n m k in
    let d = length-drop used (take n m) in
    let e : n - used ≡ length (drop used (take n m)) = omega arith in
    ap (λ (x : List ℕ). take (n - used) (drop used x)) (sym (take-append-drop n m))
    ∙ ap (take (n - used)) (drop-append-le used (take n m) (drop n m) (omega arith))
    ∙ ap (λ (x : ℕ). take x (drop used (take n m) ++ drop n m)) e
    ∙ take-append_seam (drop used (take n m)) (drop n m)

-- none of the bytes were used: all stand where they stood
pub keep-none :
    (p : Passed) (n : ℕ) (m : List ℕ) → p.used ≡ 0 → n ≤ length m
    → (Ok (record { totals = p.totals; left = n }) ≡ taken_by (Ok p) n) × (m ≡ kept_by (Ok p) (take n m) m)
unfolding taken_by kept_by
keep-none p n m e h =
    let l = length-take-le n m h in
    let q : n ≡ n - p.used = omega arith in (
      ap (λ (x : ℕ). Ok (record { totals = p.totals; left = x })) q,
      rw e (sym (fill_fits m (take n m) (omega arith) ∙ ap (λ (x : ℕ). take n m ++ drop x m) l ∙ take-append-drop n m)),
    )

-- what is left was moved
pub keep-moved :
    (p : Passed) (n : ℕ) (m : List ℕ) {left : ℕ} {m' : List ℕ} → p.used ≤ n → n ≤ length m
    → Laid m (take (n - p.used) (drop p.used m)) left m'
    → (Ok (record { totals = p.totals; left = left }) ≡ taken_by (Ok p) n) × (m' ≡ kept_by (Ok p) (take n m) m)
unfolding taken_by kept_by
keep-moved p n m {left} h k l =
    let c = l.count in
    let t = length-take (n - p.used) (drop p.used m) in
    let d = length-drop p.used m in
    let q : left ≡ n - p.used = omega arith in
    (ap (λ (x : ℕ). Ok (record { totals = p.totals; left = x })) q, l.bytes ∙ ap (fill m) (drop_of_take m p.used n h k))

-- as the slice itself moves it
pub keep-copied : (p : Passed) (n : ℕ) (m : List ℕ) → p.used ≤ n → n ≤ length m → copy_within m p.used n 0 ≡ kept_by (Ok p) (take n m) m
unfolding kept_by
keep-copied p n m h k =
    let e = drop_of_take m p.used n h k in
    let l : length (drop p.used (take n m)) ≡ n - p.used = length-drop p.used (take n m) ∙ ap (λ (x : ℕ). x - p.used) (length-take-le n m k) in
    ap (λ (x : ℕ). take (n - p.used) (drop p.used m) ++ drop x m) (zero-add (n - p.used) ∙ sym l)
    ∙ ap (λ (x : List ℕ). x ++ drop (length (drop p.used (take n m))) m) e
    ∙ sym (fill_fits m (drop p.used (take n m)) (omega arith))

-- the first n bytes of the room, which has as many or fewer than it is asked for
pub took_of :
    (a : Totals) (m : List ℕ) (end : ℕ) {n : ℕ} {p : Result Passed TooLarge} {r : Result Taken TooLarge} {m' : List ℕ} → n ≡ min end (length m) → p ≡ passed a (take n m)
    → r ≡ taken_by p n → m' ≡ kept_by p (take n m) m → Took a (take end m) m r m'
took_of a m end {n} {p} e h o k =
    let l = length-take-le n m (omega arith) in
    let s : take n m ≡ take end m = shorter (dec_le end (length m)) in
    rw (← s) (record { outcome = o ∙ ap (λ (x : Result Passed TooLarge). taken_by x n) h ∙ ap (taken_by (passed a (take n m))) (sym l); memory = rw h at k })
  where
    shorter : Dec (end ≤ length m) → take n m ≡ take end m
    shorter (yes g) = let q : n ≡ end = omega arith in ap (λ (x : ℕ). take x m) q
    shorter (no g) = let i = lt_of_not-le g in take_all n m (omega arith) ∙ sym (take_all end m (omega arith))

-- how many are left
pub left_in-taken : (p : Result Passed TooLarge) (n : ℕ) → left_in (taken_by p n) ≡ left_by p n
unfolding left_in taken_by left_by
left_in-taken (Ok p) n = refl
left_in-taken (Err e) n = refl

pub left_in_on : {r : Result Taken TooLarge} {t : Taken} → r ≡ Ok t → left_in r ≡ t.left
unfolding left_in
left_in_on e = rw e

pub taken_short : {p q : Result Passed TooLarge} {n l : ℕ} {r : Result Taken TooLarge} → r ≡ taken_by p n → q ≡ p → l ≡ n → left_by q l ≤ 65536 → left_in r ≤ 65536
taken_short {p} {q} {n} h e k b = rw (h, left_in-taken p n) (rw (e, k) at b)

-- too large: nothing is left or moved
pub took-over : (e : TooLarge) (m s : List ℕ) (n : ℕ) → (Err e ≡ taken_by (Err e) n) × (m ≡ kept_by (Err e) s m) × (left_in (Err e) ≤ 65536)
unfolding taken_by kept_by left_in
took-over e m s n = (refl, refl, omega arith)
