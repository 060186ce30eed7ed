-- The laws of the seven rules, and what a fit table has.
use Rattle.std.specs.Prelude.{◌≡◌, refl, Bool, true, false, not, List, [], ◌∷◌, ℕ, suc, ◌+◌, ◌-◌, ◌*◌, ◌/◌, ◌%◌, ◌≤◌, ◌<◌, eqb, drop}
use Rattle.std.proofs.Math.Path.{sym}
use Rattle.std.proofs.Common.{ap, ◌∙◌, add-one, lt_of_not-le, leb-true, eq-eqb, eqb-true, length-drop}
use native.Mathlib.Omega.{arith}
use Rattle.std.proofs.Math.Decide.{dec_le}
use Rattle.std.proofs.Math.ListN.{length}
use Rattle.ground.specs.Tests.{◌and◌, every, and_head, and_tail, every-none, every_more, every-at, every-all, every-breaks}
use Rattle.table.specs.Row.{row_from, row_at, row_test}
use Rattle.table.specs.RowLaws.{row_from-drop}
use Rattle.table.specs.declared.row.Row.{Row}
use Rattle.table.specs.Layout.{bound, data_length, first_session, last_session, header, row, descriptors, rows}
use Rattle.sessions.specs.Session.{tracks, size, starts, session, in_place, in_order}
use Rattle.sessions.specs.SessionLaws.{IsSession, size_least, Walked, walked_next, walked_all, starts-within, placed, in_order-places, in_order_end, rows_before, starts-rows}
use Rattle.disc.specs.Rules.{rule1, rule2, each_row, session_lead_out, track_start, rises, out_before, begins_after, rising, rule7, first_broken, late_rules, row_rules, fault, is_fit}

-- ---- the first broken rule

-- this rule is kept: the first broken one comes later
pub first_broken_on : (n : ℕ) (b : Bool) (tests : List Bool) {r : ℕ} → b ≡ true → r ≡ first_broken (n + 1) tests → r ≡ first_broken n (b ∷ tests)
unfolding first_broken
first_broken_on n true tests h e = e
first_broken_on n false tests h e = absurd (let z : ◌≡◌ {A = ℕ} 0 1 = cc in omega arith)

-- this rule is the first that is broken
pub first_broken_off : (n : ℕ) (b : Bool) (tests : List Bool) → b ≡ false → n ≡ first_broken n (b ∷ tests)
unfolding first_broken
first_broken_off n false tests h = refl
first_broken_off n true tests h = absurd (let z : ◌≡◌ {A = ℕ} 0 1 = cc in omega arith)

pub first_broken-none : (n : ℕ) → 0 ≡ first_broken n []
unfolding first_broken
first_broken-none n = refl

-- n is the first broken of seven rules: each is it exactly when those before it are kept and it is not
pub record FirstOf (a b c d e f g : Bool) (n : ℕ) : Type 0 where
  pub zero : eqb n 0 ≡ a and b and c and d and e and f and g
  pub one : eqb n 1 ≡ not a
  pub two : eqb n 2 ≡ a and not b
  pub three : eqb n 3 ≡ a and b and not c
  pub four : eqb n 4 ≡ a and b and c and not d
  pub five : eqb n 5 ≡ a and b and c and d and not e
  pub six : eqb n 6 ≡ a and b and c and d and e and not f
  pub seven : eqb n 7 ≡ a and b and c and d and e and f and not g
  pub most : n ≤ 7

first_broken-first : (a b c d e f g : Bool) → FirstOf a b c d e f g (first_broken 1 (a ∷ b ∷ c ∷ d ∷ e ∷ f ∷ g ∷ []))
unfolding first_broken ◌and◌
first_broken-first false b c d e f g = record { zero = refl; one = refl; two = refl; three = refl; four = refl; five = refl; six = refl; seven = refl; most = omega arith }
first_broken-first true false c d e f g = record { zero = refl; one = refl; two = refl; three = refl; four = refl; five = refl; six = refl; seven = refl; most = omega arith }
first_broken-first true true false d e f g = record { zero = refl; one = refl; two = refl; three = refl; four = refl; five = refl; six = refl; seven = refl; most = omega arith }
first_broken-first true true true false e f g = record { zero = refl; one = refl; two = refl; three = refl; four = refl; five = refl; six = refl; seven = refl; most = omega arith }
first_broken-first true true true true false f g = record { zero = refl; one = refl; two = refl; three = refl; four = refl; five = refl; six = refl; seven = refl; most = omega arith }
first_broken-first true true true true true false g = record { zero = refl; one = refl; two = refl; three = refl; four = refl; five = refl; six = refl; seven = refl; most = omega arith }
first_broken-first true true true true true true false = record { zero = refl; one = refl; two = refl; three = refl; four = refl; five = refl; six = refl; seven = refl; most = omega arith }
first_broken-first true true true true true true true = record { zero = refl; one = refl; two = refl; three = refl; four = refl; five = refl; six = refl; seven = refl; most = omega arith }

-- ---- two tests

-- two tests of which each holds where the other does are one
pub same_test : (x y : Bool) → (x ≡ true → y ≡ true) → (y ≡ true → x ≡ true) → x ≡ y
same_test true y f g = sym (f refl)
same_test false true f g = g refl
same_test false false f g = refl

-- ---- rules 3, 5 and 6, descriptor by descriptor

-- the descriptors up to byte `at` keep rule n
pub record Tested (n : ℕ) (d : List ℕ) (at : ℕ) : Type 0 where
  pub whole : at % row ≡ 0
  pub within : at ≤ length d
  pub passed : every (at / row) (λ i. row_test n (row_at d i)) ≡ true

pub tested-none : (n : ℕ) (d : List ℕ) → Tested n d 0
tested-none n d = record { whole = refl; within = omega arith; passed = every-none _ }

module _ {n : ℕ} {d : List ℕ} {at : ℕ} (t : Tested n d at) where
  -- the next one is there, and is descriptor at / row
  tested-here : {r : Row} {b : Bool} → r ≡ row_from d at → row_test n r ≡ b → row_test n (row_at d (at / row)) ≡ b
  tested-here e h =
      let w = t.whole in
      let q : row * (at / row) ≡ at = omega arith in
      ap (λ (x : ℕ). row_test n (row_from d x)) q ∙ ap (row_test n) (sym e) ∙ h

  pub tested-next :
      {r : Row} → length d % row ≡ 0 → at < length d → r ≡ row_from d at → row_test n r ≡ true → Tested n d (at + row)
  tested-next l i e h =
      let w = t.whole in
      let q : (at + row) / row ≡ at / row + 1 = omega arith in
      record {
        whole = omega arith;
        within = omega arith;
        passed = rw q (every_more (at / row) (λ i. row_test n (row_at d i)) t.passed (tested-here e h));
      }

  -- the first that fails breaks the rule
  pub tested-breaks : {r : Row} → length d % row ≡ 0 → at < length d → r ≡ row_from d at → row_test n r ≡ false → false ≡ each_row n d
  unfolding each_row
  tested-breaks l i e h =
      let w = t.whole in every-breaks (rows d) (λ j. row_test n (row_at d j)) (at / row) (omega arith) (tested-here e h)

  pub tested-end : length d ≤ at → true ≡ each_row n d
  unfolding each_row
  tested-end l =
      let w = t.within in
      let e : at ≡ length d = omega arith in
      sym (rw e at t.passed)

-- where the first j keep it, what is left of the table decides
pub each_row-rest :
    (n : ℕ) (d : List ℕ) (j : ℕ) → row * j ≤ length d → ((i : ℕ) → i < j → row_test n (row_at d i) ≡ true)
    → each_row n (drop (row * j) d) ≡ each_row n d
unfolding each_row
each_row-rest n d j h f = same_test _ _
    (λ e. every-all _ _ (λ i l. elim (dec_le j i) [
      | yes g ↦ (let z : i ≡ j + (i - j) = omega arith in rw z (sym (ap (row_test n) (there (i - j))) ∙ every-at _ _ e (i - j) (left (i - j) (omega arith))))
      | no g ↦ f i (lt_of_not-le g)
    ]))
    (λ e. every-all _ _ (λ i l. ap (row_test n) (there i) ∙ every-at _ _ e (j + i) (all i l)))
  where
    there : (i : ℕ) → row_at (drop (row * j) d) i ≡ row_at d (j + i)
    there i = row_from-drop d (row * j) (row * i) ∙ ap (row_from d) (omega arith)

    left : (i : ℕ) → j + i < rows d → i < rows (drop (row * j) d)
    left i l = let e = length-drop (row * j) d in omega arith

    all : (i : ℕ) → i < rows (drop (row * j) d) → j + i < rows d
    all i l = let e = length-drop (row * j) d in omega arith

-- ---- rule 7, session by session

-- rule 7 holds of k of n sessions: the next begins at `at`, and the one before has its lead-out at `out`
pub record Risen (n : ℕ) (d : List ℕ) (k at out : ℕ) : Type 0 where
  pub walked : Walked n d k at
  pub passed : every k (rising d) ≡ true
  pub lead : out ≡ out_before d k

pub out_before-next : (d : List ℕ) (k : ℕ) → out_before d (k + 1) ≡ session_lead_out (session d k)
unfolding out_before
out_before-next d k = rw (add-one k)

-- the tests of the session at `at` are those of session k + 1
pub risen-here :
    {n : ℕ} {d : List ℕ} {k at out : ℕ} → Risen n d k at out
    → (rises (drop at d) (tracks (drop at d)) and begins_after k out (track_start (drop at d) 0)) ≡ rising d k
unfolding rising
risen-here r = rw (r.walked.place, r.lead)

pub risen-next :
    {n : ℕ} {d : List ℕ} {k at out b o : ℕ} → Risen n d k at out → k < n → IsSession (k + 1) (drop at d) → b ≡ size (drop at d)
    → o ≡ session_lead_out (drop at d) → (rises (drop at d) (tracks (drop at d)) and begins_after k out (track_start (drop at d) 0)) ≡ true
    → Risen n d (k + 1) (at + b) o
risen-next {d = d} {k} r i s e l h = record {
  walked = walked_next r.walked i s e;
  passed = every_more k (rising d) r.passed (sym (risen-here r) ∙ h);
  lead = l ∙ ap (λ (x : ℕ). session_lead_out (drop x d)) r.walked.place ∙ sym (out_before-next d k);
}

-- the first test that fails breaks the rule
pub risen-breaks :
    {n : ℕ} {d : List ℕ} {k at out : ℕ} → Risen n d k at out → k < n
    → (rises (drop at d) (tracks (drop at d)) and begins_after k out (track_start (drop at d) 0)) ≡ false → false ≡ rule7 n d
unfolding rule7
risen-breaks {n} {d} {k} r i h = every-breaks n (rising d) k i (sym (risen-here r) ∙ h)

pub risen_end : {n : ℕ} {d : List ℕ} {k at out : ℕ} → Risen n d k at out → n ≤ k → true ≡ rule7 n d
unfolding rule7
risen_end r i = sym (rw (walked_all r.walked i) at r.passed)

-- ---- rules 1 and 2, their parts by name

pub record Sized (t : List ℕ) : Type 0 where
  pub least : header ≤ length t
  pub most : length t ≤ bound
  pub whole : (length t - header) % row ≡ 0
  pub says : data_length t ≡ length t - 2

pub rule1_parts : {t : List ℕ} → rule1 t ≡ true → Sized t
unfolding rule1
rule1_parts h =
    let u = and_tail _ _ h in
    let v = and_tail _ _ u in
    record {
      least = leb-true _ _ (and_head _ _ h);
      most = leb-true _ _ (and_head _ _ u);
      whole = eqb-true _ _ (and_head _ _ v);
      says = eqb-true _ _ (and_tail _ _ v);
    }

pub record Numbered (t : List ℕ) : Type 0 where
  pub one : first_session t ≡ 1
  pub low : 1 ≤ last_session t
  pub high : last_session t ≤ 99

pub rule2_parts : {t : List ℕ} → rule2 t ≡ true → Numbered t
unfolding rule2
rule2_parts h =
    let u = and_tail _ _ h in
    record { one = eqb-true _ _ (and_head _ _ h); low = leb-true _ _ (and_head _ _ u); high = leb-true _ _ (and_tail _ _ u) }

-- ---- a fit table

-- every rule is kept
pub record Fit (t : List ℕ) : Type 0 where
  pub rule1 : rule1 t ≡ true
  pub rule2 : rule2 t ≡ true
  pub rule3 : each_row 3 (descriptors t) ≡ true
  pub rule4 : in_order (last_session t) (descriptors t) ≡ true
  pub rule5 : each_row 5 (descriptors t) ≡ true
  pub rule6 : each_row 6 (descriptors t) ≡ true
  pub rule7 : rule7 (last_session t) (descriptors t) ≡ true

-- a test that the first broken rule is not: it holds, and the later ones are to be asked
pub first_broken-kept :
    (n : ℕ) (b : Bool) (tests : List Bool) → first_broken (suc n) (b ∷ tests) ≡ 0 → (b ≡ true) × (first_broken (suc (suc n)) tests ≡ 0)
unfolding first_broken
first_broken-kept n true tests h = (refl, rw (add-one (suc n)) at h)
first_broken-kept n false tests h = absurd (omega arith)

-- which of the seven it is
pub fault-first :
    (t : List ℕ)
    → FirstOf (rule1 t) (rule2 t) (each_row 3 (descriptors t)) (in_order (last_session t) (descriptors t)) (each_row 5 (descriptors t))
    (each_row 6 (descriptors t)) (rule7 (last_session t) (descriptors t)) (fault t)
unfolding fault row_rules late_rules
fault-first t = first_broken-first _ _ _ _ _ _ _

pub fault_fit : {t : List ℕ} → fault t ≡ 0 → Fit t
unfolding fault row_rules late_rules
fault_fit h =
    let a = first_broken-kept _ _ _ h in
    let b = first_broken-kept _ _ _ a.1 in
    let c = first_broken-kept _ _ _ b.1 in
    let d = first_broken-kept _ _ _ c.1 in
    let e = first_broken-kept _ _ _ d.1 in
    let f = first_broken-kept _ _ _ e.1 in
    let g = first_broken-kept _ _ _ f.1 in
    record { rule1 = a.0; rule2 = b.0; rule3 = c.0; rule4 = d.0; rule5 = e.0; rule6 = f.0; rule7 = g.0 }

pub fit-fault : {t : List ℕ} → Fit t → fault t ≡ 0
unfolding fault row_rules late_rules
fit-fault f =
    sym (first_broken_on _ _ _ f.rule1 (first_broken_on _ _ _ f.rule2 (first_broken_on _ _ _ f.rule3 (first_broken_on _ _ _ f.rule4
    (first_broken_on _ _ _ f.rule5 (first_broken_on _ _ _ f.rule6 (first_broken_on _ _ _ f.rule7 (first_broken-none _))))))))

pub is_fit_true : {t : List ℕ} → is_fit t ≡ true → Fit t
unfolding is_fit
is_fit_true h = fault_fit (eqb-true _ _ h)

pub fit-is_fit : {t : List ℕ} → Fit t → is_fit t ≡ true
unfolding is_fit
fit-is_fit f = eq-eqb _ _ (fit-fault f)

-- ---- what a fit table has

-- 4 to 6,538 bytes, S from 1 to 99
pub fit_sized : {t : List ℕ} → Fit t → Sized t
fit_sized f = rule1_parts f.rule1

pub fit-numbered : {t : List ℕ} → Fit t → Numbered t
fit-numbered f = rule2_parts f.rule2

-- whole descriptors
pub fit-rows : {t : List ℕ} → Fit t → length (descriptors t) ≡ row * rows (descriptors t)
fit-rows {t} f = let s = fit_sized f in let e = length-drop header t in omega arith

module _ {t : List ℕ} (f : Fit t) where
  -- the sessions in their places, and nothing more
  pub fit-places : every (last_session t) (in_place (descriptors t)) ≡ true
  fit-places = in_order-places _ _ f.rule4

  pub fit-end : starts (descriptors t) (last_session t) ≡ length (descriptors t)
  fit-end = in_order_end _ _ f.rule4

  pub fit-end-rows : rows_before (descriptors t) (last_session t) ≡ rows (descriptors t)
  fit-end-rows = let e = fit-end in let r = fit-rows f in let s = starts-rows (descriptors t) (last_session t) in omega arith

  -- each begins and ends in the table
  pub fit-starts : (k : ℕ) → k ≤ last_session t → starts (descriptors t) k ≤ length (descriptors t)
  fit-starts k h = starts-within _ _ fit-places k h

  pub fit-session : {k : ℕ} → k < last_session t → IsSession (k + 1) (session (descriptors t) k)
  fit-session h = placed _ _ fit-places h

  -- and has four descriptors at least
  pub fit-least : {k : ℕ} → k < last_session t → 44 ≤ size (session (descriptors t) k)
  fit-least h = size_least (fit-session h)

  -- the last one
  pub fit-last : IsSession (last_session t - 1 + 1) (session (descriptors t) (last_session t - 1))
  fit-last = fit-session (let n = fit-numbered f in omega arith)
