-- The laws of a descriptor: where it stands, and what each rule's test tells of it by its POINT.
use Rattle.std.specs.Prelude.{◌≡◌, refl, Bool, true, false, not, List, ℕ, ◌+◌, ◌-◌, ◌%◌, ◌≤◌, ◌<◌, length, get_or, take, drop, leb, eqb}
use Rattle.std.proofs.Common.{sym, ap, ◌∙◌, arith, add-zero, le-leb, eq-eqb, eqb-true, ne_eqb, length-drop, get_or-drop, get_or-take, length-take-le}
use Rattle.std.proofs.Math.Decide.{ℕ_discrete}
use Rattle.std.proofs.lemmas.Bool.{lt-leb}
use Rattle.ground.specs.Tests.{◌and◌, ◌or◌, choose◌then◌else◌, and_head, and_both, and_on, and_off, and_late, or_left, or_right, or_else, when, unless}
use Rattle.address.specs.Address.{is_msf}
use Rattle.address.specs.Laws.{InRange, is_msf_range}
use Rattle.table.specs.Layout.{row, A0, A1, A2, B0, C0, is_track, is_extra}
use Rattle.table.specs.Row.{row_from, row_of, frames_of, start_of, adr, simple, free, plain, head_a0, head_a1, headed, addressed, row_test}
use Rattle.table.specs.declared.row.Row.{Row}

-- ---- where it stands

-- in what is left of the table from `at` on it stands so much nearer
pub row_from-drop : (d : List ℕ) (at i : ℕ) → row_from (drop at d) i ≡ row_from d (at + i)
row_from-drop d at i = rw (get_or-drop at d i 0, f 1, f 2, f 3, f 4, f 5, f 6, f 7, f 8, f 9, f 10)
  where
    f : (x : ℕ) → get_or (drop at d) (i + x) 0 ≡ get_or d (at + i + x) 0
    f x = get_or-drop at d (i + x) 0 ∙ ap (λ (n : ℕ). get_or d n 0) (omega arith)

-- the reader reads it off its own eleven bytes, in the form in which they are lent
pub row_of_part : (d : List ℕ) (at : ℕ) → at + row ≤ length d → row_of (take (at + row - at) (drop at d)) ≡ row_from d at
unfolding row_of
row_of_part d at h =
    let n : at + row - at ≡ row = omega arith in
    let l : length (take row (drop at d)) ≡ row = length-take-le row (drop at d) (let e = length-drop at d in omega arith) in
    rw n (when _ _ _ (eq-eqb _ _ l) ∙ rw (
      f 0 (omega arith),
      add-zero at,
      f 1 (omega arith),
      f 2 (omega arith),
      f 3 (omega arith),
      f 4 (omega arith),
      f 5 (omega arith),
      f 6
          (omega arith),
      f 7 (omega arith),
      f 8 (omega arith),
      f 9 (omega arith),
      f 10 (omega arith),
    ))
  where
    f : (x : ℕ) → x < row → get_or (take row (drop at d)) x 0 ≡ get_or d (at + x) 0
    f x l = get_or-take row (drop at d) x 0 l ∙ get_or-drop at d x 0

-- ---- an address and its frames

pub start_of-frames : (r : Row) → start_of r ≡ frames_of r - 150
unfolding start_of frames_of
start_of-frames r = refl

-- ---- the POINTs

pub is_track_true : (p : ℕ) → 1 ≤ p → p ≤ 99 → is_track p ≡ true
unfolding is_track
is_track_true p h k = and_both _ _ (le-leb _ _ h) (le-leb _ _ k)

-- none of A0h, A1h, A2h, B0h and C0h is one
pub is_track-over : (p : ℕ) → 99 < p → is_track p ≡ false
unfolding is_track
is_track-over p h = sym (and_late _ _ (sym (lt-leb _ _ h)))

pub is_extra-B0 : {p : ℕ} → p ≡ B0 → is_extra p ≡ true
unfolding is_extra
is_extra-B0 e = or_left _ _ (eq-eqb _ _ e)

pub is_extra-C0 : {p : ℕ} → p ≡ C0 → is_extra p ≡ true
unfolding is_extra
is_extra-C0 e = or_right _ _ (eq-eqb _ _ e)

pub is_extra_not : (p : ℕ) → (p ≡ B0 → ⊥) → (p ≡ C0 → ⊥) → is_extra p ≡ false
unfolding is_extra
is_extra_not p h g = or_else _ _ (ne_eqb _ _ h) ∙ ne_eqb _ _ g

-- ---- rule 3

pub plain-free : (r : Row) → is_extra r.point ≡ true → plain r ≡ free r
unfolding plain
plain-free r h = when _ _ _ h

pub plain-simple : (r : Row) → (r.point ≡ B0 → ⊥) → (r.point ≡ C0 → ⊥) → plain r ≡ simple r
unfolding plain
plain-simple r h g = unless _ _ _ (is_extra_not r.point h g)

pub row_test_3 : (r : Row) → row_test 3 r ≡ plain r
unfolding row_test choose◌then◌else◌
row_test_3 r = refl

-- ---- rule 5

-- 00h, 10h and 20h are the multiples of 10h up to 20h
pub types-most : (s : ℕ) → s % 16 ≡ 0 → leb s 0x20 ≡ (eqb s 0x00 or eqb s 0x10 or eqb s 0x20)
types-most s h = elim (ℕ_discrete s 0x00) [
  | yes a ↦ le-leb s 0x20 (omega arith) ∙ sym (or_left _ _ (eq-eqb _ _ a))
  | no a ↦ elim (ℕ_discrete s 0x10) [
    | yes b ↦ le-leb s 0x20 (omega arith) ∙ sym (or_right _ _ (or_left _ _ (eq-eqb _ _ b)))
    | no b ↦ elim (ℕ_discrete s 0x20) [
      | yes c ↦ le-leb s 0x20 (omega arith) ∙ sym (or_right _ _ (or_right _ _ (eq-eqb _ _ c)))
      | no c ↦ lt-leb s 0x20 (omega arith) ∙ sym (or_else _ _ (ne_eqb _ _ a) ∙ or_else _ _ (ne_eqb _ _ b) ∙ ne_eqb _ _ c)
    ]
  ]
]

pub types_not : (s : ℕ) → (s % 16 ≡ 0 → ⊥) → (eqb s 0x00 or eqb s 0x10 or eqb s 0x20) ≡ false
types_not s n =
    or_else _ _ (ne_eqb s 0x00 (λ e. n (omega arith))) ∙ or_else _ _ (ne_eqb s 0x10 (λ e. n (omega arith))) ∙ ne_eqb s 0x20
    (λ e. n (omega arith))

-- so the code's two tests are the three
pub types-tested : (s : ℕ) → (eqb (s % 16) 0 and leb s 0x20) ≡ (eqb s 0x00 or eqb s 0x10 or eqb s 0x20)
types-tested s = elim (ℕ_discrete (s % 16) 0) [
  | yes e ↦ sym (and_on _ _ (eq-eqb _ _ e) refl) ∙ types-most s e
  | no n ↦ sym (and_off _ _ (ne_eqb _ _ n)) ∙ sym (types_not s n)
]

-- a simple descriptor keeps rule 3 unless it is a B0h or a C0h
pub plain_unless : (r : Row) → simple r ≡ true → not (is_extra r.point) ≡ plain r
unfolding plain free simple
plain_unless r h = decided (is_extra r.point) refl
  where
    five : free r ≡ false
    five = sym (and_off _ _ (ne_eqb (adr r) 5 (λ e. let z = eqb-true (adr r) 1 (and_head _ _ h) in omega arith)))

    decided : (b : Bool) → is_extra r.point ≡ b → not (is_extra r.point) ≡ plain r
    decided true e = ap not e ∙ sym (when _ _ _ e ∙ five)
    decided false e = ap not e ∙ sym (unless _ _ _ e ∙ h)

pub headed-A0 : (r : Row) → r.point ≡ A0 → headed r ≡ head_a0 r
unfolding headed
headed-A0 r h = when _ _ _ (eq-eqb _ _ h)

pub headed-A1 : (r : Row) → r.point ≡ A1 → headed r ≡ head_a1 r
unfolding headed
headed-A1 r h = unless _ _ _ (ne_eqb r.point A0 (λ e. omega arith)) ∙ when _ _ _ (eq-eqb _ _ h)

pub headed_other : (r : Row) → (r.point ≡ A0 → ⊥) → (r.point ≡ A1 → ⊥) → headed r ≡ true
unfolding headed
headed_other r h g = unless _ _ _ (ne_eqb _ _ h) ∙ unless _ _ _ (ne_eqb _ _ g)

pub row_test_5 : (r : Row) → row_test 5 r ≡ headed r
unfolding row_test choose◌then◌else◌
row_test_5 r = refl

-- ---- rule 6

pub addressed_range :
    (r : Row) → addressed r ≡ true → (eqb r.point A2 or is_track r.point) ≡ true → InRange r.pmin r.psec r.pframe
unfolding addressed
addressed_range r h e = is_msf_range _ _ _ (sym (when _ _ _ e) ∙ h)

pub addressed_of : (r : Row) → is_msf r.pmin r.psec r.pframe ≡ true → addressed r ≡ true
unfolding addressed
addressed_of r h = told (eqb r.point A2 or is_track r.point) refl
  where
    told : (b : Bool) → (eqb r.point A2 or is_track r.point) ≡ b → addressed r ≡ true
    told true e = when _ _ _ e ∙ h
    told false e = unless _ _ _ e

pub addressed_other : (r : Row) (p : ℕ) → r.point ≡ p → (eqb p A2 or is_track p) ≡ false → addressed r ≡ true
unfolding addressed
addressed_other r p e h = unless _ _ _ (rw e h)

pub row_test_6 : (r : Row) → row_test 6 r ≡ addressed r
unfolding row_test choose◌then◌else◌
row_test_6 r = refl

-- ---- what no rule asks an address of

pub A0-other : (eqb A0 A2 or is_track A0) ≡ false
unfolding ◌or◌ is_track ◌and◌
A0-other = refl

pub A1-other : (eqb A1 A2 or is_track A1) ≡ false
unfolding ◌or◌ is_track ◌and◌
A1-other = refl

pub B0-other : (eqb B0 A2 or is_track B0) ≡ false
unfolding ◌or◌ is_track ◌and◌
B0-other = refl

pub C0-other : (eqb C0 A2 or is_track C0) ≡ false
unfolding ◌or◌ is_track ◌and◌
C0-other = refl
