-- The laws of the two conversions: exactly the stated ranges convert, both round trips, strictly rising; what is shown of an address is four bytes.
use Rattle.std.specs.Prelude.{◌≡◌, refl, Bool, true, false, List, ◌⊎◌, ℕ, ◌+◌, ◌*◌, ◌/◌, ◌≤◌, ◌<◌, length, Result, Ok, Err}
use Rattle.std.proofs.Common.{sym, ap, ◌∙◌, inl, inr, ⊎_elim, arith, lt_of_not-le, le-leb, leb-true}
use Rattle.std.proofs.Math.Decide.{dec_le}
use Rattle.std.proofs.lemmas.Bool.{lt-leb}
use Rattle.std.specs.Result.{is_ok}
use Rattle.ground.specs.Tests.{choose◌then◌else◌, when, unless, either, and_head, and_tail, and_both}
use Rattle.address.specs.declared.OutOfRange.{OutOfRange}
use Rattle.address.specs.Address.{BlockAnswer, refused, last, frames, address_of, is_msf, minute_of, second_of, frame_of, msf_at, msf_refused, block_at, block_refused, to_msf, to_block, shown_address, block_meaning}

-- rule 6 of an M:S:F, its parts by name
pub record InRange (m s f : ℕ) : Type 0 where
  pub minute : m ≤ 99
  pub second : s ≤ 59
  pub frame : f ≤ 74
  pub lead : 150 ≤ frames m s f

-- ---- is_msf

pub is_msf_true : {m s f : ℕ} → InRange m s f → is_msf m s f ≡ true
unfolding is_msf
is_msf_true {m} {s} {f} r =
    and_both _ _ (le-leb m 99 r.minute)
    (and_both _ _ (le-leb s 59 r.second) (and_both _ _ (le-leb f 74 r.frame) (le-leb 150 (frames m s f) r.lead)))

pub is_msf_range : (m s f : ℕ) → is_msf m s f ≡ true → InRange m s f
unfolding is_msf
is_msf_range m s f h =
    let t = and_tail _ _ h in
    let u = and_tail _ _ t in
    record {
      minute = leb-true m 99 (and_head _ _ h);
      second = leb-true s 59 (and_head _ _ t);
      frame = leb-true f 74 (and_head _ _ u);
      lead = leb-true 150 (frames m s f) (and_tail _ _ u);
    }

-- outside the range in any one part
pub is_msf_false : (m s f : ℕ) → (InRange m s f → ⊥) → is_msf m s f ≡ false
is_msf_false m s f n = decided (is_msf m s f) refl
  where
    decided : (b : Bool) → is_msf m s f ≡ b → is_msf m s f ≡ false
    decided true e = absurd (n (is_msf_range m s f e))
    decided false e = e

-- ---- exactly the stated ranges convert

pub to_block-at : {m s f : ℕ} → InRange m s f → to_block m s f ≡ block_at (address_of m s f)
unfolding to_block
to_block-at r = when _ _ _ (is_msf_true r)

pub to_block-refused : (m s f : ℕ) → (InRange m s f → ⊥) → to_block m s f ≡ block_refused
unfolding to_block
to_block-refused m s f n = unless _ _ _ (is_msf_false m s f n)

pub to_msf-at : (a : ℕ) → a ≤ last → to_msf a ≡ msf_at (minute_of a) (second_of a) (frame_of a)
unfolding to_msf
to_msf-at a h = when _ _ _ (le-leb a last h)

pub to_msf-refused : (a : ℕ) → last < a → to_msf a ≡ msf_refused
unfolding to_msf
to_msf-refused a h = unless _ _ _ (lt-leb a last h)

-- a block's M:S:F is in the range of rule 6
pub to_msf_range : (a : ℕ) → a ≤ last → InRange (minute_of a) (second_of a) (frame_of a)
to_msf_range a h = record { minute = omega arith; second = omega arith; frame = omega arith; lead = omega arith }

-- an M:S:F in the range has an address up to 449,849
pub to_block_range : {m s f : ℕ} → InRange m s f → address_of m s f ≤ last
to_block_range {m} {s} {f} r = let a = r.minute in let b = r.second in let c = r.frame in omega arith

-- ---- both round trips

-- from an address to its M:S:F and back
pub to_msf-to_block : (a : ℕ) → a ≤ last → to_block (minute_of a) (second_of a) (frame_of a) ≡ block_at a
to_msf-to_block a h = to_block-at (to_msf_range a h) ∙ ap block_at back
  where
    back : address_of (minute_of a) (second_of a) (frame_of a) ≡ a
    back = omega arith

-- from an M:S:F to its address and back
pub to_block-to_msf : {m s f : ℕ} → InRange m s f → to_msf (address_of m s f) ≡ msf_at m s f
to_block-to_msf {m} {s} {f} r =
    let b = r.second in let c = r.frame in let d = r.lead in
    let e : address_of m s f + 150 ≡ (m * 60 + s) * 75 + f = omega arith in
    let q : (address_of m s f + 150) / 75 ≡ m * 60 + s = omega arith in
    let u : minute_of (address_of m s f) ≡ m = omega arith in
    let v : second_of (address_of m s f) ≡ s = omega arith in
    let w : frame_of (address_of m s f) ≡ f = omega arith in
    to_msf-at (address_of m s f) (to_block_range r) ∙ rw (u, v, w)

-- ---- strictly rising

-- one M:S:F stands before another: by the minute, then the second, then the frame
abbrev pub Earlier : ℕ → ℕ → ℕ → ℕ → ℕ → ℕ → Type 0
Earlier m s f n t g = (m < n) ⊎ ((m ≡ n) × ((s < t) ⊎ ((s ≡ t) × (f < g))))

-- an earlier M:S:F has the lower address
pub to_block-rises : {m s f n t g : ℕ} → InRange m s f → InRange n t g → Earlier m s f n t g → address_of m s f < address_of n t g
to_block-rises {m} {s} {f} {n} {t} {g} p q e =
    let a = p.second in let b = p.frame in let c = p.lead in let d = q.lead in
    ⊎_elim (λ h. omega arith) (λ h. let i = h.0 in ⊎_elim (λ k. omega arith) (λ k. let j = k.0 in let l = k.1 in omega arith) h.1) e

-- a lower address has the earlier M:S:F
pub to_msf-rises : (a b : ℕ) → a < b → b ≤ last → Earlier (minute_of a) (second_of a) (frame_of a) (minute_of b) (second_of b) (frame_of b)
to_msf-rises a b h k = elim (dec_le (minute_of b) (minute_of a)) [
  | yes p ↦ (let u : minute_of a ≡ minute_of b = omega arith in inr (
    u,
    elim (dec_le (second_of b) (second_of a)) [
      | yes q ↦ (let v : second_of a ≡ second_of b = omega arith in inr (v, omega arith))
      | no q ↦ inl (lt_of_not-le q)
    ],
  ))
  | no p ↦ inl (lt_of_not-le p)
]

-- ---- the answer tells which range it was

pub to_block_accepts : (m s f a : ℕ) → block_at a ≡ to_block m s f → true ≡ is_msf m s f
unfolding to_block choose◌then◌else◌
to_block_accepts m s f a h = decided (is_msf m s f) refl
  where
    decided : (b : Bool) → is_msf m s f ≡ b → true ≡ is_msf m s f
    decided true e = sym e
    decided false e = let z : ◌≡◌ {A = ℕ} 0 refused = ap (λ (r : BlockAnswer). r.number) (h ∙ unless _ _ _ e) in absurd (omega arith)

pub to_block-refuses : (m s f : ℕ) → block_refused ≡ to_block m s f → false ≡ is_msf m s f
unfolding to_block choose◌then◌else◌
to_block-refuses m s f h = decided (is_msf m s f) refl
  where
    decided : (b : Bool) → is_msf m s f ≡ b → false ≡ is_msf m s f
    decided true e = let z : ◌≡◌ {A = ℕ} refused 0 = ap (λ (r : BlockAnswer). r.number) (h ∙ when _ _ _ e) in absurd (omega arith)
    decided false e = sym e

-- so an answer is a block exactly in the range
pub to_block-tells : (m s f : ℕ) (r : Result ℕ OutOfRange) → block_meaning r ≡ to_block m s f → is_ok r ≡ is_msf m s f
to_block-tells m s f (Ok a) e = to_block_accepts _ _ _ a e
to_block-tells m s f (Err o) e = to_block-refuses _ _ _ e

-- ---- shown_address

pub shown_address-length : (msf : Bool) (a : ℕ) → length (shown_address msf a) ≡ 4
unfolding shown_address
shown_address-length msf a = either (λ (l : List ℕ). length l ≡ 4) msf (λ h. refl) (λ h. refl)
