-- The laws of the play record: what moving on does in each case, and that it stays a record that refusal 2 does not meet.
use Rattle.std.specs.Prelude.{◌≡◌, refl, true, ◌||◌, ℕ, ◌+◌, ◌-◌, ◌≤◌, ◌<◌, eqb, ltb, nat_eq}
use Rattle.std.proofs.Common.{sym, ◌∙◌, lt_of_not-le, eq-eqb, ne_eqb, le-leb, leb-true, lt-ltb, le-ltb}
use native.Mathlib.Omega.{arith}
use Rattle.std.proofs.Math.Decide.{dec_le}
use Rattle.ground.specs.Tests.{◌or◌, or_plain, when, unless, either, and_head, and_tail, and_both}
use Rattle.address.specs.Address.{last}
use Rattle.play.specs.declared.Play.{Play}
use Rattle.play.specs.Play.{playing, paused, completed, none, play_of, no_play, with_status, is_status, is_play, onward, moved_on}

-- ---- the four statuses

pub is_status-playing : is_status playing ≡ true
unfolding is_status ◌or◌
is_status-playing = refl

pub is_status-paused : is_status paused ≡ true
unfolding is_status ◌or◌
is_status-paused = refl

pub is_status-none : is_status none ≡ true
unfolding is_status ◌or◌
is_status-none = refl

-- the four, in the library's words
pub is_status_tests : (s : ℕ) → is_status s ≡ (nat_eq s playing || (nat_eq s paused || (nat_eq s completed || nat_eq s none)))
unfolding is_status
is_status_tests s = sym (simp or_plain)

-- ---- what refusal 2 does not meet

-- the three tests
pub record Known (r : Play) : Type 0 where
  pub status : is_status r.status ≡ true
  pub within : r.position ≤ r.end
  pub most : r.end ≤ last

pub is_play_known : (r : Play) → is_play r ≡ true → Known r
unfolding is_play
is_play_known r h =
    let t = and_tail _ _ h in
    record { status = and_head _ _ h; within = leb-true _ _ (and_head _ _ t); most = leb-true _ _ (and_tail _ _ t) }

pub known-is_play : {r : Play} → Known r → is_play r ≡ true
unfolding is_play
known-is_play s = and_both _ _ s.status (and_both _ _ (le-leb _ _ s.within) (le-leb _ _ s.most))

pub no_play_known : Known no_play
no_play_known = record { status = is_status-none; within = omega arith; most = omega arith }

pub with_status_known : {r : Play} (s : ℕ) → is_status s ≡ true → Known r → Known (with_status r s)
with_status_known s h k = record { status = h; within = k.within; most = k.most }

-- ---- moving on

-- k blocks from p on end before e
pub ltb-after : (p k e : ℕ) → p < e → ltb k (e - p) ≡ ltb (p + k) e
ltb-after p k e h = elim (dec_le e (p + k)) [
  | yes l ↦ le-ltb k (e - p) (omega arith) ∙ sym (le-ltb (p + k) e l)
  | no l ↦ let m = lt_of_not-le l in lt-ltb k (e - p) (omega arith) ∙ sym (lt-ltb (p + k) e m)
]

module _ (k : ℕ) (r : Play) where
  pub moved_on-other : (r.status ≡ playing → ⊥) → moved_on k r ≡ r
  unfolding moved_on
  moved_on-other h = unless _ _ _ (ne_eqb _ _ h)

  module _ (p : r.status ≡ playing) where
    pub moved_on-on : r.position + k < r.end → moved_on k r ≡ play_of playing (r.position + k) r.end
    unfolding moved_on
    moved_on-on h =
        let e : onward k r ≡ r.position + k = omega arith in
        when _ _ _ (eq-eqb _ _ p)
        ∙ rw (unless (eqb (onward k r) r.end) completed playing (ne_eqb (onward k r) r.end (λ q. omega arith)), e)

    pub moved_on-ends : r.end ≤ r.position + k → moved_on k r ≡ play_of completed r.end r.end
    unfolding moved_on
    moved_on-ends h =
        let e : onward k r ≡ r.end = omega arith in
        when _ _ _ (eq-eqb _ _ p)
        ∙ rw (when (eqb (onward k r) r.end) completed playing (eq-eqb _ _ e), e)

pub moved_on_known : (k : ℕ) (r : Play) → Known r → Known (moved_on k r)
unfolding moved_on is_status ◌or◌
moved_on_known k r s =
    either Known (eqb r.status playing)
    (λ h. record {
      status = either (λ x. is_status x ≡ true) (eqb (onward k r) r.end) (λ e. refl) (λ e. refl);
      within = let w = s.within in omega arith;
      most = s.most;
    })
    (λ h. s)
