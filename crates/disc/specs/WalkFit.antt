-- The one walk decides fitness: a walk that is kept keeps rules 3 to 7, and that of a fit table is kept.
use Rattle.std.specs.Prelude.{◌≡◌, Bool, true, false, List, ◌∷◌, eqb, length, Err}
use Rattle.std.proofs.Math.Path.{refl}
use Rattle.std.proofs.Common.{sym, ap, ◌∙◌, add-one}
use Prim.Native.Nat.{ℕ, zero, suc, ◌+◌, ◌-◌, ◌≤◌, ◌<◌}
use native.Mathlib.Omega.{arith}
use borrow.Author.Tests.{lt-ltb, eq-eqb, eqb-true, ne_eqb}
use Rattle.ground.specs.Tests.{every, either, and_head, and_tail, and_both, every-at, every-all, or_left, or_right, or_else}
use Rattle.table.specs.Layout.{last_session, descriptors}
use Rattle.table.specs.Row.{row_at, frames_at, row_test}
use Rattle.table.specs.RowLaws.{start_of-frames, headed-A0, headed-A1, row_test_3, row_test_5}
use Rattle.table.specs.AskedLaws.{climbs-low, range-climbs, range-holds, range_least}
use Rattle.sessions.specs.Session.{first, tracks, count, starts, session, before, follows, in_place, in_order}
use Rattle.sessions.specs.SessionLaws.{is_session_true, in_place-follows, rows_before, starts-rows}
use Rattle.disc.specs.Rules.{rule1, rule2, each_row, session_lead_out, track_start, out_before, begins_after, rising, rule7, row_rules, fault, is_fit}
use Rattle.disc.specs.RulesLaws.{first_broken_on, first_broken_off, Fit, same_test, is_fit_true, fit-is_fit, fit-places, fit-end, fit-session}
use Rattle.disc.specs.FitLaws.{row_at-session, locate, session-none, fit-listed, fit-rule, fit-range, fit-rises, fit-begins}
use Rattle.disc.specs.Walk.{floor_at, floor_of, next_of, step_kept, walk_kept, rows_reading}
use Rattle.disc.specs.Disc.{unfit_by, reading}
use Rattle.disc.specs.DiscLaws.{reading_broken}
use Rattle.disc.specs.WalkLaws.{floor_at-next, Sound, session_kept-sound, sound-session_kept, sound-lead, sound-headed, sound-addressed, sound-rises}

-- ---- the track with which a session begins

pub next-follows : (d : List ℕ) (k : ℕ) → eqb (first (session d k)) (next_of d k) ≡ follows k (first (session d k)) (before d k)
unfolding next_of follows before
next-follows d zero = eq-eqb _ _ (ap first (session-none d)) ∙ sym (or_left _ _ refl)
next-follows d (suc k) = sym (or_else _ _ (ne_eqb (suc k) 0 (λ e. omega arith)))

-- ---- n sessions that are kept keep rules 3 to 7

module _ (n : ℕ) (d : List ℕ) (w : every n (step_kept d) ≡ true) where
  kept-sound : {k : ℕ} → k < n → Sound (k + 1) (session d k) (floor_of d k)
  unfolding step_kept
  kept-sound {k} h = session_kept-sound _ _ _ (and_head _ _ (every-at n (step_kept d) w k h))

  kept-floor : (k : ℕ) → k ≤ n → 150 ≤ floor_of d k
  unfolding floor_of
  kept-floor zero h = omega arith
  kept-floor (suc k) h = let l = sound-lead (kept-sound {k = k} (omega arith)) (kept-floor k (omega arith)) in omega arith

  -- each of a session's descriptors passes what rules 3, 5 and 6 ask, and so what any number chooses
  kept-each : (m k i : ℕ) → k < n → i < count (session d k) → row_test m (row_at (session d k) i) ≡ true
  unfolding row_test
  kept-each m k i l g =
      either (λ (x : Bool). x ≡ true) (eqb m 3) (λ _. (kept-sound l).rule3 i g)
      (λ _. either (λ (x : Bool). x ≡ true) (eqb m 5) (λ _. sound-headed (kept-sound l) i g)
      (λ _. sound-addressed (kept-sound l) (kept-floor k (omega arith)) i g))

  -- so do those of them all
  pub kept_rule : (m j : ℕ) → j < rows_before d n → row_test m (row_at d j) ≡ true
  kept_rule m j h =
      let q = locate d n j h in
      rw q.place (ap (row_test m) (sym (row_at-session d q.k q.i)) ∙ kept-each m q.k q.i q.below q.inside)

  pub kept-places : every n (in_place d) ≡ true
  unfolding in_place step_kept
  kept-places =
      every-all _ _ (λ k h. and_both _ _ (is_session_true (kept-sound h).is)
      (sym (next-follows d k) ∙ and_tail _ _ (every-at n (step_kept d) w k h)))

  -- a session begins after the lead-out of the one before
  kept-begins : (k : ℕ) → k < n → begins_after k (out_before d k) (track_start (session d k) 0) ≡ true
  unfolding begins_after out_before floor_of floor_at
  kept-begins zero h = or_left _ _ refl
  kept-begins (suc k) h =
      let o = kept-sound h in
      let v = o.is.order in
      let r = climbs-low (row_at (session d (suc k)) 3) (frames_at (session d k) 2 + 1) (o.rise 0 (omega arith)) in
      let l = sound-lead (kept-sound {k = k} (omega arith)) (kept-floor k (omega arith)) in
      let p = start_of-frames (row_at (session d k) 2) in
      let q = start_of-frames (row_at (session d (suc k)) 3) in
      or_right _ _ (lt-ltb (session_lead_out (session d k)) (track_start (session d (suc k)) 0) (omega arith))

  pub kept-rising : every n (rising d) ≡ true
  unfolding rising
  kept-rising = every-all _ _ (λ k h. and_both _ _ (sound-rises (kept-sound h) (kept-floor k (omega arith))) (kept-begins k h))

-- ---- a walk that is kept keeps rules 3 to 7

module _ (n : ℕ) (d : List ℕ) (w : walk_kept n d ≡ true) where
  walk_steps : every n (step_kept d) ≡ true
  unfolding walk_kept
  walk_steps = and_head _ _ w

  walk_end : starts d n ≡ length d
  unfolding walk_kept
  walk_end = eqb-true _ _ (and_tail _ _ w)

  -- rules 3, 5 and 6: every descriptor is one of its sessions'
  pub walk-rule : (m : ℕ) → each_row m d ≡ true
  unfolding each_row
  walk-rule m =
      every-all _ _ (λ j h. kept_rule n d walk_steps m j (let e = walk_end in let s = starts-rows d n in omega arith))

  pub walk-rule4 : in_order n d ≡ true
  unfolding in_order
  walk-rule4 = and_both _ _ (kept-places n d walk_steps) (eq-eqb _ _ walk_end)

  pub walk-rule7 : rule7 n d ≡ true
  unfolding rule7
  walk-rule7 = kept-rising n d walk_steps

-- ---- the walk of a fit table is kept

module _ {t : List ℕ} (f : Fit t) where
  -- a session's first track starts past the lead-out before it
  fit-floor : (k : ℕ) → k < last_session t → floor_of (descriptors t) k ≤ frames_at (session (descriptors t) k) 3
  unfolding floor_of
  fit-floor zero h =
      let s = (fit-session f h).order in range_least _ (fit-range f {k = 0} {i = 3} h (omega arith) (omega arith))
  fit-floor (suc k) h =
      let b : session_lead_out (session (descriptors t) k) < track_start (session (descriptors t) (suc k)) 0 = rw (add-one k) at
      (fit-begins f k (omega arith)) in
      let p = start_of-frames (row_at (session (descriptors t) k) 2) in
      let q = start_of-frames (row_at (session (descriptors t) (suc k)) 3) in
      omega arith

  fit-rise : {k : ℕ} → k < last_session t → (m : ℕ) → m < tracks (session (descriptors t) k)
      → floor_at (session (descriptors t) k) (floor_of (descriptors t) k) m ≤ frames_at (session (descriptors t) k) (3 + m)
  unfolding floor_at
  fit-rise {k} h zero l = fit-floor k h
  fit-rise {k} h (suc m) l =
      let r = (fit-rises f h).tracks m (suc m) (omega arith) l in
      let p = start_of-frames (row_at (session (descriptors t) k) (3 + m)) in
      let q = start_of-frames (row_at (session (descriptors t) k) (3 + suc m)) in
      omega arith

  fit-top : {k : ℕ} → k < last_session t
      → floor_at (session (descriptors t) k) (floor_of (descriptors t) k) (tracks (session (descriptors t) k)) ≤ frames_at
      (session (descriptors t) k) 2
  fit-top {k} h =
      let v = (fit-session f h).order in
      let e : tracks (session (descriptors t) k) ≡ tracks (session (descriptors t) k) - 1 + 1 = omega arith in
      let q = ap (floor_at (session (descriptors t) k) (floor_of (descriptors t) k)) e
      ∙ floor_at-next (session (descriptors t) k) (floor_of (descriptors t) k) (tracks (session (descriptors t) k) - 1) in
      let r = (fit-rises f h).lead (tracks (session (descriptors t) k) - 1) (omega arith) in
      let u = start_of-frames (row_at (session (descriptors t) k) (3 + (tracks (session (descriptors t) k) - 1))) in
      let w = start_of-frames (row_at (session (descriptors t) k) 2) in
      omega arith

  fit-sound : {k : ℕ} → k < last_session t → Sound (k + 1) (session (descriptors t) k) (floor_of (descriptors t) k)
  fit-sound {k} h = record {
    is = fit-session f h;
    rule3 = λ i l. sym (row_test_3 _) ∙ fit-rule f 3 f.rule3 h l;
    head0 = sym (headed-A0 _ (fit-listed f h).a0.point) ∙ sym (row_test_5 _) ∙ fit-rule f 5 f.rule5 {k = k} {i = 0} h (omega arith);
    head1 = sym (headed-A1 _ (fit-listed f h).a1.point) ∙ sym (row_test_5 _) ∙ fit-rule f 5 f.rule5 {k = k} {i = 1} h (omega arith);
    rise = λ m l. range-climbs _ _ (fit-range f {k = k} {i = 3 + m} h (omega arith) (omega arith)) (fit-rise h m l);
    lead = range-holds _ _ (fit-range f {k = k} {i = 2} h (omega arith) (omega arith)) (fit-top h);
  }

  pub fit-walk : walk_kept (last_session t) (descriptors t) ≡ true
  unfolding walk_kept step_kept
  fit-walk =
      and_both _ _ (every-all _ _ (λ k h. and_both _ _ (sound-session_kept _ _ _ (fit-sound h))
      (next-follows (descriptors t) k ∙ in_place-follows (descriptors t) k (every-at _ _ (fit-places f) k h)))) (eq-eqb _ _ (fit-end f))

-- ---- the walk decides fitness

pub walk_fit : (t : List ℕ) → rule1 t ≡ true → rule2 t ≡ true → walk_kept (last_session t) (descriptors t) ≡ is_fit t
walk_fit t h g = same_test _ _
    (λ w. fit-is_fit (record {
      rule1 = h;
      rule2 = g;
      rule3 = walk-rule _ _ w 3;
      rule4 = walk-rule4 _ _ w;
      rule5 = walk-rule _ _ w 5;
      rule6 = walk-rule _ _ w 6;
      rule7 = walk-rule7 _ _ w;
    })) (λ e. fit-walk (is_fit_true e))

-- ---- what the walk answers is the reading

pub reading_walk : (t : List ℕ) → rule1 t ≡ true → rule2 t ≡ true → rows_reading (last_session t) (descriptors t) ≡ reading t
unfolding rows_reading reading fault
reading_walk t h g =
    let e = first_broken_on 1 _ (rule2 t ∷ row_rules (last_session t) (descriptors t)) h
    (first_broken_on 2 _ (row_rules (last_session t) (descriptors t)) g refl) in
    rw (walk_fit t h g, e)

pub reading_1 : (t : List ℕ) → rule1 t ≡ false → Err (unfit_by 1) ≡ reading t
unfolding fault
reading_1 t h = reading_broken t (first_broken_off 1 _ _ h) (omega arith)

pub reading_2 : (t : List ℕ) → rule1 t ≡ true → rule2 t ≡ false → Err (unfit_by 2) ≡ reading t
unfolding fault
reading_2 t h g = reading_broken t (first_broken_on 1 _ _ h (first_broken_off 2 _ _ g)) (omega arith)
