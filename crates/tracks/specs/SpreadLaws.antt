-- The descriptors of a fit table are spread as the run test needs: so it tells of every block of the run.
use Rattle.std.specs.Prelude.{◌≡◌, true, false, List, ℕ, zero, suc, ◌+◌, ◌≤◌, ◌<◌}
use Rattle.std.proofs.Common.{sym, ap, ◌∙◌, arith, lt_of_not-le}
use Rattle.std.proofs.Math.Decide.{dec_le, ℕ_discrete}
use Rattle.table.specs.Layout.{last_session, descriptors, rows, point_at, A0, A1, A2, B0, C0, is_track}
use Rattle.table.specs.Row.{address_at}
use Rattle.table.specs.RowLaws.{is_track-over}
use Rattle.sessions.specs.Session.{tracks, session}
use Rattle.sessions.specs.SessionLaws.{rows_before}
use Rattle.disc.specs.Rules.{session_lead_out, track_start}
use Rattle.disc.specs.RulesLaws.{Fit, fit-session}
use Rattle.disc.specs.FitLaws.{point_at-session, address_at-session, Place, Kind, is_a0, is_a1, is_a2, is_track_after, is_b0, is_c0, fit-locate, fit-listed, fit-kind, fit-rises, fit_apart}
use Rattle.tracks.specs.Track.{out_at, all_in, run_is}
use Rattle.tracks.specs.declared.track.Mode.{Mode}
use Rattle.tracks.specs.TrackLaws.{next_out-here, next_out_on, out_at-next}
use Rattle.tracks.specs.RunLaws.{Spread, run_agrees}

-- descriptor j is the track after m others of the session after k others
pub record TrackRow (t : List ℕ) (j : ℕ) : Type 0 where
  pub k : ℕ
  pub m : ℕ
  pub below : k < last_session t
  pub inside : m < tracks (session (descriptors t) k)
  pub place : j ≡ rows_before (descriptors t) k + (3 + m)
  pub start : address_at (descriptors t) j ≡ track_start (session (descriptors t) k) m
  pub out : out_at (descriptors t) j ≡ session_lead_out (session (descriptors t) k)

-- descriptor j is the lead-out of the session after k others
pub record LeadRow (t : List ℕ) (j : ℕ) : Type 0 where
  pub k : ℕ
  pub below : k < last_session t
  pub lead : address_at (descriptors t) j ≡ session_lead_out (session (descriptors t) k)

module _ {t : List ℕ} (f : Fit t) where
  -- from a session's A2 on its address is the lead-out of each descriptor
  pub fit-out :
      {k : ℕ} → k < last_session t → (m : ℕ) → m ≤ tracks (session (descriptors t) k)
      → out_at (descriptors t) (rows_before (descriptors t) k + (3 + m)) ≡ session_lead_out (session (descriptors t) k)
  fit-out {k} h zero l =
      let e : rows_before (descriptors t) k + (3 + 0) ≡ rows_before (descriptors t) k + 2 + 1 = omega arith in
      rw e (out_at-next (descriptors t) (rows_before (descriptors t) k + 2)
      ∙ next_out-here _ (sym (point_at-session (descriptors t) k 2) ∙ (fit-listed f h).a2.point)
      ∙ sym (address_at-session (descriptors t) k 2))
  fit-out {k} h (suc m) l =
      let e : rows_before (descriptors t) k + (3 + suc m) ≡ rows_before (descriptors t) k + (3 + m) + 1 = omega arith in
      let s = fit-session f h in
      let p = sym (point_at-session (descriptors t) k (3 + m)) ∙ ((fit-listed f h).track m (omega arith)).point in
      rw e (out_at-next (descriptors t) (rows_before (descriptors t) k + (3 + m))
      ∙ next_out_on _ (λ q. let u = s.high in let v = s.order in omega arith)
      ∙ fit-out h m (omega arith))

  -- a descriptor with a track's number is a track of one session
  pub fit-track-row : (j : ℕ) → j < rows (descriptors t) → is_track (point_at (descriptors t) j) ≡ true → TrackRow t j
  fit-track-row j l h = told (fit-kind f p.below p.inside)
    where
      p : Place (descriptors t) (last_session t) j
      p = fit-locate f j l

      point : point_at (session (descriptors t) p.k) p.i ≡ point_at (descriptors t) j
      point = point_at-session (descriptors t) p.k p.i ∙ ap (point_at (descriptors t)) (sym p.place)

      never : (a : ℕ) → is_track a ≡ false → point_at (session (descriptors t) p.k) p.i ≡ a → TrackRow t j
      never a e q =
          let w : is_track a ≡ true = rw (sym point ∙ q) at h in let z : ◌≡◌ {A = ℕ} 0 1 = cc in absurd (omega arith)

      told : Kind (session (descriptors t) p.k) p.i → TrackRow t j
      told (is_a0 e q) = never A0 (is_track-over A0 (omega arith)) q
      told (is_a1 e q) = never A1 (is_track-over A1 (omega arith)) q
      told (is_a2 e q) = never A2 (is_track-over A2 (omega arith)) q
      told (is_b0 e q) = never B0 (is_track-over B0 (omega arith)) q
      told (is_c0 e q) = never C0 (is_track-over C0 (omega arith)) q
      told (is_track_after m e b q) =
          let w : j ≡ rows_before (descriptors t) p.k + (3 + m) = p.place ∙ ap (λ (x : ℕ). rows_before (descriptors t) p.k + x) e in
          record {
            k = p.k;
            m = m;
            below = p.below;
            inside = b;
            place = w;
            start = ap (address_at (descriptors t)) w ∙ sym (address_at-session (descriptors t) p.k (3 + m));
            out = ap (out_at (descriptors t)) w ∙ fit-out p.below m (omega arith);
          }

  -- a descriptor with POINT A2h is the lead-out of one session
  pub fit-lead-row : (j : ℕ) → j < rows (descriptors t) → point_at (descriptors t) j ≡ A2 → LeadRow t j
  fit-lead-row j l h = told (fit-kind f p.below p.inside)
    where
      p : Place (descriptors t) (last_session t) j
      p = fit-locate f j l

      point : point_at (session (descriptors t) p.k) p.i ≡ A2
      point = point_at-session (descriptors t) p.k p.i ∙ ap (point_at (descriptors t)) (sym p.place) ∙ h

      told : Kind (session (descriptors t) p.k) p.i → LeadRow t j
      told (is_a0 e q) = let w = point in absurd (omega arith)
      told (is_a1 e q) = let w = point in absurd (omega arith)
      told (is_a2 e q) = record {
        k = p.k;
        below = p.below;
        lead =
            ap (address_at (descriptors t)) (p.place ∙ ap (λ (x : ℕ). rows_before (descriptors t) p.k + x) e)
            ∙ sym (address_at-session (descriptors t) p.k 2);
      }
      told (is_track_after m e b q) =
          let s = fit-session f p.below in let w = point in let u = s.high in let v = s.order in absurd (omega arith)
      told (is_b0 e q) = let w = point in absurd (omega arith)
      told (is_c0 e q) = let w = point in absurd (omega arith)

  -- a track starts before its session's lead-out
  row-lead : {j : ℕ} → (r : TrackRow t j) → address_at (descriptors t) j < session_lead_out (session (descriptors t) r.k)
  row-lead r = rw r.start ((fit-rises f r.below).lead r.m r.inside)

  -- and after the lead-out of every session before
  row-after : {j : ℕ} → (r : TrackRow t j) → (k : ℕ) → k < r.k → session_lead_out (session (descriptors t) k) < address_at (descriptors t) j
  row-after r k h = rw r.start (fit_apart f k r.k h r.below r.m r.inside)

  -- a later track of a session starts later
  row-rises : {i j : ℕ} → (p : TrackRow t i) → (q : TrackRow t j) → p.k ≡ q.k → p.m < q.m → address_at (descriptors t) i < address_at (descriptors t) j
  row-rises p q e h =
      rw (p.start, q.start, e)
      ((fit-rises f q.below).tracks p.m q.m h q.inside)

  -- of two tracks of one session only one starts at a block
  row_within : {i j : ℕ} → (p : TrackRow t i) → (q : TrackRow t j) → p.k ≡ q.k → address_at (descriptors t) i ≡ address_at (descriptors t) j → i ≡ j
  row_within p q e a = elim (ℕ_discrete p.m q.m) [
    | yes g ↦ p.place ∙ (rw (e, g) (sym q.place))
    | no g ↦ elim (dec_le p.m q.m) [
      | yes l ↦ let u = row-rises p q e (omega arith) in absurd (omega arith)
      | no l ↦ let u = row-rises q p (sym e) (lt_of_not-le l) in absurd (omega arith)
    ]
  ]

  -- and of any two
  row-distinct : {i j : ℕ} → TrackRow t i → TrackRow t j → address_at (descriptors t) i ≡ address_at (descriptors t) j → i ≡ j
  row-distinct p q a = elim (ℕ_discrete p.k q.k) [
    | yes e ↦ row_within p q e a
    | no e ↦ elim (dec_le p.k q.k) [
      | yes l ↦ let u = row-after q p.k (omega arith) in let v = row-lead p in absurd (omega arith)
      | no l ↦ let u = row-after p q.k (lt_of_not-le l) in let v = row-lead q in absurd (omega arith)
    ]
  ]

  -- a session's lead-out is no later than that of a session after it
  pub fit-leads-rise : (k n : ℕ) → k ≤ n → n < last_session t → session_lead_out (session (descriptors t) k) ≤ session_lead_out (session (descriptors t) n)
  fit-leads-rise k n h l = elim (ℕ_discrete k n) [
    | yes e ↦ rw e (omega arith)
    | no e ↦ let s = fit-session f l in
        let o = s.order in
        let u = fit_apart f k n (omega arith) l 0 (omega arith) in
        let v = (fit-rises f l).lead 0 (omega arith) in omega arith
  ]

  row-clear : {i j : ℕ} → (p : TrackRow t i) → (q : LeadRow t j) → address_at (descriptors t) i ≤ address_at (descriptors t) j
      → out_at (descriptors t) i ≤ address_at (descriptors t) j
  row-clear p q h = elim (dec_le p.k q.k) [
    | yes l ↦ rw (p.out, q.lead) (fit-leads-rise p.k q.k l q.below)
    | no l ↦ let u = row-after p q.k (lt_of_not-le l) in let e = q.lead in absurd (omega arith)
  ]

  -- "track starts rise strictly, a session's last track starts before its lead-out, and the next session's first track after that lead-out"
  pub fit-spread : Spread (descriptors t)
  fit-spread = record {
    distinct = λ i j l g h k. row-distinct (fit-track-row i l h) (fit-track-row j g k);
    starts = λ i l h. let r = fit-track-row i l h in rw r.out (row-lead r);
    clear = λ i j l g h k. row-clear (fit-track-row i l h) (fit-lead-row j g k);
  }

  -- of a fit table the run test is that every one of the n blocks from a on lies in a track of the mode
  pub fit-run-agrees : (mode : Mode) (a n : ℕ) → run_is mode (descriptors t) a n ≡ all_in mode (descriptors t) a n
  fit-run-agrees mode = run_agrees mode (descriptors t) fit-spread
