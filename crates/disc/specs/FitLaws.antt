-- What a fit table's descriptors are: where each stands, which POINT it has, which tracks there are, and how the addresses rise.
use Rattle.std.specs.Prelude.{◌≡◌, refl, true, List, ℕ, zero, suc, ◌+◌, ◌-◌, ◌*◌, ◌≤◌, ◌<◌, ltb}
use Rattle.std.proofs.Common.{sym, ◌∙◌, arith, add-one, lt_of_not-le}
use Rattle.std.proofs.Math.Path.{ap}
use Rattle.std.proofs.Math.Decide.{dec_le, ℕ_discrete}
use borrow.Author.Tests.{ltb-true, eq-eqb, eqb-true, ne_eqb}
use Rattle.ground.specs.Tests.{and_head, and_tail, every-at, or_left, or_right, or_else}
use Rattle.address.specs.Laws.{InRange, to_block_range}
use Rattle.table.specs.Layout.{row, last_session, descriptors, rows, point_at, pmin_at, psec_at, pframe_at, A0, A1, A2, B0, C0, is_track}
use Rattle.table.specs.Row.{row_from, row_at, start_of, address_at, row_test}
use Rattle.table.specs.RowLaws.{row_from-drop, is_track_true, addressed_range, row_test_6}
use Rattle.table.specs.declared.row.Row.{Row}
use Rattle.sessions.specs.Session.{first, last, tracks, count, starts, session, follows}
use Rattle.sessions.specs.SessionLaws.{extras-most, extras_each, starts_none, Listed, listed_parts, in_place-follows, before-next, rows_before, rows_before-next, starts-rows}
use Rattle.disc.specs.Rules.{each_row, session_lead_out, track_start, rises, out_before, begins_after, rising, rule7}
use Rattle.disc.specs.RulesLaws.{Fit, out_before-next, fit-numbered, fit-places, fit-end-rows, fit-session, fit-last}
use Rattle.disc.specs.Disc.{last_part}

-- ---- where the descriptors of a session stand among all

-- descriptor i of the session after k others is descriptor rows_before d k + i
pub row_at-session : (d : List ℕ) (k i : ℕ) → row_at (session d k) i ≡ row_at d (rows_before d k + i)
row_at-session d k i = row_from-drop d (starts d k) (row * i) ∙ ap (row_from d) (let e = starts-rows d k in omega arith)

pub point_at-session : (d : List ℕ) (k i : ℕ) → point_at (session d k) i ≡ point_at d (rows_before d k + i)
point_at-session d k i = ap (λ (r : Row). r.point) (row_at-session d k i)

pub address_at-session : (d : List ℕ) (k i : ℕ) → address_at (session d k) i ≡ address_at d (rows_before d k + i)
address_at-session d k i = ap start_of (row_at-session d k i)

-- a session's descriptors end where the next one's begin
pub rows_before_up : (d : List ℕ) (k n : ℕ) → k < n → rows_before d k + count (session d k) ≤ rows_before d n
unfolding rows_before
rows_before_up d k zero h = absurd (omega arith)
rows_before_up d k (suc n) h = elim (ℕ_discrete k n) [
  | yes e ↦ rw e (omega arith)
  | no e ↦ (let l = rows_before_up d k n (omega arith) in omega arith)
]

-- the place of descriptor j of n sessions: it is descriptor i of the session after k others
pub record Place (d : List ℕ) (n j : ℕ) : Type 0 where
  pub k : ℕ
  pub i : ℕ
  pub below : k < n
  pub inside : i < count (session d k)
  pub place : j ≡ rows_before d k + i

pub locate : (d : List ℕ) (n j : ℕ) → j < rows_before d n → Place d n j
unfolding rows_before
locate d zero j h = absurd (omega arith)
locate d (suc n) j h = elim (dec_le (rows_before d n) j) [
  | yes l ↦ record { k = n; i = j - rows_before d n; below = omega arith; inside = omega arith; place = omega arith }
  | no l ↦ (let p = locate d n j (lt_of_not-le l) in
      record { k = p.k; i = p.i; below = let b = p.below in omega arith; inside = p.inside; place = p.place })
]

-- ---- which POINT each has

-- descriptor i of a session: A0, A1, A2, the track after m others, or past the tracks B0h or C0h
pub data Kind (s : List ℕ) (i : ℕ) : Type 0 where
  is_a0 : i ≡ 0 → point_at s i ≡ A0 → Kind s i
  is_a1 : i ≡ 1 → point_at s i ≡ A1 → Kind s i
  is_a2 : i ≡ 2 → point_at s i ≡ A2 → Kind s i
  is_track_after : (m : ℕ) → i ≡ 3 + m → m < tracks s → point_at s i ≡ first s + m → Kind s i
  is_b0 : 3 + tracks s ≤ i → point_at s i ≡ B0 → Kind s i
  is_c0 : 3 + tracks s ≤ i → point_at s i ≡ C0 → Kind s i

pub listed-kind : {s : List ℕ} {k : ℕ} → Listed s k (first s) (tracks s) → (i : ℕ) → i < count s → Kind s i
listed-kind {s} {k} l i h = elim (dec_le 3 i) [
  | yes g ↦ elim (dec_le (3 + tracks s) i) [
    | yes f ↦ extras_each s (λ j. 3 + tracks s ≤ j → Kind s j) (λ e l. is_b0 l e) (λ e l. is_c0 l e) i f h f
    | no f ↦ (let b : i - 3 < tracks s = let q = lt_of_not-le f in omega arith in let e : i ≡ 3 + (i - 3) = omega arith in
        is_track_after (i - 3) e b (ap (point_at s) e ∙ (l.track (i - 3) b).point))
  ]
  | no g ↦ head (lt_of_not-le g)
]
  where
    head : i < 3 → Kind s i
    head g = elim (ℕ_discrete i 0) [
      | yes e ↦ is_a0 e (ap (point_at s) e ∙ l.a0.point)
      | no e ↦ elim (ℕ_discrete i 1) [
        | yes f ↦ is_a1 f (ap (point_at s) f ∙ l.a1.point)
        | no f ↦ (let z : i ≡ 2 = omega arith in is_a2 z (ap (point_at s) z ∙ l.a2.point))
      ]
    ]

-- ---- what rule 7 gives of one session

-- numbers that rise at each step rise
pub steps_rise : (f : ℕ → ℕ) (n : ℕ) → ((i : ℕ) → i < n → f i < f (i + 1)) → (i j : ℕ) → i < j → j ≤ n → f i < f j
steps_rise f n h i zero l g = absurd (omega arith)
steps_rise f n h i (suc j) l g =
    let s : f j < f (suc j) = rw (add-one j) at (h j (omega arith)) in
    elim (ℕ_discrete i j) [
      | yes e ↦ rw e s
      | no e ↦ (let r = steps_rise f n h i j (omega arith) (omega arith) in omega arith)
    ]

-- the starts of the n tracks of the session that s begins with rise, and lie before its lead-out
pub record Rises (s : List ℕ) (n : ℕ) : Type 0 where
  pub tracks : (i j : ℕ) → i < j → j < n → track_start s i < track_start s j
  pub lead : (i : ℕ) → i < n → track_start s i < session_lead_out s

pub rises_parts : {s : List ℕ} {n : ℕ} → rises s n ≡ true → Rises s n
unfolding rises
rises_parts {s} {n} h = record {
  tracks = λ i j l g. up i j l (omega arith);
  lead = λ i l. elim (ℕ_discrete i (n - 1)) [
    | yes e ↦ rw e top
    | no e ↦ (let u = up i (n - 1) (omega arith) (omega arith) in let v = top in omega arith)
  ];
}
  where
    up : (i j : ℕ) → i < j → j ≤ n - 1 → track_start s i < track_start s j
    up =
        steps_rise (track_start s) (n - 1)
        (λ i l. ltb-true _ _ (every-at (n - 1) (λ m. ltb (track_start s m) (track_start s (m + 1))) (and_head _ _ h) i l))

    top : track_start s (n - 1) < session_lead_out s
    top = ltb-true _ _ (and_tail _ _ h)

-- ---- the first session begins at the table's first descriptor

pub session-none : (d : List ℕ) → session d 0 ≡ d
unfolding starts
session-none d = refl

-- the first and the last track of the disc
pub record Span (t : List ℕ) : Type 0 where
  pub low : 1 ≤ first (descriptors t)
  pub order : first (descriptors t) ≤ last (last_part t)
  pub high : last (last_part t) ≤ 99

-- ---- a fit table's descriptors

module _ {t : List ℕ} (f : Fit t) where
  -- descriptor i of each session is one of the table's
  pub fit_row : {k i : ℕ} → k < last_session t → i < count (session (descriptors t) k) → rows_before (descriptors t) k + i < rows (descriptors t)
  fit_row {k} {i} h l = let u = rows_before_up (descriptors t) k (last_session t) h in let e = fit-end-rows f in omega arith

  -- and each of the table's is descriptor i of one session
  pub fit-locate : (j : ℕ) → j < rows (descriptors t) → Place (descriptors t) (last_session t) j
  fit-locate j h = locate (descriptors t) (last_session t) j (let e = fit-end-rows f in omega arith)

  pub fit-listed :
      {k : ℕ} → k < last_session t
      → Listed (session (descriptors t) k) (k + 1) (first (session (descriptors t) k)) (tracks (session (descriptors t) k))
  fit-listed h = listed_parts (fit-session f h).lists

  pub fit-kind : {k i : ℕ} → k < last_session t → i < count (session (descriptors t) k) → Kind (session (descriptors t) k) i
  fit-kind {k} {i} h l = listed-kind (fit-listed h) i l

  -- ---- the tracks, from the first to the last with no gap

  -- the next session's first track is the one after the last
  pub fit_next : (k : ℕ) → k + 1 < last_session t → first (session (descriptors t) (k + 1)) ≡ last (session (descriptors t) k) + 1
  unfolding follows
  fit_next k h =
      let o = in_place-follows (descriptors t) (k + 1) (every-at _ _ (fit-places f) (k + 1) h) in
      eqb-true _ _ (sym (or_else _ _ (ne_eqb (k + 1) 0 (λ e. omega arith))) ∙ o) ∙ ap (λ (x : ℕ). x + 1) (before-next (descriptors t) k)

  -- the tracks of a later session come after those of an earlier one
  pub fit-tracks-rise : (k n : ℕ) → k < n → n < last_session t → last (session (descriptors t) k) < first (session (descriptors t) n)
  fit-tracks-rise k zero h l = absurd (omega arith)
  fit-tracks-rise k (suc n) h l =
      let e : first (session (descriptors t) (suc n)) ≡ last (session (descriptors t) n) + 1 = rw (add-one n) at (fit_next n (omega arith)) in
      elim (ℕ_discrete k n) [
        | yes q ↦ rw q (omega arith)
        | no q ↦ (let r = fit-tracks-rise k n (omega arith) (omega arith) in let s = fit-session f {k = n} (omega arith) in let o = s.order in omega arith)
      ]

  -- 1 ≤ the first track ≤ the last ≤ 99
  pub fit-span : Span t
  fit-span =
      let n = fit-numbered f in
      let e : first (session (descriptors t) 0) ≡ first (descriptors t) = ap first (session-none (descriptors t)) in
      let l : last (session (descriptors t) 0) ≡ last (descriptors t) = ap last (session-none (descriptors t)) in
      let a = fit-session f {k = 0} (omega arith) in
      let b = fit-last f in
      let u = a.low in let v = a.order in let w = b.order in
      record {
        low = omega arith;
        order = elim (ℕ_discrete (last_session t - 1) 0) [
          | yes q ↦ (let z : last (last_part t) ≡ last (session (descriptors t) 0) = ap (λ (x : ℕ). last (session (descriptors t) x)) q in omega arith)
          | no q ↦ (let r = fit-tracks-rise 0 (last_session t - 1) (omega arith) (omega arith) in omega arith)
        ];
        high = b.high;
      }

  -- how many descriptors: three to five for each session and one for each track
  pub fit-count-below :
      (k : ℕ) → k < last_session t
      → (3 * (k + 1) + (last (session (descriptors t) k) + 1) ≤ rows_before (descriptors t) (k + 1) + first (descriptors t))
      × (rows_before (descriptors t) (k + 1) + first (descriptors t) ≤ 5 * (k + 1) + (last (session (descriptors t) k) + 1))
  fit-count-below zero h =
      let s = fit-session f {k = 0} (omega arith) in
      let o = s.order in
      let n = rows_before-next (descriptors t) 0 in
      let m = extras-most (session (descriptors t) 0) in
      let z = starts-rows (descriptors t) 0 in
      let y = starts_none (descriptors t) in
      let e : first (session (descriptors t) 0) ≡ first (descriptors t) = ap first (session-none (descriptors t)) in
      (omega arith, omega arith)
  fit-count-below (suc k) h =
      let r :
      (3 * suc k + (last (session (descriptors t) k) + 1) ≤ rows_before (descriptors t) (suc k) + first (descriptors t))
      × (rows_before (descriptors t) (suc k) + first (descriptors t) ≤ 5 * suc k + (last (session (descriptors t) k) + 1)) =
      rw (add-one k) at (fit-count-below k (omega arith)) in
      let s = fit-session f {k = suc k} (omega arith) in
      let o = s.order in
      let n = rows_before-next (descriptors t) (suc k) in
      let m = extras-most (session (descriptors t) (suc k)) in
      let e : first (session (descriptors t) (suc k)) ≡ last (session (descriptors t) k) + 1 = rw (add-one k) at (fit_next k (omega arith)) in
      (omega arith, omega arith)

  pub fit_count :
      (3 * last_session t + (last (last_part t) + 1) ≤ rows (descriptors t) + first (descriptors t))
      × (rows (descriptors t) + first (descriptors t) ≤ 5 * last_session t + (last (last_part t) + 1))
  fit_count =
      let n = fit-numbered f in
      let e : last_session t - 1 + 1 ≡ last_session t = omega arith in
      let r = fit-count-below (last_session t - 1) (omega arith) in
      let q = fit-end-rows f in
      rw (e, q) at r

  -- "(594 descriptors)": shown by sessions and tracks, and not by the bound
  pub fit-most : rows (descriptors t) ≤ 594
  fit-most = let n = fit-numbered f in let s = fit-span in let c = fit_count in omega arith

  -- ---- the addresses

  -- descriptor i of a session passes what each of the table's does
  pub fit-rule :
      (n : ℕ) → each_row n (descriptors t) ≡ true → {k i : ℕ} → k < last_session t → i < count (session (descriptors t) k)
      → row_test n (row_at (session (descriptors t) k) i) ≡ true
  unfolding each_row
  fit-rule n e {k} {i} h l =
      ap (row_test n) (row_at-session (descriptors t) k i)
      ∙ every-at (rows (descriptors t)) (λ j. row_test n (row_at (descriptors t) j)) e _ (fit_row h l)

  -- "A2 (lead-out) and every track hold an address from 00:02:00 to 99:59:74"
  pub fit-range : {k i : ℕ} → k < last_session t → 2 ≤ i → i < 3 + tracks (session (descriptors t) k)
      → InRange (pmin_at (session (descriptors t) k) i) (psec_at (session (descriptors t) k) i) (pframe_at (session (descriptors t) k) i)
  fit-range {k} {i} h g l =
      let s = fit-session f h in
      addressed_range (row_at (session (descriptors t) k) i) (sym (row_test_6 _) ∙ fit-rule 6 f.rule6 h (omega arith))
      (elim (fit-kind {k = k} {i = i} h (omega arith)) [
        | is_a0 e p ↦ absurd (omega arith)
        | is_a1 e p ↦ absurd (omega arith)
        | is_a2 e p ↦ or_left _ _ (eq-eqb _ _ p)
        | is_track_after m e b p ↦ or_right _ _ (ap is_track p ∙ is_track_true (first (session (descriptors t) k) + m)
            (let u = s.low in omega arith) (let u = s.high in let v = s.order in omega arith))
        | is_b0 e p ↦ absurd (omega arith)
        | is_c0 e p ↦ absurd (omega arith)
      ])

  pub fit-address :
      {k i : ℕ} → k < last_session t → 2 ≤ i → i < 3 + tracks (session (descriptors t) k) → address_at (session (descriptors t) k) i ≤ 449849
  unfolding start_of
  fit-address h g l = to_block_range (fit-range h g l)

  -- within a session the tracks' starts rise, up to its lead-out
  pub fit-rises : {k : ℕ} → k < last_session t → Rises (session (descriptors t) k) (tracks (session (descriptors t) k))
  unfolding rule7 rising
  fit-rises {k} h = rises_parts (and_head _ _ (every-at _ _ f.rule7 k h))

  -- and the next session's first track starts after it
  pub fit-begins : (k : ℕ) → k + 1 < last_session t → session_lead_out (session (descriptors t) k) < track_start (session (descriptors t) (k + 1)) 0
  unfolding rule7 rising begins_after
  fit-begins k h =
      let b : out_before (descriptors t) (k + 1) < track_start (session (descriptors t) (k + 1)) 0 =
      ltb-true _ _ (sym (or_else _ _ (ne_eqb (k + 1) 0 (λ e. omega arith))) ∙ and_tail _ _ (every-at _ _ f.rule7 (k + 1) h)) in
      rw (out_before-next (descriptors t) k) at b

  -- so every track starts after the lead-out of every session before its own
  pub fit_apart : (k n : ℕ) → k < n → n < last_session t → (i : ℕ) → i < tracks (session (descriptors t) n)
      → session_lead_out (session (descriptors t) k) < track_start (session (descriptors t) n) i
  fit_apart k n h l i g = elim (ℕ_discrete i 0) [
    | yes e ↦ rw e (begins k n h l)
    | no e ↦ (let b = begins k n h l in let r = (fit-rises l).tracks 0 i (omega arith) g in omega arith)
  ]
    where
      begins : (k n : ℕ) → k < n → n < last_session t → session_lead_out (session (descriptors t) k) < track_start (session (descriptors t) n) 0
      begins k zero h l = absurd (omega arith)
      begins k (suc n) h l =
          let b : session_lead_out (session (descriptors t) n) < track_start (session (descriptors t) (suc n)) 0 = rw (add-one n) at
          (fit-begins n (omega arith)) in
          elim (ℕ_discrete k n) [
            | yes e ↦ rw e b
            | no e ↦ (let r = begins k n (omega arith) (omega arith) in let u = (fit-rises {k = n} (omega arith)).lead 0 (let s = fit-session f {k = n} (omega arith) in let o = s.order in omega arith) in omega arith)
          ]

  -- the last lead-out, L, is 1 to 449,849: a track starts before it
  pub fit-lead-out : (1 ≤ session_lead_out (last_part t)) × (session_lead_out (last_part t) ≤ 449849)
  fit-lead-out =
      let n = fit-numbered f in
      let h : last_session t - 1 < last_session t = omega arith in
      let s = fit-last f in
      let o = s.order in
      let u = (fit-rises h).lead 0 (omega arith) in
      (omega arith, fit-address {k = last_session t - 1} {i = 2} h (omega arith) (omega arith))
