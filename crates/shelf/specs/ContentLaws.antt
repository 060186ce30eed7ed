-- What a fit table adds, by its tracks' lengths: each block from one edge to the next belongs to one track, and each before a session to none.
use Rattle.std.specs.Prelude.{◌≡◌, Bool, true, false, List, leb, ltb, drop}
use Rattle.std.proofs.Math.Path.{refl, sym, ap}
use Rattle.std.proofs.Common.{◌∙◌, add-one, lt_of_not-le, le-leb, lt-ltb, le-ltb}
use Rattle.std.proofs.Math.Bool.{not}
use Prim.Native.Nat.{ℕ, zero, suc, ◌+◌, ◌-◌, ◌≤◌, ◌<◌}
use native.Mathlib.Omega.{arith}
use Rattle.std.proofs.Math.Decide.{dec_le, ℕ_discrete}
use Rattle.std.proofs.lemmas.Bool.{lt-leb}
use Rattle.ground.specs.Tests.{◌and◌, choose◌then◌else◌, and_on, and_off, and_late, when, unless}
use Rattle.table.specs.Layout.{last_session, descriptors, flags_at, point_at, A0, A1, A2, B0, C0, is_track}
use Rattle.table.specs.Row.{address_at}
use Rattle.table.specs.RowLaws.{is_track_true, is_track-over}
use Rattle.table.specs.declared.row.Row.{Row}
use Rattle.sessions.specs.Session.{first, last, tracks, count, size, session}
use Rattle.sessions.specs.SessionLaws.{IsSession, placed_at, Walked, walked_none, walked_next, walked_all, rows_before, rows_before-next, starts_none, starts-rows}
use Rattle.disc.specs.Rules.{session_lead_out, track_start, out_before}
use Rattle.disc.specs.RulesLaws.{Fit, out_before-next, fit-places, fit-numbered, fit-session, fit-end-rows}
use Rattle.disc.specs.FitLaws.{Rises, row_at-session, point_at-session, address_at-session, session-none, Kind, is_a0, is_a1, is_a2, is_track_after, is_b0, is_c0, fit_row, fit-listed, fit-kind, fit_next, fit-rises, fit-begins, fit_apart, fit-address}
use Rattle.disc.specs.Disc.{last_part}
use Rattle.tracks.specs.Track.{is_data, flagged, out_at, no_track, track_at, track_of, is_mode}
use Rattle.tracks.specs.TrackLaws.{track_of_of, track_of_no}
use Rattle.tracks.specs.SpreadLaws.{TrackRow, fit-out, fit-track-row, fit-leads-rise, fit-spread}
use Rattle.tracks.specs.declared.track.Track.{Track}
use Rattle.tracks.specs.declared.track.Mode.{Mode}
use Rattle.tracks.specs.declared.track.Mode.TheVariants.{Data, Audio}
use Rattle.shelf.specs.Count.{sum_below, one_if, count_below}
use Rattle.shelf.specs.CountLaws.{sum-none, sum-next, sum_same, sum-zero, count_none, count_most, count_run, count_three}
use Rattle.shelf.specs.Content.{last_out, tracks_in, blocks_in, is_none}
use Rattle.shelf.specs.Lengths.{edge, track_blocks, mode_blocks, gap_before}
use Rattle.shelf.specs.LengthsLaws.{edge_track, edge-out, edge-rises, edge-most}
use Rattle.shelf.specs.declared.content.Held.{Held}

-- ---- of any table: each block is a data block, an audio block or one of no track

three : (a b : Bool) → one_if (a and b) + one_if (a and not b) + one_if (not a) ≡ 1
unfolding ◌and◌ one_if choose◌then◌else◌
three true true = refl
three true false = refl
three false true = refl
three false false = refl

pub blocks_three : (t : List ℕ) → blocks_in (is_mode Data) t + blocks_in (is_mode Audio) t + blocks_in is_none t ≡ last_out t
unfolding blocks_in is_mode is_none
blocks_three t =
    count_three (last_out t) _ _ _ (λ b l. three (is_track (track_of (descriptors t) b).number) (is_data (track_of (descriptors t) b).flags))

-- ---- the track of each block of a fit table

module _ {t : List ℕ} (f : Fit t) where
  -- the descriptor of the track after i others of the session after k others
  abbrev row_of : ℕ → ℕ → ℕ
  row_of k i = rows_before (descriptors t) k + (3 + i)

  row-track : (k i : ℕ) → k < last_session t → i < tracks (session (descriptors t) k) → is_track (point_at (descriptors t) (row_of k i)) ≡ true
  row-track k i h l =
      let s = fit-session f h in
      let p = sym (point_at-session (descriptors t) k (3 + i)) ∙ ((fit-listed f h).track i l).point in
      rw p (is_track_true _ (let u = s.low in omega arith) (let u = s.high in let v = s.order in omega arith))

  row-start : (k i : ℕ) → address_at (descriptors t) (row_of k i) ≡ track_start (session (descriptors t) k) i
  row-start k i = sym (address_at-session (descriptors t) k (3 + i))

  first-there : {k : ℕ} → k < last_session t → 0 < tracks (session (descriptors t) k)
  first-there h = let s = fit-session f h in let o = s.order in omega arith

  -- a track that starts before the edge behind track i of session k starts no later than it
  no-later :
      (k i b : ℕ) → k < last_session t → i < tracks (session (descriptors t) k)
      → b < edge (session (descriptors t) k) (tracks (session (descriptors t) k)) (i + 1) → {j : ℕ} → TrackRow t j
      → address_at (descriptors t) j ≤ b → address_at (descriptors t) j ≤ track_start (session (descriptors t) k) i
  no-later k i b h l g {j} r q = elim (dec_le k r.k) [
    | no e ↦ (let u = (fit-rises f r.below).lead r.m r.inside in
        let v = fit_apart f r.k k (lt_of_not-le e) h i l in let w = r.start in omega arith)
    | yes e ↦ elim (ℕ_discrete k r.k) [
      | no z ↦ (let u = fit_apart f k r.k (omega arith) r.below r.m r.inside in
          let v = edge-most (session (descriptors t) k) (tracks (session (descriptors t) k)) (i + 1) (fit-rises f h) in
          let w = r.start in absurd (omega arith))
      | yes z ↦ same r.m (rw (sym z) at r.inside) (r.start ∙ ap (λ (x : ℕ). track_start (session (descriptors t) x) r.m) (sym z))
    ]
  ]
    where
      s : List ℕ
      s = session (descriptors t) k

      later : (m : ℕ) → m < tracks s → address_at (descriptors t) j ≡ track_start s m → i < m → address_at (descriptors t) j ≤ track_start s i
      later m d a e =
          let u = edge_track s (tracks s) (i + 1) (omega arith) in
          elim (ℕ_discrete m (i + 1)) [
            | yes z ↦ (let w : address_at (descriptors t) j ≡ track_start s (i + 1) = rw z at a in absurd (omega arith))
            | no z ↦ (let v = (fit-rises f h).tracks (i + 1) m (omega arith) d in absurd (omega arith))
          ]

      same : (m : ℕ) → m < tracks s → address_at (descriptors t) j ≡ track_start s m → address_at (descriptors t) j ≤ track_start s i
      same m d a = elim (dec_le m i) [
        | no e ↦ later m d a (lt_of_not-le e)
        | yes e ↦ elim (ℕ_discrete m i) [
          | yes z ↦ (let w : address_at (descriptors t) j ≡ track_start s i = rw z at a in omega arith)
          | no z ↦ (let u = (fit-rises f h).tracks m i (omega arith) l in omega arith)
        ]
      ]

  -- a block from a track's start up to the next edge belongs to it
  pub fit-track-of :
      (k i b : ℕ) → k < last_session t → i < tracks (session (descriptors t) k)
      → edge (session (descriptors t) k) (tracks (session (descriptors t) k)) i ≤ b
      → b < edge (session (descriptors t) k) (tracks (session (descriptors t) k)) (i + 1)
      → track_of (descriptors t) b ≡ track_at (descriptors t) (row_of k i)
  fit-track-of k i b h l g e =
      let s = session (descriptors t) k in
      let q = edge_track s (tracks s) i l in
      let a = row-start k i in
      let c = row-track k i h l in
      let n = fit_row f {k = k} {i = 3 + i} h (omega arith) in
      track_of_of (descriptors t) b (row_of k i)
      (record {
        listed = n;
        reaches = record { track = c; start = omega arith };
        greatest = λ j d r. (let u = no-later k i b h l e (fit-track-row f j d r.track) r.start in omega arith);
        last = λ j d r z. (let u = (fit-spread f).distinct j (row_of k i) d n r.track c z in omega arith);
      })
      (let o = fit-out f h i (omega arith) in let m = edge-most s (tracks s) (i + 1) (fit-rises f h) in omega arith)

  -- one behind the lead-out before a session and before its first track belongs to none
  pub fit-none-of :
      (k b : ℕ) → k < last_session t → out_before (descriptors t) k ≤ b → b < track_start (session (descriptors t) k) 0
      → track_of (descriptors t) b ≡ no_track
  fit-none-of k b h g e =
      track_of_no (descriptors t) b (λ i w. earlier i (fit-track-row f i w.listed w.reaches.track) w.reaches.start)
    where
      leads : (k : ℕ) → k < last_session t → out_before (descriptors t) k ≤ b → {n : ℕ} → n < k → session_lead_out (session (descriptors t) n) ≤ b
      leads zero h g l = absurd (omega arith)
      leads (suc k) h g {n} l =
          let o : out_before (descriptors t) (suc k) ≡ session_lead_out (session (descriptors t) k) = rw (add-one k) at (out_before-next (descriptors t) k) in
          let u = fit-leads-rise f n k (omega arith) (omega arith) in omega arith

      own : (m : ℕ) {a : ℕ} → m < tracks (session (descriptors t) k) → a ≡ track_start (session (descriptors t) k) m → a ≤ b → ⊥
      own m {a} d q l = elim (ℕ_discrete m 0) [
        | yes z ↦ (let w : a ≡ track_start (session (descriptors t) k) 0 = rw z at q in omega arith)
        | no z ↦ (let u = (fit-rises f h).tracks 0 m (omega arith) d in omega arith)
      ]

      earlier : (i : ℕ) → TrackRow t i → address_at (descriptors t) i ≤ b → out_at (descriptors t) i ≤ b
      earlier i r a = elim (dec_le k r.k) [
        | no z ↦ (let u = leads k h g (lt_of_not-le z) in let v = r.out in omega arith)
        | yes z ↦ elim (ℕ_discrete k r.k) [
          | no y ↦ (let u = fit_apart f k r.k (omega arith) r.below r.m r.inside in
              let v = (fit-rises f h).lead 0 (first-there h) in let w = r.start in absurd (omega arith))
          | yes y ↦ absurd (own r.m (rw (sym y) at r.inside)
              (r.start ∙ ap (λ (x : ℕ). track_start (session (descriptors t) x) r.m) (sym y)) a)
        ]
      ]

  -- no session begins before the lead-out before it
  pub out-begins : (k : ℕ) → k < last_session t → out_before (descriptors t) k ≤ track_start (session (descriptors t) k) 0
  unfolding out_before
  out-begins zero h = omega arith
  out-begins (suc k) h =
      let u : session_lead_out (session (descriptors t) k) < track_start (session (descriptors t) (suc k)) 0 = rw (add-one k) at
      (fit-begins f k (omega arith)) in omega arith

  pub out-most : (k : ℕ) → k ≤ last_session t → out_before (descriptors t) k ≤ 449849
  unfolding out_before
  out-most zero l = omega arith
  out-most (suc k) l = fit-address f {k = k} {i = 2} (omega arith) (omega arith) (omega arith)

  -- ---- blocks counted by lengths, of such tracks

  module _ (such : Track → Bool) where
    -- of the track after i others of the session after k others; of that session and what stands before it
    abbrev track_such : ℕ → ℕ → ℕ
    track_such k i =
        choose such (track_at (descriptors t) (row_of k i))
        then edge (session (descriptors t) k) (tracks (session (descriptors t) k)) (i + 1)
        - edge (session (descriptors t) k) (tracks (session (descriptors t) k)) i
        else 0

    abbrev session_such : ℕ → ℕ
    session_such k =
        (choose such no_track then gap_before (descriptors t) k else 0) + sum_below (tracks (session (descriptors t) k)) (track_such k)

    abbrev counts : ℕ → ℕ
    counts e = count_below e (λ b. such (track_of (descriptors t) b))

    -- up to a session's first track
    gap-counts : (k : ℕ) → k < last_session t
        → counts (track_start (session (descriptors t) k) 0)
        ≡ counts (out_before (descriptors t) k) + (choose such no_track then gap_before (descriptors t) k else 0)
    unfolding gap_before
    gap-counts k h =
        count_run _ (such no_track) (out_before (descriptors t) k) (track_start (session (descriptors t) k) 0) (out-begins k h)
        (λ b g e. ap such (fit-none-of k b h g e))

    -- up to the edge before its track after i others
    track-counts : (k : ℕ) → k < last_session t → (i : ℕ) → i ≤ tracks (session (descriptors t) k)
        → counts (edge (session (descriptors t) k) (tracks (session (descriptors t) k)) i)
        ≡ counts (track_start (session (descriptors t) k) 0) + sum_below i (track_such k)
    track-counts k h zero l =
        let e = edge_track (session (descriptors t) k) (tracks (session (descriptors t) k)) 0 (first-there h) in
        let z = sum-none (track_such k) in
        rw e (omega arith)
    track-counts k h (suc i) l =
        let s = session (descriptors t) k in
        let g = edge-rises s (tracks s) i (fit-rises f h) (omega arith) in
        let c = count_run (λ b. such (track_of (descriptors t) b)) (such (track_at (descriptors t) (row_of k i))) (edge s (tracks s) i)
        (edge s (tracks s) (i + 1)) (omega arith) (λ b u v. ap such (fit-track-of k i b h (omega arith) u v)) in
        let r = track-counts k h i (omega arith) in
        let n = sum-next i (track_such k) in
        rw (add-one i) at
        (let z : counts (edge s (tracks s) (i + 1)) ≡ counts (track_start s 0) + sum_below (i + 1) (track_such k) = omega arith in z)

    -- up to the lead-out before the session after k others
    pub session-counts : (k : ℕ) → k ≤ last_session t → counts (out_before (descriptors t) k) ≡ sum_below k session_such
    unfolding out_before
    session-counts zero l = count_none _ ∙ sym (sum-none _)
    session-counts (suc k) l =
        let s = session (descriptors t) k in
        let h : k < last_session t = omega arith in
        let o = out_before-next (descriptors t) k in
        let e = edge-out s (tracks s) (tracks s) (omega arith) in
        let a = session-counts k (omega arith) in
        let b = gap-counts k h in
        let c = track-counts k h (tracks s) (omega arith) in
        let d : counts (edge s (tracks s) (tracks s)) ≡ counts (session_lead_out s) = ap counts e in
        let q : counts (out_before (descriptors t) (k + 1)) ≡ counts (session_lead_out s) = ap counts o in
        let n = sum-next k session_such in
        rw (add-one k) at (let z : counts (out_before (descriptors t) (k + 1)) ≡ sum_below (k + 1) session_such = omega arith in z)

    -- the lead-out before the session past the last is L
    pub last-counts : blocks_in such t ≡ sum_below (last_session t) session_such
    unfolding blocks_in
    last-counts = sym (ap counts fit-last-out) ∙ session-counts (last_session t) (omega arith)
      where
        fit-last-out : out_before (descriptors t) (last_session t) ≡ last_out t
        fit-last-out =
            let n = fit-numbered f in
            let e : last_session t - 1 + 1 ≡ last_session t = omega arith in
            ap (out_before (descriptors t)) (sym e) ∙ out_before-next (descriptors t) (last_session t - 1)

  -- ---- of a mode, and of no track

  such-mode : (mode : Mode) (k : ℕ) → k < last_session t → session_such (is_mode mode) k ≡ mode_blocks mode (session (descriptors t) k)
  unfolding mode_blocks track_blocks is_mode is_track ◌and◌
  such-mode mode k h =
      let z : (choose is_mode mode no_track then gap_before (descriptors t) k else 0) ≡ 0 = unless _ _ _ refl in
      let e = sum_same (tracks (session (descriptors t) k)) (track_such (is_mode mode) k)
      (track_blocks mode (session (descriptors t) k) (tracks (session (descriptors t) k))) (λ i l. ap
      (λ (x : Bool). choose x
      then edge (session (descriptors t) k) (tracks (session (descriptors t) k)) (i + 1)
      - edge (session (descriptors t) k) (tracks (session (descriptors t) k)) i
      else 0) (mode-row k i h l)) in
      omega arith
    where
      mode-row : (k i : ℕ) → k < last_session t → i < tracks (session (descriptors t) k)
          → is_mode mode (track_at (descriptors t) (row_of k i)) ≡ flagged mode (flags_at (session (descriptors t) k) (3 + i))
      mode-row k i h l =
          sym (and_on _ _ (row-track k i h l) refl) ∙ ap (λ (r : Row). flagged mode r.flags) (sym (row_at-session (descriptors t) k (3 + i)))

  such-none : (k : ℕ) → k < last_session t → session_such is_none k ≡ gap_before (descriptors t) k
  unfolding is_none is_track ◌and◌
  such-none k h =
      let g : (choose is_none no_track then gap_before (descriptors t) k else 0) ≡ gap_before (descriptors t) k = when _ _ _ refl in
      let z = sum-zero (tracks (session (descriptors t) k)) (track_such is_none k) (λ i l. unless _ _ _ (ap not (row-track k i h l))) in
      omega arith

  -- counting the blocks by their tracks comes to counting by the tracks' lengths
  pub fit-mode-to : (mode : Mode) (k : ℕ) → k ≤ last_session t
      → count_below (out_before (descriptors t) k) (λ b. is_mode mode (track_of (descriptors t) b))
      ≡ sum_below k (λ j. mode_blocks mode (session (descriptors t) j))
  fit-mode-to mode k l = session-counts (is_mode mode) k l ∙ sum_same k _ _ (λ j h. such-mode mode j (omega arith))

  pub fit-mode : (mode : Mode) → blocks_in (is_mode mode) t ≡ sum_below (last_session t) (λ k. mode_blocks mode (session (descriptors t) k))
  fit-mode mode = last-counts (is_mode mode) ∙ sum_same (last_session t) _ _ (λ k h. such-mode mode k h)

  pub fit_none : blocks_in is_none t ≡ sum_below (last_session t) (gap_before (descriptors t))
  fit_none = last-counts is_none ∙ sum_same (last_session t) _ _ (λ k h. such-none k h)

-- ---- the tracks of a fit table are numbered from the first to the last with no gap

-- which descriptors of a session are tracks
kind_track : {s : List ℕ} {i : ℕ} → 1 ≤ first s → last s ≤ 99 → Kind s i → is_track (point_at s i) ≡ (leb 3 i and ltb i (3 + tracks s))
kind_track {s} {i} l h (is_a0 e q) = ap is_track q ∙ is_track-over A0 (omega arith) ∙ and_off _ _ (lt-leb 3 i (omega arith))
kind_track {s} {i} l h (is_a1 e q) = ap is_track q ∙ is_track-over A1 (omega arith) ∙ and_off _ _ (lt-leb 3 i (omega arith))
kind_track {s} {i} l h (is_a2 e q) = ap is_track q ∙ is_track-over A2 (omega arith) ∙ and_off _ _ (lt-leb 3 i (omega arith))
kind_track {s} {i} l h (is_track_after m e b q) =
    ap is_track q ∙ is_track_true (first s + m) (omega arith) (omega arith)
    ∙ and_on _ _ (le-leb 3 i (omega arith)) (sym (lt-ltb i (3 + tracks s) (omega arith)))
kind_track l h (is_b0 e q) = ap is_track q ∙ is_track-over B0 (omega arith) ∙ and_late _ _ (sym (le-ltb _ _ e))
kind_track l h (is_c0 e q) = ap is_track q ∙ is_track-over C0 (omega arith) ∙ and_late _ _ (sym (le-ltb _ _ e))

module _ {t : List ℕ} (f : Fit t) where
  abbrev tracks_to : ℕ → ℕ
  tracks_to j = count_below j (λ i. is_track (point_at (descriptors t) i))

  row-kind : (k i : ℕ) → k < last_session t → i < count (session (descriptors t) k)
      → is_track (point_at (descriptors t) (rows_before (descriptors t) k + i)) ≡ (leb 3 i and ltb i (3 + tracks (session (descriptors t) k)))
  row-kind k i h l =
      let s = fit-session f h in
      ap is_track (sym (point_at-session (descriptors t) k i)) ∙ kind_track s.low s.high (fit-kind f h l)

  -- a session's descriptors add its tracks
  session-tracks : (k : ℕ) → k < last_session t
      → tracks_to (rows_before (descriptors t) (k + 1)) ≡ tracks_to (rows_before (descriptors t) k) + tracks (session (descriptors t) k)
  session-tracks k h =
      let s = session (descriptors t) k in
      let r = rows_before (descriptors t) k in
      let n = rows_before-next (descriptors t) k in
      let place : (j : ℕ) → r ≤ j → r + (j - r) ≡ j = λ j l. omega arith in
      let a = count_run (λ i. is_track (point_at (descriptors t) i)) false r (r + 3) (omega arith) (λ j l g. rw (place j l) at
      (row-kind k (j - r) h (omega arith) ∙ sym (and_off _ _ (lt-leb 3 (j - r) (omega arith))))) in
      let b = count_run (λ i. is_track (point_at (descriptors t) i)) true (r + 3) (r + 3 + tracks s) (omega arith) (λ j l g. rw
      (place j (omega arith)) at
      (row-kind k (j - r) h (omega arith)
      ∙ sym (and_on _ _ (le-leb 3 (j - r) (omega arith)) (sym (lt-ltb (j - r) (3 + tracks s) (omega arith)))))) in
      let c = count_run (λ i. is_track (point_at (descriptors t) i)) false (r + 3 + tracks s) (r + count s) (omega arith) (λ j l g. rw
      (place j (omega arith)) at
      (row-kind k (j - r) h (omega arith) ∙ sym (and_late _ _ (sym (le-ltb (j - r) (3 + tracks s) (omega arith)))))) in
      let u = unless false (r + 3 - r) 0 refl in
      let v = when true (r + 3 + tracks s - (r + 3)) 0 refl in
      let w = unless false (r + count s - (r + 3 + tracks s)) 0 refl in
      rw n (omega arith)

  first-row : rows_before (descriptors t) 0 ≡ 0
  first-row = let a = starts-rows (descriptors t) 0 in let b = starts_none (descriptors t) in omega arith

  -- so there are as many as from the first to the last
  tracks-upto : (k : ℕ) → k < last_session t
      → tracks_to (rows_before (descriptors t) (k + 1)) + first (descriptors t) ≡ last (session (descriptors t) k) + 1
  tracks-upto zero h =
      let s = fit-session f h in
      let o = s.order in
      let e : first (session (descriptors t) 0) ≡ first (descriptors t) = ap first (session-none (descriptors t)) in
      let a = session-tracks 0 h in
      let b : tracks_to (rows_before (descriptors t) 0) ≡ 0 = ap tracks_to first-row ∙ count_none _ in
      omega arith
  tracks-upto (suc k) h =
      let s = fit-session f h in
      let o = s.order in
      let e : first (session (descriptors t) (suc k)) ≡ last (session (descriptors t) k) + 1 = rw (add-one k) at (fit_next f k (omega arith)) in
      let a = session-tracks (suc k) h in
      let b : tracks_to (rows_before (descriptors t) (suc k)) + first (descriptors t) ≡ last (session (descriptors t) k) + 1 = rw (add-one k) at
      (tracks-upto k (omega arith)) in
      omega arith

  pub fit-tracks : tracks_in t + first (descriptors t) ≡ last (last_part t) + 1
  unfolding tracks_in
  fit-tracks =
      let n = fit-numbered f in
      let e : last_session t - 1 + 1 ≡ last_session t = omega arith in
      let r = fit-end-rows f in
      rw (e, r) at (tracks-upto (last_session t - 1) (omega arith))

-- ---- session by session, as the code goes

-- of k sessions: the next begins at `at`, and the one before has its lead-out at `out`
pub record Summed (t : List ℕ) (k at out data_of of_no_track : ℕ) : Type 0 where
  pub walked : Walked (last_session t) (descriptors t) k at
  pub lead : out ≡ out_before (descriptors t) k
  pub data_blocks_in : data_of ≡ sum_below k (λ j. mode_blocks Data (session (descriptors t) j))
  pub none_blocks : of_no_track ≡ sum_below k (gap_before (descriptors t))

pub summed-none : (t : List ℕ) → Summed t 0 0 0 0 0
unfolding out_before
summed-none t = record { walked = walked_none _ _; lead = refl; data_blocks_in = sym (sum-none _); none_blocks = sym (sum-none _) }

module _ {t : List ℕ} (f : Fit t) {k at out data_of of_no_track : ℕ} (c : Summed t k at out data_of of_no_track) where
  -- never more than the last lead-out may be
  pub summed-most : (data_of ≤ 449849) × (of_no_track ≤ 449849)
  summed-most =
      let w = c.walked.turns in
      let l = out-most f k w in
      let a = fit-mode-to f Data k w in
      let b = session-counts f is_none k w ∙ sum_same k _ _ (λ j h. such-none f j (omega arith)) in
      let p = count_most (out_before (descriptors t) k) (λ b. is_mode Data (track_of (descriptors t) b)) in
      let q = count_most (out_before (descriptors t) k) (λ b. is_none (track_of (descriptors t) b)) in
      let u = c.data_blocks_in in
      let v = c.none_blocks in
      (omega arith, omega arith)

  module _ (i : k < last_session t) where
    -- the session that begins here
    pub summed-here : IsSession (k + 1) (drop at (descriptors t))
    summed-here = placed_at _ _ (fit-places f) c.walked.place i

    pub summed-rises : Rises (drop at (descriptors t)) (tracks (drop at (descriptors t)))
    summed-rises = rw c.walked.place (fit-rises f i)

    pub summed-begins : out ≤ track_start (drop at (descriptors t)) 0
    summed-begins = rw (c.walked.place, c.lead) (out-begins f k i)

    pub summed-next :
        {b o d g : ℕ} → b ≡ size (drop at (descriptors t)) → o ≡ session_lead_out (drop at (descriptors t)) → d ≡ mode_blocks Data (drop at (descriptors t))
        → g ≡ track_start (drop at (descriptors t)) 0 → Summed t (k + 1) (at + b) o (data_of + d) (of_no_track + (g - out))
    unfolding gap_before
    summed-next {b} {o} {d} {g} e p q r =
        let w = c.walked.place in
        let n = sum-next k (λ j. mode_blocks Data (session (descriptors t) j)) in
        let m = sum-next k (gap_before (descriptors t)) in
        let u : d ≡ mode_blocks Data (session (descriptors t) k) = q ∙ ap (λ (x : ℕ). mode_blocks Data (drop x (descriptors t))) w in
        let v : g ≡ track_start (session (descriptors t) k) 0 = r ∙ ap (λ (x : ℕ). track_start (drop x (descriptors t)) 0) w in
        let x = c.data_blocks_in in
        let y = c.none_blocks in
        let z = c.lead in
        record {
          walked = walked_next c.walked i summed-here e;
          lead = p ∙ ap (λ (x : ℕ). session_lead_out (drop x (descriptors t))) w ∙ sym (out_before-next (descriptors t) k);
          data_blocks_in = omega arith;
          none_blocks = omega arith;
        }

  -- all of them
  pub summed-all : last_session t ≤ k → (data_of ≡ blocks_in (is_mode Data) t) × (of_no_track ≡ blocks_in is_none t)
  summed-all l =
      let e = walked_all c.walked l in (
        c.data_blocks_in ∙ ap (λ (x : ℕ). sum_below x (λ j. mode_blocks Data (session (descriptors t) j))) e ∙ sym (fit-mode f Data),
        c.none_blocks ∙ ap (λ (x : ℕ). sum_below x (gap_before (descriptors t))) e ∙ sym (fit_none f),
      )

-- ---- what the code hands on of a fit table

abbrev pub held_by : List ℕ → Held
held_by t = record { of_data = blocks_in (is_mode Data) t; of_none = blocks_in is_none t }
