-- What a fit table's contents are: addresses in range, tracks numbered from the first on; and on a disc of one session, where all tracks
-- end at the one lead-out, the track of each block and the disc read off the table are functions of the contents.
use Rattle.std.specs.Prelude.{◌≡◌, refl, Bool, true, false, List, [], ◌∷◌, ◌++◌, ℕ, zero, suc, ◌+◌, ◌-◌, ◌≤◌, ◌<◌}
use Rattle.std.proofs.Common.{sym, ap, ◌∙◌, append-nil, append_assoc, arith}
use Rattle.std.proofs.Math.Decide.{ℕ_discrete}
use Rattle.ground.specs.Tests.{choose◌then◌else◌, either}
use Rattle.table.specs.Layout.{last_session, descriptors, rows, point_at, A0, A1, A2, is_track}
use Rattle.table.specs.RowLaws.{is_track_true, is_track-over}
use Rattle.sessions.specs.Session.{first, session}
use Rattle.disc.specs.Rules.{session_lead_out}
use Rattle.disc.specs.RulesLaws.{Fit, is_fit_true, fit-numbered, fit-session}
use Rattle.disc.specs.FitLaws.{point_at-session, session-none, fit-listed, fit_row, fit-address, fit-tracks-rise, fit-lead-out}
use Rattle.disc.specs.Disc.{disc_of}
use Rattle.disc.specs.declared.disc.Disc.{Disc}
use Rattle.tracks.specs.declared.track.Track.{Track}
use Rattle.tracks.specs.declared.track.Ask.{Ask}
use Rattle.tracks.specs.Track.{out_at, no_track, track_at, next_found, found}
use Rattle.tracks.specs.TrackLaws.{wanted_not, next_found_on}
use Rattle.tracks.specs.SpreadLaws.{fit-track-row}
use Rattle.claims.specs.Contents.{Entry, Contents, entry_at, entries, contents_of, Single}
use Rattle.claims.proofs.ContentsLaws.{Placed, Each, nil, cons, each_append, Ranged}

-- ---- the tracks of a table

-- what holds of each descriptor that is a track holds of each of them
pub entries_each : (P : Entry → Type 0) (d : List ℕ) (n : ℕ) → ((j : ℕ) → j < n → is_track (point_at d j) ≡ true → P (entry_at d j)) → Each P (entries d n)
unfolding entries
entries_each P d zero f = nil
entries_each P d (suc j) f =
    each_append (entries_each P d j (λ i h. f i (omega arith)))
    (either (Each P) (is_track (point_at d j)) (λ e. cons (f j (omega arith) e) nil) (λ e. nil))

-- those of the first n descriptors stand in front
entries_front : (d : List ℕ) (n m : ℕ) → n ≤ m → (rest : List Entry) × (entries d m ≡ entries d n ++ rest)
unfolding entries
entries_front d n zero h = let e : n ≡ 0 = omega arith in ([], rw e)
entries_front d n (suc m) h = elim (ℕ_discrete n (suc m)) [
  | yes e ↦ ([], rw e (sym (append-nil (entries d (suc m)))))
  | no e ↦ (let r = entries_front d n m (omega arith) in
      let here = choose is_track (point_at d m) then entry_at d m ∷ [] else [] in
      (r.0 ++ here, ap (λ (x : List Entry). x ++ here) r.1 ∙ append_assoc (entries d n) r.0 here))
]

module _ {t : List ℕ} (f : Fit t) where
  -- a fit table's contents have addresses in range
  pub fit-ranged : Ranged (contents_of t)
  fit-ranged = record {
    tracks = entries_each Placed (descriptors t) (rows (descriptors t)) (λ j h e.
        let r = fit-track-row f j h e in
        rw r.start (fit-address f r.below (omega arith) (let i = r.inside in omega arith)));
    lead = (fit-lead-out f).1;
  }

  -- no session's first track is numbered below the disc's
  fit-firsts : (k : ℕ) → k < last_session t → first (descriptors t) ≤ first (session (descriptors t) k)
  fit-firsts k h =
      let s = fit-session f {k = 0} (omega arith) in
      let o = s.order in
      let e : first (session (descriptors t) 0) ≡ first (descriptors t) = ap first (session-none (descriptors t)) in
      elim (ℕ_discrete k 0) [
        | yes q ↦ rw q (omega arith)
        | no q ↦ (let r = fit-tracks-rise f 0 k (omega arith) h in omega arith)
      ]

  -- so every track is numbered from the disc's first on
  pub fit-numbers : (n : ℕ) → n ≤ (disc_of t).first → Each (λ (e : Entry). n ≤ e.number) (contents_of t).tracks
  fit-numbers n l = entries_each (λ (e : Entry). n ≤ e.number) (descriptors t) (rows (descriptors t)) (λ j h e.
      let r = fit-track-row f j h e in
      let p : point_at (descriptors t) j ≡ first (session (descriptors t) r.k) + r.m =
      ap (point_at (descriptors t)) r.place ∙ sym (point_at-session (descriptors t) r.k (3 + r.m)) ∙ ((fit-listed f r.below).track r.m r.inside).point in
      let q = fit-firsts r.k r.below in
      omega arith)

-- ---- the tracks of a disc of one session

-- a track that ends at that lead-out
abbrev track_from : ℕ → Entry → Track
track_from out e = record { number = e.number; flags = e.flags; start = e.start; out = out }

-- what is found among them, where u was found so far
unfoldable pub found_among : Ask → ℕ → List Entry → Track → Track
found_among a out [] u = u
found_among a out (e ∷ es) u = found_among a out es (next_found a (track_from out e) u)

found_among-append : (a : Ask) (out : ℕ) (x y : List Entry) (u : Track) → found_among a out (x ++ y) u ≡ found_among a out y (found_among a out x u)
unfolding found_among
found_among-append a out [] y u = refl
found_among-append a out (e ∷ x) y u = found_among-append a out x y (next_found a (track_from out e) u)

-- where every track ends at one lead-out, what is found among the descriptors is found among the tracks
found-entries : (a : Ask) (d : List ℕ) (out n : ℕ) → ((j : ℕ) → j < n → is_track (point_at d j) ≡ true → out_at d j ≡ out)
    → found a d n ≡ found_among a out (entries d n) no_track
unfolding found entries found_among choose◌then◌else◌
found-entries a d out zero f = refl
found-entries a d out (suc j) f =
    ap (next_found a (track_at d j)) (found-entries a d out j (λ i h. f i (omega arith)))
    ∙ step (is_track (point_at d j)) refl
    ∙ sym (found_among-append a out (entries d j) _ no_track)
  where
    step : (b : Bool) → is_track (point_at d j) ≡ b → let u = found_among a out (entries d j) no_track in
        next_found a (track_at d j) u ≡ found_among a out (choose b then entry_at d j ∷ [] else []) u
    step true e = ap (λ (x : ℕ). next_found a (track_from x (entry_at d j)) (found_among a out (entries d j) no_track)) (f j (omega arith) e)
    step false e = next_found_on a _ _ (sym (wanted_not a _ _ e))

-- the first of them
abbrev first_of : List Entry → Entry
first_of [] = record { flags = 0; number = 0; start = 0 }
first_of (e ∷ es) = e

-- the disc that is read off a table of one session with those contents
abbrev pub disc_in : Contents → Disc
disc_in c = record {
  first = c.first;
  last = c.last;
  sessions = 1;
  lead_out = c.session_lead_out;
  lead_flags = c.flags_of_lead;
  last_first = (first_of c.tracks).number;
  last_first_flags = (first_of c.tracks).flags;
  last_first_start = (first_of c.tracks).start;
}

-- behind three descriptors that are no tracks stands the first track
first_entry : (d : List ℕ) (n : ℕ) → is_track (point_at d 0) ≡ false → is_track (point_at d 1) ≡ false → is_track (point_at d 2) ≡ false
    → is_track (point_at d 3) ≡ true → 4 ≤ n
    → first_of (entries d n) ≡ entry_at d 3
unfolding entries choose◌then◌else◌
first_entry d n a b c e l =
    let r = entries_front d 4 n l in
    let four : entries d 4 ≡ entry_at d 3 ∷ [] = rw (a, b, c, e) in
    ap first_of (r.1 ∙ ap (λ (x : List Entry). x ++ r.0) four)

module _ {t : List ℕ} (s : Single t) where
  is-fit : Fit t
  is-fit = is_fit_true s.fit

  -- every track ends at the lead-out, L
  single-out : (j : ℕ) → j < rows (descriptors t) → is_track (point_at (descriptors t) j) ≡ true → out_at (descriptors t) j ≡ (contents_of t).session_lead_out
  single-out j h e =
      let r = fit-track-row is-fit j h e in
      let b = r.below in
      let o = s.one in
      r.out ∙ ap (λ (k : ℕ). session_lead_out (session (descriptors t) k)) (omega arith)

  pub single-track : (a : Ask) → found a (descriptors t) (rows (descriptors t)) ≡ found_among a (contents_of t).session_lead_out (contents_of t).tracks no_track
  single-track a = found-entries a (descriptors t) (contents_of t).session_lead_out (rows (descriptors t)) single-out

  -- descriptor i of the session is descriptor i of the table
  tested : (i : ℕ) {a : ℕ} {b : Bool} → point_at (session (descriptors t) 0) i ≡ a → is_track a ≡ b → is_track (point_at (descriptors t) i) ≡ b
  tested i p q = ap (λ (x : List ℕ). is_track (point_at x i)) (sym (session-none (descriptors t))) ∙ ap is_track p ∙ q

  -- the last session's first track is the first of them
  single-first : first_of (contents_of t).tracks ≡ entry_at (session (descriptors t) (last_session t - 1)) 3
  single-first =
      let d = descriptors t in
      let z : 0 < last_session t = (fit-numbered is-fit).low in
      let l = fit-listed is-fit z in
      let i = fit-session is-fit z in
      let u = i.low in let v = i.order in let w = i.high in
      let n = fit_row is-fit {k = 0} {i = 3} z (omega arith) in
      first_entry d (rows d)
      (tested 0 l.a0.point (is_track-over A0 (omega arith))) (tested 1 l.a1.point (is_track-over A1 (omega arith))) (tested 2 l.a2.point (is_track-over A2 (omega arith)))
      (tested 3 (l.track 0 (omega arith)).point (is_track_true (first (session d 0) + 0) (omega arith) (omega arith))) (omega arith)
      ∙ ap (λ (x : List ℕ). entry_at x 3) (sym (session-none d))
      ∙ ap (λ (k : ℕ). entry_at (session d k) 3) (let o = s.one in omega arith)

  pub single-disc : disc_of t ≡ disc_in (contents_of t)
  single-disc = λ i. record {
    first = (contents_of t).first;
    last = (contents_of t).last;
    sessions = s.one i;
    lead_out = (contents_of t).session_lead_out;
    lead_flags = (contents_of t).flags_of_lead;
    last_first = (sym single-first i).number;
    last_first_flags = (sym single-first i).flags;
    last_first_start = (sym single-first i).start;
  }
