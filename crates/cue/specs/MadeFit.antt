-- Where a fit table of one session has those tracks, controls and addresses, the table made of them is fit: the walk over it asks nothing
-- that the walk over the other has not answered. And the table made of numbered tracks, read back, holds them.
use Rattle.std.specs.Prelude.{◌≡◌, true, false, List, [], ◌∷◌, leb, get_or}
use Rattle.std.proofs.Math.Path.{refl, sym, ap}
use Rattle.std.proofs.Common.{◌∙◌, zero-add, lt_of_not-le, le-leb, leb-true, eq-eqb, eqb-true, ext_get_or}
use Prim.Native.Nat.{ℕ, zero, suc, ◌+◌, ◌-◌, ◌*◌, ◌/◌, ◌%◌, ◌≤◌, ◌<◌}
use native.Mathlib.Omega.{arith}
use Rattle.std.proofs.Math.Decide.{dec_le, ℕ_discrete}
use Rattle.std.proofs.Math.ListN.{length, get_or-eq_default}
use Rattle.ground.specs.Tests.{◌and◌, ◌or◌, and_head, and_tail, and_both, every-at, every-all}
use Rattle.ground.specs.Number.{bytes16_exact}
use Rattle.table.specs.Layout.{bound, header, row, last_session, descriptors, rows, flags_at, point_at, pmin_at, psec_at, pframe_at, A0, A1, A2, B0, C0, is_extra}
use Rattle.table.specs.Row.{row_from, row_at, frames_of, names, simple, head_a0, head_a1}
use Rattle.table.specs.RowLaws.{row_from-drop}
use Rattle.table.specs.Asked.{kept, a0_kept, a1_kept, climbs, holds}
use Rattle.table.specs.AskedLaws.{extra_passed_other}
use Rattle.table.specs.declared.row.Row.{Row}
use Rattle.sessions.specs.Session.{first, last, tracks, b0s, c0s, size, starts}
use Rattle.sessions.specs.SessionLaws.{one_not}
use Rattle.disc.specs.Rules.{rule1, rule2, is_fit}
use Rattle.disc.specs.RulesLaws.{Fit, is_fit_true}
use Rattle.disc.specs.Walk.{heads_kept, floor_at, track_kept, tracks_kept, extras_kept, session_kept, floor_of, next_of, step_kept, walk_kept}
use Rattle.disc.specs.WalkFit.{fit-walk, walk_fit}
use Rattle.cue.specs.declared.entry.Track.{Track}
use Rattle.cue.specs.Sheet.{AA, no_track, first_of, last_from, last_of, follows_from, follows, is_numbered}
use Rattle.cue.specs.SheetLaws.{is_numbered_parts}
use Rattle.cue.specs.Made.{rows_of, body_of, table_with}
use Rattle.cue.specs.MadeLaws.{body_of-length, table_with-length}
use Rattle.cue.specs.Held.{placed_at, track_at, held_lead_out, Holds}
use Rattle.cue.specs.HeldLaws.{up_to, up_to-length, up_to-at, single-plain, single-number, single-tracks}

-- ---- the first and the last track by their places

first_of-at : (ts : List Track) → first_of ts ≡ get_or ts 0 no_track
unfolding first_of
first_of-at [] = refl
first_of-at (t ∷ ts) = refl

last_from-at : (t : Track) (ts : List Track) → last_from t ts ≡ get_or (t ∷ ts) (length ts) no_track
unfolding last_from
last_from-at t [] = refl
last_from-at t (u ∷ ts) = last_from-at u ts

last_of_at : (ts : List Track) → last_of ts ≡ get_or ts (length ts - 1) no_track
unfolding last_of
last_of_at [] = refl
last_of_at (t ∷ ts) =
    let e : length ts ≡ length (t ∷ ts) - 1 = omega arith in last_from-at t ts ∙ ap (λ (n : ℕ). get_or (t ∷ ts) n no_track) e

-- ---- the descriptors of the made table

-- one of session 1
abbrev row_made : ℕ → ℕ → ℕ → ℕ → ℕ → Row
row_made flags point m s f =
    record { session = 1; flags = flags; tno = 0; point = point; min = 0; sec = 0; frame = 0; zero = 0; pmin = m; psec = s; pframe = f }

abbrev placed : ℕ → Track → Row
placed point t = row_made t.flags point t.minute t.second t.frame

rows_of-at : (ts : List Track) (i : ℕ) → i < length ts → let t = get_or ts i no_track in row_from (rows_of ts) (row * i) ≡ placed t.number t
unfolding rows_of
rows_of-at [] i h = absurd (omega arith)
rows_of-at (t ∷ ts) zero h = refl
rows_of-at (t ∷ ts) (suc i) h =
    let l = rows_of (t ∷ ts) in
    let e : row * suc i ≡ row + row * i = omega arith in
    ap (row_from l) e ∙ sym (row_from-drop l row (row * i)) ∙ rows_of-at ts i (omega arith)

module _ (ts : List Track) (out : Track) where
  body-A0 : row_at (body_of ts out) 0 ≡ row_made (first_of ts).flags A0 (first_of ts).number 0 0
  unfolding body_of
  body-A0 = refl

  body-A1 : row_at (body_of ts out) 1 ≡ row_made (last_of ts).flags A1 (last_of ts).number 0 0
  unfolding body_of
  body-A1 = refl

  body-A2 : row_at (body_of ts out) 2 ≡ placed A2 out
  unfolding body_of
  body-A2 = refl

  body-track : (i : ℕ) → i < length ts → let t = get_or ts i no_track in row_at (body_of ts out) (3 + i) ≡ placed t.number t
  unfolding body_of
  body-track i h =
      let e : row * (3 + i) ≡ 33 + row * i = omega arith in
      ap (row_from (body_of ts out)) e ∙ sym (row_from-drop (body_of ts out) 33 (row * i)) ∙ rows_of-at ts i h

  -- nothing stands past them
  body-none : {j : ℕ} → 3 + length ts ≤ j → point_at (body_of ts out) j ≡ 0
  body-none {j} h = let e = body_of-length ts out in get_or-eq_default (body_of ts out) 0 {n = row * j + 3} (omega arith)

  -- the first and the last track, as A0 and A1 tell them
  body-first : first (body_of ts out) ≡ (first_of ts).number
  unfolding body_of
  body-first = refl

  body-last : last (body_of ts out) ≡ (last_of ts).number
  unfolding body_of
  body-last = refl

  -- where they tell how many there are, the session has no B0h and no C0h
  body-extras : tracks (body_of ts out) ≡ length ts → (b0s (body_of ts out) ≡ 0) × (c0s (body_of ts out) ≡ 0)
  body-extras h =
      let a : point_at (body_of ts out) (3 + tracks (body_of ts out)) ≡ 0 = body-none (omega arith) in
      let b : point_at (body_of ts out) (3 + tracks (body_of ts out) + b0s (body_of ts out)) ≡ 0 = body-none (omega arith) in
      (one_not (λ e. omega arith), one_not (λ e. omega arith))

  body-size : tracks (body_of ts out) ≡ length ts → size (body_of ts out) ≡ length (body_of ts out)
  unfolding size
  body-size h = let x = body-extras h in let u = x.0 in let v = x.1 in let e = body_of-length ts out in omega arith

  body-extras_kept : tracks (body_of ts out) ≡ length ts → extras_kept (body_of ts out) 1 ≡ true
  unfolding extras_kept
  body-extras_kept h =
      let a : point_at (body_of ts out) (3 + tracks (body_of ts out)) ≡ 0 = body-none (omega arith) in
      let b : point_at (body_of ts out) (3 + tracks (body_of ts out) + b0s (body_of ts out)) ≡ 0 = body-none (omega arith) in
      and_both _ _ (extra_passed_other _ 1 B0 (λ e. omega arith)) (extra_passed_other _ 1 C0 (λ e. omega arith))

-- ---- what the walk asks of one of them

-- a kept descriptor has its POINT, and ADR 1
kept_point : (r : Row) (k p : ℕ) → kept r k p ≡ true → r.point ≡ p
unfolding kept names
kept_point r k p h = eqb-true _ _ (and_tail _ _ (and_head _ _ h))

kept-adr : (r : Row) (k p : ℕ) → kept r k p ≡ true → r.flags / 16 ≡ 1
unfolding kept simple
kept-adr r k p h = eqb-true _ _ (and_head _ _ (and_tail _ _ h))

-- and one that is made with ADR 1 is kept
made_kept : (flags point m s f : ℕ) → flags / 16 ≡ 1 → kept (row_made flags point m s f) 1 point ≡ true
unfolding kept names simple
made_kept flags point m s f h =
    and_both _ _ (and_both _ _ refl (eq-eqb point point refl)) (and_both _ _ (eq-eqb _ _ h) (and_both _ _ refl refl))

made-A0 : (flags n : ℕ) → flags / 16 ≡ 1 → a0_kept (row_made flags A0 n 0 0) 1 ≡ true
unfolding a0_kept head_a0 ◌and◌ ◌or◌
made-A0 flags n h = and_both _ _ (made_kept flags A0 n 0 0 h) refl

made-A1 : (flags n : ℕ) → flags / 16 ≡ 1 → a1_kept (row_made flags A1 n 0 0) 1 ≡ true
unfolding a1_kept head_a1 ◌and◌
made-A1 flags n h = and_both _ _ (made_kept flags A1 n 0 0 h) refl

-- of the address alone
climbs-placed : (d : List ℕ) (j flags point low : ℕ) → climbs (row_made flags point (pmin_at d j) (psec_at d j) (pframe_at d j)) low ≡ climbs (row_at d j) low
unfolding climbs frames_of
climbs-placed d j flags point low = refl

holds-placed : (d : List ℕ) (j flags point low : ℕ) → holds (row_made flags point (pmin_at d j) (psec_at d j) (pframe_at d j)) low ≡ holds (row_at d j) low
unfolding holds climbs frames_of
holds-placed d j flags point low = refl

-- ---- the table made of what a fit table holds

module _ {t : List ℕ} {ts : List Track} {out : Track} (h : Holds t ts out) where
  is-fit : Fit t
  is-fit = is_fit_true h.fit

  made-length : length ts ≡ tracks (descriptors t)
  made-length = ap length (sym h.tracks ∙ single-tracks is-fit h.one) ∙ up_to-length (λ i. track_at (descriptors t) (3 + i)) _

  made_at : (i : ℕ) → i < tracks (descriptors t) → get_or ts i no_track ≡ track_at (descriptors t) (3 + i)
  made_at i l =
      ap (λ (x : List Track). get_or x i no_track) (sym h.tracks ∙ single-tracks is-fit h.one)
      ∙ up_to-at (λ i. track_at (descriptors t) (3 + i)) _ i l

  -- all that the walk asks of that table's session
  walked : session_kept 1 (descriptors t) 150 ≡ true
  unfolding walk_kept step_kept starts floor_of
  walked =
      let w = ap (λ (n : ℕ). walk_kept n (descriptors t)) (sym h.one) ∙ fit-walk is-fit in
      and_head _ _ (every-at 1 (step_kept (descriptors t)) (and_head _ _ w) 0 (omega arith))

  -- its parts: f and l, what A2 and each track are asked
  walked-tail : (leb 1 (first (descriptors t)) and leb (first (descriptors t)) (last (descriptors t)) and leb (last (descriptors t)) 99
      and heads_kept (descriptors t) 1 and tracks_kept (descriptors t) 1 (first (descriptors t)) (tracks (descriptors t)) 150
      and extras_kept (descriptors t) 1) ≡ true
  unfolding session_kept
  walked-tail = and_tail _ _ walked

  walked_low : 1 ≤ first (descriptors t)
  walked_low = leb-true _ _ (and_head _ _ walked-tail)

  walked-order : first (descriptors t) ≤ last (descriptors t)
  walked-order = leb-true _ _ (and_head _ _ (and_tail _ _ walked-tail))

  walked-high : last (descriptors t) ≤ 99
  walked-high = leb-true _ _ (and_head _ _ (and_tail _ _ (and_tail _ _ walked-tail)))

  walked-A2 : kept (row_at (descriptors t) 2) 1 A2 ≡ true
  unfolding heads_kept
  walked-A2 = and_tail _ _ (and_tail _ _ (and_head _ _ (and_tail _ _ (and_tail _ _ (and_tail _ _ walked-tail)))))

  walked-tracks : tracks_kept (descriptors t) 1 (first (descriptors t)) (tracks (descriptors t)) 150 ≡ true
  walked-tracks = and_head _ _ (and_tail _ _ (and_tail _ _ (and_tail _ _ (and_tail _ _ walked-tail))))

  walked-track : (i : ℕ) → i < tracks (descriptors t) → track_kept (descriptors t) 1 (first (descriptors t)) 150 i ≡ true
  unfolding tracks_kept
  walked-track i l = every-at _ _ (and_head _ _ walked-tracks) i l

  -- the made table's first and last track are that table's
  made-first : first (body_of ts out) ≡ first (descriptors t)
  made-first =
      let o = walked-order in
      let e = ap (λ (x : Track). x.number) (first_of-at ts ∙ made_at 0 (omega arith)) in
      let n = single-number is-fit h.one 0 (omega arith) in
      body-first ts out ∙ e ∙ n ∙ omega arith

  made-last : last (body_of ts out) ≡ last (descriptors t)
  made-last =
      let o = walked-order in
      let l = made-length in
      let p : length ts - 1 < tracks (descriptors t) = omega arith in
      let e = ap (λ (x : Track). x.number) (last_of_at ts ∙ made_at (length ts - 1) p) in
      let n = single-number is-fit h.one (length ts - 1) p in
      body-last ts out ∙ e ∙ n ∙ omega arith

  made-tracks : tracks (body_of ts out) ≡ length ts
  made-tracks = let f = made-first in let l = made-last in let n = made-length in omega arith

  -- and so are its tracks
  made_row : (i : ℕ) → i < tracks (descriptors t) → let u = track_at (descriptors t) (3 + i) in row_at (body_of ts out) (3 + i) ≡ placed u.number u
  made_row i l = body-track ts out i (let n = made-length in omega arith) ∙ ap (λ (u : Track). placed u.number u) (made_at i l)

  made-floor : (i : ℕ) → i ≤ tracks (descriptors t) → floor_at (body_of ts out) 150 i ≡ floor_at (descriptors t) 150 i
  unfolding floor_at frames_of
  made-floor zero l = refl
  made-floor (suc i) l = ap (λ (r : Row). frames_of r + 1) (made_row i (omega arith))

  made-track : (i : ℕ) → i < tracks (descriptors t) → track_kept (body_of ts out) 1 (first (body_of ts out)) 150 i ≡ true
  unfolding track_kept
  made-track i l =
      let w = walked-track i l in
      let k = and_head _ _ w in
      let d = descriptors t in
      let p : point_at d (3 + i) ≡ first (body_of ts out) + i = kept_point (row_at d (3 + i)) 1 (first d + i) k ∙ ap (λ (x : ℕ). x + i) (sym made-first) in
      let a = kept-adr (row_at d (3 + i)) 1 (first d + i) k in
      rw (made_row i l, made-floor i (omega arith), p)
      (and_both _ _ (made_kept _ _ _ _ _ a) (climbs-placed d (3 + i) _ _ _ ∙ and_tail _ _ w))

  made-A2 : row_at (body_of ts out) 2 ≡ placed A2 (held_lead_out t)
  made-A2 = body-A2 ts out ∙ ap (placed A2) (sym h.session_lead_out)

  made-heads : heads_kept (body_of ts out) 1 ≡ true
  unfolding heads_kept track_kept
  made-heads =
      let o = walked-order in
      let n = made-length in
      let d = descriptors t in
      let p : length ts - 1 < tracks d = omega arith in
      let q : 0 < tracks d = omega arith in
      let a = ap (λ (u : Track). u.flags / 16) (first_of-at ts ∙ made_at 0 q) ∙ kept-adr _ 1 _ (and_head _ _ (walked-track 0 q)) in
      let b = ap (λ (u : Track). u.flags / 16) (last_of_at ts ∙ made_at (length ts - 1) p) ∙ kept-adr _ 1 _ (and_head _ _ (walked-track (length ts - 1) p)) in
      rw (body-A0 ts out, body-A1 ts out, made-A2)
      (and_both _ _ (made-A0 _ _ a) (and_both _ _ (made-A1 _ _ b) (made_kept _ _ _ _ _ (kept-adr _ 1 A2 walked-A2))))

  made-tracks_kept : tracks_kept (body_of ts out) 1 (first (body_of ts out)) (tracks (body_of ts out)) 150 ≡ true
  unfolding tracks_kept
  made-tracks_kept =
      let n : tracks (body_of ts out) ≡ tracks (descriptors t) = made-tracks ∙ made-length in
      rw (n, made-A2, made-floor (tracks (descriptors t)) (omega arith))
      (and_both _ _ (every-all _ _ (λ i l. made-track i l)) (holds-placed (descriptors t) 2 _ _ _ ∙ and_tail _ _ walked-tracks))

  made-session : session_kept 1 (body_of ts out) 150 ≡ true
  unfolding session_kept
  made-session =
      let a = made-first in
      let b = made-last in
      let c = walked_low in let d = walked-order in let e = walked-high in
      let z = body-size ts out made-tracks in
      let m = body_of ts out in
      and_both _ _ (le-leb (size m) (length m) (omega arith))
      (and_both _ _ (le-leb 1 (first m) (omega arith)) (and_both _ _ (le-leb (first m) (last m) (omega arith)) (and_both _ _ (le-leb (last m) 99 (omega arith))
      (and_both _ _ made-heads (and_both _ _ made-tracks_kept (body-extras_kept ts out made-tracks))))))

  made-walk : walk_kept 1 (body_of ts out) ≡ true
  unfolding walk_kept step_kept starts floor_of next_of
  made-walk =
      and_both _ _ (every-all _ _ (λ k l. let z : k ≡ 0 = omega arith in rw z (and_both _ _ made-session (eq-eqb (first (body_of ts out)) _ refl))))
      (eq-eqb _ _ (zero-add (size (body_of ts out)) ∙ body-size ts out made-tracks))

  made-rule1 : rule1 (table_with ts out) ≡ true
  unfolding rule1 table_with
  made-rule1 =
      let n = table_with-length ts out in
      let m = body_of-length ts out in
      let c = walked_low in let d = walked-order in let e = walked-high in
      let l = made-length in
      let u = table_with ts out in
      and_both _ _ (le-leb header (length u) (omega arith)) (and_both _ _ (le-leb (length u) bound (omega arith)) (and_both _ _ (eq-eqb ((length u - header) % row) 0 (omega arith))
      (eq-eqb _ (length u - 2) (bytes16_exact (2 + length (body_of ts out)) (omega arith) ∙ omega arith))))

  pub made-fit : is_fit (table_with ts out) ≡ true
  unfolding rule2 table_with ◌and◌
  made-fit = sym (walk_fit (table_with ts out) made-rule1 refl) ∙ made-walk

-- ---- and read back

made_one : (ts : List Track) (out : Track) → last_session (table_with ts out) ≡ 1
unfolding table_with
made_one ts out = refl

made-rows : (ts : List Track) (out : Track) → descriptors (table_with ts out) ≡ body_of ts out
unfolding table_with
made-rows ts out = refl

-- the track of a descriptor
abbrev track_of : Row → Track
track_of r = record { flags = r.flags; number = r.point; minute = r.pmin; second = r.psec; frame = r.pframe }

-- numbered tracks are as many as A0 and A1 tell
numbered-count : (ts : List Track) (out : Track) → is_numbered ts ≡ true → tracks (body_of ts out) ≡ length ts
numbered-count ts out n =
    let f = body-first ts out in
    let l = body-last ts out in
    let m = is_numbered_parts ts n in
    omega arith

numbered-tracks : (ts : List Track) (out : Track) → is_numbered ts ≡ true
    → up_to (λ i. track_at (body_of ts out) (3 + i)) (tracks (body_of ts out)) ≡ ts
numbered-tracks ts out n =
    let f : ℕ → Track = λ i. track_at (body_of ts out) (3 + i) in
    let e = up_to-length f (tracks (body_of ts out)) in
    let c = numbered-count ts out n in
    ext_get_or no_track (up_to f (tracks (body_of ts out))) ts (e ∙ c)
    (λ i l. up_to-at f (tracks (body_of ts out)) i (omega arith) ∙ ap track_of (body-track ts out i (omega arith)))

-- a made table that is fit is of one session and holds what it was made of
pub made_holds : (ts : List Track) (out : Track) → is_numbered ts ≡ true → out.number ≡ AA → is_fit (table_with ts out) ≡ true
    → Holds (table_with ts out) ts out
made_holds ts out n a f = record {
  fit = f;
  one = made_one ts out;
  tracks = single-tracks (is_fit_true f) (made_one ts out)
      ∙ ap (λ (d : List ℕ). up_to (λ i. track_at d (3 + i)) (tracks d)) (made-rows ts out)
      ∙ numbered-tracks ts out n;
  session_lead_out = ap (λ (d : List ℕ). placed_at d 2 AA) (made-rows ts out)
      ∙ ap (λ (r : Row). record { flags = r.flags; number = AA; minute = r.pmin; second = r.psec; frame = r.pframe }) (body-A2 ts out)
      ∙ (λ i. record { flags = out.flags; number = sym a i; minute = out.minute; second = out.second; frame = out.frame });
}

-- ---- what else is written

module _ (ts : List Track) (out : Track) where
  -- A0 and A1 have the first and the last track's control, and the disc type is 0
  pub made-A0-flags : flags_at (descriptors (table_with ts out)) 0 ≡ (first_of ts).flags
  unfolding table_with body_of
  made-A0-flags = refl

  pub made-A1-flags : flags_at (descriptors (table_with ts out)) 1 ≡ (last_of ts).flags
  unfolding table_with body_of
  made-A1-flags = refl

  pub made-type : psec_at (descriptors (table_with ts out)) 0 ≡ 0
  unfolding table_with body_of
  made-type = refl

  pub made-count : rows (descriptors (table_with ts out)) ≡ 3 + length ts
  made-count = let e = ap length (made-rows ts out) ∙ body_of-length ts out in omega arith

  -- MIN, SEC and FRAME are 0 in each descriptor
  pub made-times : (j : ℕ) → j < rows (descriptors (table_with ts out)) → let r = row_at (descriptors (table_with ts out)) j in
      (r.min ≡ 0) × (r.sec ≡ 0) × (r.frame ≡ 0)
  made-times j l =
      let n = made-count in
      rw (made-rows ts out) (elim (dec_le 3 j) [
        | yes h ↦ (let z : j ≡ 3 + (j - 3) = omega arith in let e = ap (row_at (body_of ts out)) z ∙ body-track ts out (j - 3) (omega arith) in timeless e)
        | no h ↦ elim (ℕ_discrete j 0) [
          | yes z ↦ timeless (ap (row_at (body_of ts out)) z ∙ body-A0 ts out)
          | no y ↦ elim (ℕ_discrete j 1) [
            | yes z ↦ timeless (ap (row_at (body_of ts out)) z ∙ body-A1 ts out)
            | no x ↦ (let k = lt_of_not-le h in let z : j ≡ 2 = omega arith in timeless (ap (row_at (body_of ts out)) z ∙ body-A2 ts out))
          ]
        ]
      ])
    where
      timeless : {r : Row} {flags point m s f : ℕ} → r ≡ row_made flags point m s f → (r.min ≡ 0) × (r.sec ≡ 0) × (r.frame ≡ 0)
      timeless e = (ap (λ (r : Row). r.min) e, ap (λ (r : Row). r.sec) e, ap (λ (r : Row). r.frame) e)

  -- no B0h and no C0h
  pub made_plain : is_numbered ts ≡ true → is_fit (table_with ts out) ≡ true → (j : ℕ) → j < rows (descriptors (table_with ts out))
      → is_extra (point_at (descriptors (table_with ts out)) j) ≡ false
  made_plain n f j l =
      let c = numbered-count ts out n in
      single-plain (is_fit_true f) (made_one ts out) (made-count ∙ ap (λ (k : ℕ). 3 + k) (sym c ∙ ap tracks (sym (made-rows ts out)))) j l

-- ---- the tracks of any fit table of one session are numbered

follows-at : (t : Track) (ts : List Track) → ((i : ℕ) → i < length ts → (get_or ts i no_track).number ≡ t.number + 1 + i) → follows_from t ts ≡ true
unfolding follows_from
follows-at t [] f = refl
follows-at t (u ∷ ts) f =
    let e : u.number ≡ t.number + 1 = let z = f 0 (omega arith) in omega arith in
    and_both _ _ (eq-eqb _ _ e) (follows-at u ts (λ i l. let z : (get_or ts i no_track).number ≡ t.number + 1 + suc i = f (suc i) (omega arith) in omega arith))

pub held-numbered : {t : List ℕ} {ts : List Track} {out : Track} → Holds t ts out → is_numbered ts ≡ true
unfolding is_numbered follows
held-numbered {t} {ts} {out} h =
    let a = made-first h in let b = made-last h in
    let p = body-first ts out in let q = body-last ts out in
    let c = walked_low h in let d = walked-order h in let e = walked-high h in
    and_both _ _ (le-leb 1 (first_of ts).number (omega arith)) (and_both _ _ (le-leb (last_of ts).number 99 (omega arith)) (run ts refl))
  where
    number : (us : List Track) → us ≡ ts → (j : ℕ) → j < length us → (get_or us j no_track).number ≡ first (descriptors t) + j
    number us e j l =
        let n = ap length e ∙ made-length h in
        ap (λ (u : Track). u.number) (ap (λ (x : List Track). get_or x j no_track) e ∙ made_at h j (omega arith))
        ∙ single-number (is-fit h) h.one j (omega arith)

    run : (us : List Track) → us ≡ ts → follows us ≡ true
    run [] e = refl
    run (u ∷ us) e = follows-at u us (λ i l.
        let y : u.number ≡ first (descriptors t) + 0 = number (u ∷ us) e 0 (omega arith) in
        let z : (get_or us i no_track).number ≡ first (descriptors t) + suc i = number (u ∷ us) e (suc i) (omega arith) in
        omega arith)
