-- A fit table of one session holds the tracks of its descriptors behind A0, A1 and A2, in their order, and no others.
use Rattle.std.specs.Prelude.{◌≡◌, refl, true, false, List, [], ◌∷◌, ◌++◌, ℕ, zero, suc, ◌+◌, ◌≤◌, ◌<◌, length, get_or}
use Rattle.std.proofs.Math.Path.{sym, ap}
use Rattle.std.proofs.Common.{◌∙◌, append-nil, arith, add-one, length-append}
use Rattle.std.proofs.Math.Nat.{zero-add}
use Rattle.std.proofs.Math.Decide.{ℕ_discrete}
use Rattle.std.proofs.Math.ListN.{get_or-append}
use Rattle.std.proofs.Math.Seq.{get_or-append_seam}
use Rattle.ground.specs.Tests.{when, unless}
use Rattle.table.specs.Layout.{last_session, descriptors, rows, point_at, A0, A1, A2, B0, C0, is_track, is_extra}
use Rattle.table.specs.RowLaws.{is_track_true, is_track-over, is_extra_not}
use Rattle.sessions.specs.Session.{first, tracks, one, b0s, c0s, count, starts}
use Rattle.sessions.specs.SessionLaws.{IsSession, rows_before}
use Rattle.disc.specs.RulesLaws.{Fit, fit-end-rows, fit-session}
use Rattle.disc.specs.FitLaws.{Kind, is_a0, is_a1, is_a2, is_track_after, is_b0, is_c0, fit-listed, fit-kind}
use Rattle.cue.specs.declared.entry.Track.{Track}
use Rattle.cue.specs.Sheet.{no_track}
use Rattle.cue.specs.Held.{track_at, held_in, held_tracks}

-- ---- f of 0, 1, .. and each number below n, one after the other

unfoldable pub up_to : (ℕ → Track) → ℕ → List Track
up_to f zero = []
up_to f (suc n) = up_to f n ++ f n ∷ []

pub up_to-length : (f : ℕ → Track) (n : ℕ) → length (up_to f n) ≡ n
unfolding up_to
up_to-length f zero = refl
up_to-length f (suc n) = let e = up_to-length f n in let l = length-append (up_to f n) (f n ∷ []) in omega arith

pub up_to-at : (f : ℕ → Track) (n i : ℕ) → i < n → get_or (up_to f n) i no_track ≡ f i
unfolding up_to
up_to-at f zero i h = absurd (omega arith)
up_to-at f (suc n) i h =
    let l = up_to-length f n in
    elim (ℕ_discrete i n) [
      | yes e ↦ ap (λ (k : ℕ). get_or (up_to f n ++ f n ∷ []) k no_track) (e ∙ sym l) ∙ get_or-append_seam (up_to f n) (f n) [] no_track ∙ ap f (sym e)
      | no e ↦ get_or-append (up_to f n) (f n ∷ []) no_track i (omega arith) ∙ up_to-at f n i (omega arith)
    ]

-- ---- descriptor by descriptor

held_in_track : (d : List ℕ) (j : ℕ) → is_track (point_at d j) ≡ true → held_in d (j + 1) ≡ held_in d j ++ track_at d j ∷ []
unfolding held_in
held_in_track d j h = ap (held_in d) (add-one j) ∙ ap (λ (l : List Track). held_in d j ++ l) (when _ _ _ h)

held_in_other : (d : List ℕ) (j : ℕ) → is_track (point_at d j) ≡ false → held_in d (j + 1) ≡ held_in d j
unfolding held_in
held_in_other d j h = ap (held_in d) (add-one j) ∙ ap (λ (l : List Track). held_in d j ++ l) (unless _ _ _ h) ∙ append-nil (held_in d j)

-- descriptors that are no tracks add none
held_in_others : (d : List ℕ) (a n : ℕ) → ((j : ℕ) → a ≤ j → j < a + n → is_track (point_at d j) ≡ false) → held_in d (a + n) ≡ held_in d a
held_in_others d a zero f = ap (held_in d) (omega arith)
held_in_others d a (suc n) f =
    ap (held_in d) (omega arith) ∙ held_in_other d (a + n) (f (a + n) (omega arith) (omega arith))
    ∙ held_in_others d a n (λ j h l. f j h (omega arith))

-- and those that are tracks add each its own
held_in-tracks : (d : List ℕ) (a n : ℕ) → held_in d a ≡ [] → ((i : ℕ) → i < n → is_track (point_at d (a + i)) ≡ true)
    → held_in d (a + n) ≡ up_to (λ i. track_at d (a + i)) n
unfolding up_to
held_in-tracks d a zero e f = ap (held_in d) (omega arith) ∙ e
held_in-tracks d a (suc n) e f =
    ap (held_in d) (omega arith) ∙ held_in_track d (a + n) (f n (omega arith))
    ∙ ap (λ (l : List Track). l ++ track_at d (a + n) ∷ []) (held_in-tracks d a n e (λ i l. f i (omega arith)))

-- ---- a fit table of one session

held_in-none : (d : List ℕ) → held_in d 0 ≡ []
unfolding held_in
held_in-none d = refl

module _ {t : List ℕ} (f : Fit t) (o : last_session t ≡ 1) where
  -- its session begins at its first descriptor
  pub single-session : IsSession 1 (descriptors t)
  unfolding starts
  single-session = fit-session f {k = 0} (omega arith)

  pub single-kind : (i : ℕ) → i < count (descriptors t) → Kind (descriptors t) i
  unfolding starts one
  single-kind i l = fit-kind f {k = 0} {i = i} (omega arith) l

  -- and ends with its last
  single-rows : rows (descriptors t) ≡ count (descriptors t)
  unfolding starts rows_before
  single-rows = sym (fit-end-rows f) ∙ ap (rows_before (descriptors t)) o ∙ zero-add (count (descriptors t))

  -- no track stands among the first three, nor past the last track
  single-heads : (i : ℕ) → i < 3 → is_track (point_at (descriptors t) i) ≡ false
  single-heads i h = elim (single-kind i (omega arith)) [
    | is_a0 e p ↦ ap is_track p ∙ is_track-over A0 (omega arith)
    | is_a1 e p ↦ ap is_track p ∙ is_track-over A1 (omega arith)
    | is_a2 e p ↦ ap is_track p ∙ is_track-over A2 (omega arith)
    | is_track_after m e b p ↦ absurd (omega arith)
    | is_b0 e p ↦ absurd (omega arith)
    | is_c0 e p ↦ absurd (omega arith)
  ]

  single-extras : (i : ℕ) → 3 + tracks (descriptors t) ≤ i → i < count (descriptors t) → is_track (point_at (descriptors t) i) ≡ false
  single-extras i h l =
      let s = single-session in
      let u = s.order in
      elim (single-kind i l) [
        | is_a0 e p ↦ absurd (omega arith)
        | is_a1 e p ↦ absurd (omega arith)
        | is_a2 e p ↦ absurd (omega arith)
        | is_track_after m e b p ↦ absurd (omega arith)
        | is_b0 e p ↦ ap is_track p ∙ is_track-over B0 (omega arith)
        | is_c0 e p ↦ ap is_track p ∙ is_track-over C0 (omega arith)
      ]

  -- where it ends with its last track it has no B0h and no C0h
  pub single-plain : rows (descriptors t) ≡ 3 + tracks (descriptors t) → (i : ℕ) → i < rows (descriptors t) → is_extra (point_at (descriptors t) i) ≡ false
  single-plain e i l =
      let r = single-rows in
      let s = single-session in
      let a = s.order in let b = s.high in
      elim (single-kind i (omega arith)) [
        | is_a0 q p ↦ is_extra_not (point_at (descriptors t) i) (λ z. omega arith) (λ z. omega arith)
        | is_a1 q p ↦ is_extra_not (point_at (descriptors t) i) (λ z. omega arith) (λ z. omega arith)
        | is_a2 q p ↦ is_extra_not (point_at (descriptors t) i) (λ z. omega arith) (λ z. omega arith)
        | is_track_after m q b p ↦ is_extra_not (point_at (descriptors t) i) (λ z. omega arith) (λ z. omega arith)
        | is_b0 q p ↦ absurd (omega arith)
        | is_c0 q p ↦ absurd (omega arith)
      ]

  -- the track after i others
  pub single-number : (i : ℕ) → i < tracks (descriptors t) → point_at (descriptors t) (3 + i) ≡ first (descriptors t) + i
  unfolding starts
  single-number i l = ((fit-listed f {k = 0} (omega arith)).track i l).point

  pub single-tracks : held_tracks t ≡ up_to (λ i. track_at (descriptors t) (3 + i)) (tracks (descriptors t))
  single-tracks =
      let d = descriptors t in
      let s = single-session in
      let a = s.low in let b = s.order in let c = s.high in
      let n : rows d ≡ 3 + tracks d + (b0s d + c0s d) = single-rows ∙ omega arith in
      ap (held_in d) n
      ∙ held_in_others d (3 + tracks d) (b0s d + c0s d) (λ j h l. single-extras j h (omega arith))
      ∙ held_in-tracks d 3 (tracks d)
      (held_in_others d 0 3 (λ j h l. single-heads j (omega arith)) ∙ held_in-none d)
      (λ i l. ap is_track (single-number i l) ∙ is_track_true (first d + i) (omega arith) (omega arith))
