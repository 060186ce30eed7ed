-- The tracks of a sheet gone over entry by entry: the first, the last, and whether each number is one more than the one before.
use Rattle.std.specs.Prelude.{◌≡◌, refl, Bool, true, false, Option, Some, None, List, [], ◌∷◌, ◌++◌, ℕ, ◌+◌, ◌-◌, ◌≤◌, leb, eqb, length}
use Rattle.std.proofs.Common.{sym, ap, ◌∙◌, append-nil, arith}
use Rattle.ground.specs.Tests.{◌and◌, choose◌then◌else◌, and_assoc}
use Rattle.cue.specs.declared.entry.Track.{Track}
use Rattle.cue.specs.declared.entry.Entry.{Entry}
use Rattle.cue.specs.declared.sheet.Span.{Span}
use Rattle.cue.specs.SheetLaws.{tracks_in_more, is_numbered_parts}
use Rattle.cue.specs.Sheet.{entry_at, begun, tracks_in, first_of, last_from, last_of, follows_from, follows, is_numbered}

-- ---- what is kept

unfoldable pub is_next : Span → Track → Bool
is_next p t = p.follows and eqb t.number (p.last.number + 1)

unfoldable pub with_track : Option Span → Track → Span
with_track None t = record { first = t; last = t; follows = true }
with_track (Some p) t = record { first = p.first; last = t; follows = is_next p t }

unfoldable pub with_entry : Option Span → Entry → Option Span
with_entry p e = choose eqb e.index 1 then Some (with_track p e.track) else p

unfoldable pub is_run : Span → Bool
is_run p = leb 1 p.first.number and leb p.last.number 99 and p.follows

-- of tracks
unfoldable pub span_of : List Track → Option Span
span_of [] = None
span_of (t ∷ ts) = Some (record { first = t; last = last_from t ts; follows = follows_from t ts })

-- ---- one track more

last_from_more : (t : Track) (us : List Track) (u : Track) → last_from t (us ++ u ∷ []) ≡ u
unfolding last_from
last_from_more t [] u = refl
last_from_more t (v ∷ us) u = last_from_more v us u

and_true : (b : Bool) → b and true ≡ true and b
unfolding ◌and◌
and_true true = refl
and_true false = refl

follows_from_more : (t : Track) (us : List Track) (u : Track)
    → follows_from t (us ++ u ∷ []) ≡ follows_from t us and eqb u.number ((last_from t us).number + 1)
unfolding follows_from last_from
follows_from_more t [] u = and_true (eqb u.number (t.number + 1))
follows_from_more t (v ∷ us) u =
    ap (λ (b : Bool). eqb v.number (t.number + 1) and b) (follows_from_more v us u) ∙ sym (and_assoc _ _ _)

span_of_more : (ts : List Track) (t : Track) → span_of (ts ++ t ∷ []) ≡ Some (with_track (span_of ts) t)
unfolding span_of with_track is_next last_from follows_from
span_of_more [] t = refl
span_of_more (u ∷ ts) t = rw (last_from_more u ts t, follows_from_more u ts t)

-- ---- one entry more

pub span_of-none : (s : List ℕ) → span_of (tracks_in s 0) ≡ None
unfolding span_of tracks_in
span_of-none s = refl

span_of-begun : (ts : List Track) (e : Entry) → span_of (ts ++ begun e) ≡ with_entry (span_of ts) e
unfolding with_entry begun choose◌then◌else◌
span_of-begun ts e = step (eqb e.index 1)
  where
    step : (b : Bool) → span_of (ts ++ (choose b then e.track ∷ [] else [])) ≡ (choose b then Some (with_track (span_of ts) e.track) else span_of ts)
    step true = span_of_more ts e.track
    step false = ap span_of (append-nil ts)

pub span_of-entry : (s : List ℕ) (j : ℕ) → span_of (tracks_in s (j + 1)) ≡ with_entry (span_of (tracks_in s j)) (entry_at s (j + 1))
span_of-entry s j = ap span_of (tracks_in_more s j) ∙ span_of-begun (tracks_in s j) (entry_at s (j + 1))

-- ---- of all tracks

-- what is kept of tracks that there are
pub record Kept (p : Span) (ts : List Track) : Type 0 where
  pub first : p.first ≡ first_of ts
  pub last : p.last ≡ last_of ts
  pub follows : p.follows ≡ follows ts

pub span_of-kept : {p : Span} (ts : List Track) → Some p ≡ span_of ts → Kept p ts
unfolding span_of first_of last_of follows
span_of-kept [] e = absurd (cc)
span_of-kept {p} (t ∷ ts) e =
    let q : p ≡ record { first = t; last = last_from t ts; follows = follows_from t ts } = cc in
    record { first = ap (λ (x : Span). x.first) q; last = ap (λ (x : Span). x.last) q; follows = ap (λ (x : Span). x.follows) q }

pub is_run-numbered : {p : Span} (ts : List Track) → Some p ≡ span_of ts → is_run p ≡ is_numbered ts
unfolding is_run is_numbered
is_run-numbered ts e = let k = span_of-kept ts e in rw (k.first, k.last, k.follows)

-- no tracks are not numbered
pub span_of-numbered : (ts : List Track) → None ≡ span_of ts → is_numbered ts ≡ false
unfolding span_of is_numbered first_of ◌and◌
span_of-numbered [] e = refl
span_of-numbered (t ∷ ts) e = cc

-- ---- tracks f, f + 1, .. l

-- what is kept tells how many there are
pub record Counted (p : Span) (ts : List Track) : Type 0 where
  pub first : p.first ≡ first_of ts
  pub last : p.last ≡ last_of ts
  pub order : p.first.number ≤ p.last.number + 1
  pub count : p.last.number + 1 - p.first.number ≡ length ts
  pub most : length ts ≤ 99

pub is_run-counted : {p : Span} (ts : List Track) → Some p ≡ span_of ts → is_run p ≡ true → Counted p ts
is_run-counted {p} ts e h =
    let k = span_of-kept ts e in
    let n = is_numbered_parts ts (sym (is_run-numbered ts e) ∙ h) in
    let a : p.first.number ≡ (first_of ts).number = ap (λ (t : Track). t.number) k.first in
    let b : p.last.number ≡ (last_of ts).number = ap (λ (t : Track). t.number) k.last in
    record { first = k.first; last = k.last; order = omega arith; count = omega arith; most = omega arith }
