-- The laws of the table made: its parts one after the other.
use Rattle.std.specs.Prelude.{◌≡◌, refl, Bool, true, false, Some, List, [], ◌∷◌, ◌++◌, ℕ, ◌+◌, ◌*◌, ◌≤◌, eqb, length, take}
use Rattle.std.proofs.Common.{sym, ap, ◌∙◌, arith}
use Rattle.ground.specs.Tests.{choose◌then◌else◌}
use Rattle.ground.specs.Number.{bytes16}
use Rattle.ground.specs.Memory.{Laid, laid_fits}
use Rattle.table.specs.Layout.{bound, A0, A1, A2}
use Rattle.cue.specs.declared.entry.Track.{Track}
use Rattle.cue.specs.declared.entry.Entry.{Entry}
use Rattle.cue.specs.declared.sheet.Span.{Span}
use Rattle.cue.specs.Sheet.{entry_at, begun, tracks_in, first_of, last_of}
use Rattle.cue.specs.SheetLaws.{tracks_in_more}
use Rattle.cue.specs.SpanLaws.{span_of, is_run, is_run-counted}
use Rattle.cue.specs.Made.{head_row, placed_row, rows_of, body_of, table_with}

-- ---- the descriptors of the tracks, entry by entry

-- what is written for an entry
unfoldable pub shown_entry : Entry → List ℕ
shown_entry e = choose eqb e.index 1 then placed_row e.track.number e.track else []

shown_entry-begun : (e : Entry) → rows_of (begun e) ≡ shown_entry e
unfolding rows_of shown_entry begun choose◌then◌else◌
shown_entry-begun e = step (eqb e.index 1)
  where
    step : (b : Bool) → rows_of (choose b then e.track ∷ [] else []) ≡ (choose b then placed_row e.track.number e.track else [])
    step true = refl
    step false = refl

rows_of-append : (x y : List Track) → rows_of (x ++ y) ≡ rows_of x ++ rows_of y
unfolding rows_of
rows_of-append [] y = refl
rows_of-append (t ∷ x) y = ap (λ (l : List ℕ). placed_row t.number t ++ l) (rows_of-append x y)

pub rows_of-none : (s : List ℕ) → rows_of (tracks_in s 0) ≡ []
unfolding rows_of tracks_in
rows_of-none s = refl

pub rows_of-entry : (s : List ℕ) (j : ℕ) → rows_of (tracks_in s (j + 1)) ≡ rows_of (tracks_in s j) ++ shown_entry (entry_at s (j + 1))
rows_of-entry s j =
    ap rows_of (tracks_in_more s j)
    ∙ rows_of-append (tracks_in s j) (begun (entry_at s (j + 1)))
    ∙ ap (λ (l : List ℕ). rows_of (tracks_in s j) ++ l) (shown_entry-begun (entry_at s (j + 1)))

pub rows_of-length : (ts : List Track) → length (rows_of ts) ≡ 11 * length ts
unfolding rows_of
rows_of-length [] = refl
rows_of-length (t ∷ ts) = let e = rows_of-length ts in omega arith

-- ---- header, A0, A1 and A2, and the tracks

-- the header of a table of n tracks
abbrev pub header_of : ℕ → List ℕ
header_of n = bytes16 (2 + 11 * (3 + n)) ++ 1 ∷ 1 ∷ []

abbrev pub heads_of : Track → Track → Track → List ℕ
heads_of first last out = head_row A0 first ++ head_row A1 last ++ placed_row A2 out

pub body_of-length : (ts : List Track) (out : Track) → length (body_of ts out) ≡ 11 * (3 + length ts)
unfolding body_of
body_of-length ts out = let e = rows_of-length ts in omega arith

pub table_with_laid :
    (ts : List Track) (out : Track) {n : ℕ} {f l : Track} → n ≡ length ts → f ≡ first_of ts → l ≡ last_of ts
    → table_with ts out ≡ (header_of n ++ heads_of f l out) ++ rows_of ts
unfolding table_with body_of
table_with_laid ts out {n} h f l =
    let e : length (body_of ts out) ≡ 11 * (3 + n) = body_of-length ts out ∙ ap (λ (k : ℕ). 11 * (3 + k)) (sym h) in
    ap (λ (k : ℕ). bytes16 (2 + k) ++ 1 ∷ 1 ∷ body_of ts out) e ∙ rw (f, l)

pub table_with-length : (ts : List Track) (out : Track) → length (table_with ts out) ≡ 37 + 11 * length ts
unfolding table_with
table_with-length ts out = let e = body_of-length ts out in omega arith

-- the table of at most 99 tracks is far below the bound, and all of it is laid
pub table_with-whole :
    {p : Span} (ts : List Track) → Some p ≡ span_of ts → is_run p ≡ true → (out : Track) {m m' : List ℕ} {r : ℕ}
    → Laid m (table_with ts out) r m' → length m ≡ bound
    → (r ≡ length (table_with ts out)) × (take r m' ≡ table_with ts out) × (length (table_with ts out) ≤ bound)
table_with-whole ts e h out l k =
    let c = is_run-counted ts e h in
    let n = table_with-length ts out in
    let f = laid_fits l (omega arith) in
    (f.0, f.1, omega arith)
