-- The table made of a sheet of bytes is one of bytes.
use Rattle.std.specs.Prelude.{◌≡◌, List, [], ◌∷◌, ◌++◌, ℕ, zero, suc, ◌+◌, ◌-◌, ◌*◌, ◌<◌, eqb, length, get_or}
use Rattle.std.proofs.Common.{ap, ◌∙◌, arith, lt_of_not-le, get_or-append-add}
use Rattle.std.proofs.Math.Decide.{dec_le}
use Rattle.std.proofs.Math.ListN.{get_or-append}
use Rattle.ground.specs.Tests.{either}
use Rattle.cue.specs.declared.entry.Track.{Track}
use Rattle.cue.specs.Sheet.{entry_size, entry_at, entries, begun, tracks_in, tracks_of, lead_out_of, no_track, first_of, last_from, last_of}
use Rattle.cue.specs.Made.{descriptor, placed_row, rows_of, body_of, table_with, table_of}
use Rattle.cue.specs.Held.{Bytes}

-- ---- lists of bytes

bytes-none : Bytes []
bytes-none = record { small = λ i. omega arith }

bytes_more : {b : ℕ} {l : List ℕ} → b < 256 → Bytes l → Bytes (b ∷ l)
bytes_more {b} {l} h f = record { small = at }
  where
    at : (i : ℕ) → get_or (b ∷ l) i 0 < 256
    at zero = h
    at (suc i) = f.small i

bytes-append : (a : List ℕ) {b : List ℕ} → Bytes a → Bytes b → Bytes (a ++ b)
bytes-append a {b} f g = record {
  small = λ i. elim (dec_le (length a) i) [
    | yes h ↦ (let z : i ≡ length a + (i - length a) = omega arith in
        let e = ap (λ (k : ℕ). get_or (a ++ b) k 0) z ∙ get_or-append-add a b (i - length a) 0 in let k = g.small (i - length a) in omega arith)
    | no h ↦ (let e = get_or-append a b 0 i (lt_of_not-le h) in let k = f.small i in omega arith)
  ];
}

-- ---- tracks of bytes

pub record Fields (t : Track) : Type 0 where
  pub flags : t.flags < 256
  pub number : t.number < 256
  pub minute : t.minute < 256
  pub second : t.second < 256
  pub frame : t.frame < 256

no_fields : Fields no_track
no_fields = record { flags = omega arith; number = omega arith; minute = omega arith; second = omega arith; frame = omega arith }

-- each of them
data Each : List Track → Type 0 where
  nil : Each []
  cons : {t : Track} {ts : List Track} → Fields t → Each ts → Each (t ∷ ts)

each_append : {x y : List Track} → Each x → Each y → Each (x ++ y)
each_append nil g = g
each_append (cons h f) g = cons h (each_append f g)

first_fields : {ts : List Track} → Each ts → Fields (first_of ts)
unfolding first_of
first_fields nil = no_fields
first_fields (cons h f) = h

last_from_fields : {t : Track} {ts : List Track} → Fields t → Each ts → Fields (last_from t ts)
unfolding last_from
last_from_fields h nil = h
last_from_fields h (cons k f) = last_from_fields k f

last_fields : {ts : List Track} → Each ts → Fields (last_of ts)
unfolding last_of
last_fields nil = no_fields
last_fields (cons h f) = last_from_fields h f

-- ---- of a sheet of bytes

entry_fields : (s : List ℕ) → Bytes s → (i : ℕ) → Fields (entry_at s i).track
entry_fields s f i = record {
  flags = omega arith;
  number = f.small (entry_size * i + 1);
  minute = f.small (entry_size * i + 5);
  second = f.small (entry_size * i + 6);
  frame = f.small (entry_size * i + 7);
}

tracks_fields : (s : List ℕ) → Bytes s → (j : ℕ) → Each (tracks_in s j)
unfolding tracks_in begun
tracks_fields s f zero = nil
tracks_fields s f (suc j) =
    each_append (tracks_fields s f j)
    (either Each (eqb (entry_at s (j + 1)).index 1) (λ e. cons (entry_fields s f (j + 1)) nil) (λ e. nil))

-- ---- the table

descriptor-bytes : (flags point m s f : ℕ) → flags < 256 → point < 256 → m < 256 → s < 256 → f < 256 → Bytes (descriptor flags point m s f)
descriptor-bytes flags point m s f a b c d e =
    let z : 0 < 256 = omega arith in
    bytes_more (omega arith) (bytes_more a (bytes_more z (bytes_more b (bytes_more z (bytes_more z (bytes_more z (bytes_more z
    (bytes_more c (bytes_more d (bytes_more e bytes-none))))))))))

placed-bytes : (point : ℕ) (t : Track) → point < 256 → Fields t → Bytes (placed_row point t)
placed-bytes point t p h = descriptor-bytes _ _ _ _ _ h.flags p h.minute h.second h.frame

rows-bytes : {ts : List Track} → Each ts → Bytes (rows_of ts)
unfolding rows_of
rows-bytes nil = bytes-none
rows-bytes (cons {t} h f) = bytes-append (placed_row t.number t) (placed-bytes t.number t h.number h) (rows-bytes f)

body_bytes : (ts : List Track) (out : Track) → Each ts → Fields out → Bytes (body_of ts out)
unfolding body_of
body_bytes ts out e o =
    let z : 0 < 256 = omega arith in
    let f = first_fields e in
    let l = last_fields e in
    bytes-append _ (bytes-append _ (bytes-append _ (descriptor-bytes _ _ _ _ _ f.flags (omega arith) f.number z z)
    (descriptor-bytes _ _ _ _ _ l.flags (omega arith) l.number z z)) (placed-bytes _ out (omega arith) o)) (rows-bytes e)

pub table_of-bytes : (s : List ℕ) → Bytes s → Bytes (table_of s)
unfolding table_with
table_of-bytes s f =
    let n = 2 + length (body_of (tracks_of s) (lead_out_of s)) in
    bytes_more (omega arith) (bytes_more (omega arith) (bytes_more (omega arith) (bytes_more (omega arith)
    (body_bytes (tracks_of s) (lead_out_of s) (tracks_fields s f (entries s - 2)) (entry_fields s f (entries s - 1))))))
