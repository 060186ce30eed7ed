-- K12, "Masters arrive as cue sheets": what is written for a sheet, which sheets are refused, and what the output memory then holds.
use Rattle.std.specs.Prelude.{◌≡◌, false, List, ℕ, ◌+◌, ◌*◌, ◌<◌, length}
use Rattle.table.specs.Layout.{descriptors, rows, flags_at, point_at, psec_at, is_extra}
use Rattle.table.specs.Row.{row_at}
use Rattle.cue.specs.Sheet.{tracks_of, lead_out_of, first_of, last_of}
use Rattle.cue.specs.Held.{Holds}

-- ---- the table of a sheet

-- what is told of the table t that is written for the sheet s
pub record Told (s t : List ℕ) : Type 0 where
  -- "The written table is fit, with exactly the sheet's tracks, controls and addresses": read back, of one session
  pub holds : Holds t (tracks_of s) (lead_out_of s)
  -- "A0 and A1 take the first and last track's control"
  pub first : flags_at (descriptors t) 0 ≡ (first_of (tracks_of s)).flags
  pub last : flags_at (descriptors t) 1 ≡ (last_of (tracks_of s)).flags
  -- "no B0h or C0h"
  pub plain : (j : ℕ) → j < rows (descriptors t) → is_extra (point_at (descriptors t) j) ≡ false
  -- "disc type, MIN, SEC and FRAME are 0"
  pub disc_type : psec_at (descriptors t) 0 ≡ 0
  pub times : (j : ℕ) → j < rows (descriptors t) → let r = row_at (descriptors t) j in (r.min ≡ 0) × (r.sec ≡ 0) × (r.frame ≡ 0)
  pub size : length t ≡ 37 + 11 * length (tracks_of s)

-- "no fit table has those tracks, controls and addresses": none at all, of any bytes
abbrev pub NoTable : List ℕ → Type 0
NoTable s = (t : List ℕ) → Holds t (tracks_of s) (lead_out_of s) → ⊥
