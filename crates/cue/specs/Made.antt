-- K12: the table that is made of a sheet's tracks and lead-out.
use Rattle.std.specs.Prelude.{ℕ, ◌+◌, List, [], ◌∷◌, ◌++◌, length}
use Rattle.ground.specs.Number.{bytes16}
use Rattle.table.specs.Layout.{A0, A1, A2}
use Rattle.cue.specs.declared.entry.Track.{Track}
use Rattle.cue.specs.Sheet.{tracks_of, lead_out_of, first_of, last_of}

-- a descriptor of session 1: ADR and control, POINT and address; TNO, ZERO, "MIN, SEC and FRAME are 0"
abbrev pub descriptor : ℕ → ℕ → ℕ → ℕ → ℕ → List ℕ
descriptor flags point m s f = 1 ∷ flags ∷ 0 ∷ point ∷ 0 ∷ 0 ∷ 0 ∷ 0 ∷ m ∷ s ∷ f ∷ []

-- "A0 and A1 take the first and last track's control", and their numbers; "disc type .. 0"
abbrev pub head_row : ℕ → Track → List ℕ
head_row point t = descriptor t.flags point t.number 0 0

-- a track's own, and under A2 the lead-out's: "exactly the sheet's tracks, controls and addresses"
abbrev pub placed_row : ℕ → Track → List ℕ
placed_row point t = descriptor t.flags point t.minute t.second t.frame

unfoldable pub rows_of : List Track → List ℕ
rows_of [] = []
rows_of (t ∷ ts) = placed_row t.number t ++ rows_of ts

-- A0, A1, A2, the tracks; "no B0h or C0h"
unfoldable pub body_of : List Track → Track → List ℕ
body_of ts out = head_row A0 (first_of ts) ++ head_row A1 (last_of ts) ++ placed_row A2 out ++ rows_of ts

-- and before them the header of a table of one session
unfoldable pub table_with : List Track → Track → List ℕ
table_with ts out = bytes16 (2 + length (body_of ts out)) ++ 1 ∷ 1 ∷ body_of ts out

abbrev pub table_of : List ℕ → List ℕ
table_of s = table_with (tracks_of s) (lead_out_of s)
