-- K12, "Masters arrive as cue sheets": the entries of a sheet, its tracks and its lead-out, and what a described sheet is.
use Rattle.std.specs.Prelude.{ℕ, zero, suc, ◌+◌, ◌-◌, ◌*◌, ◌/◌, ◌%◌, Bool, true, List, [], ◌∷◌, ◌++◌, length, get_or, leb, eqb}
use Rattle.ground.specs.Tests.{◌and◌, every, choose◌then◌else◌}
use Rattle.cue.specs.declared.entry.Track.{Track}
use Rattle.cue.specs.declared.entry.Entry.{Entry}

-- ---- an entry

-- "the 8-byte entries of MMC's SEND CUE SHEET"
abbrev pub entry_size : ℕ
entry_size = 8

-- "(control high, ADR low, unlike our table)": a table has the ADR high
abbrev pub swapped : ℕ → ℕ
swapped b = b % 16 * 16 + b / 16 % 16

-- the entry that stands at byte `at`: control and ADR, TNO, index, data form, SCMS, M, S, F; "All numbers are plain binary"
abbrev pub entry_from : List ℕ → ℕ → Entry
entry_from s at = record {
  index = get_or s (at + 2) 0;
  track = record {
    flags = swapped (get_or s at 0);
    number = get_or s (at + 1) 0;
    minute = get_or s (at + 5) 0;
    second = get_or s (at + 6) 0;
    frame = get_or s (at + 7) 0;
  };
}

-- entry i, and how many there are
abbrev pub entry_at : List ℕ → ℕ → Entry
entry_at s i = entry_from s (entry_size * i)

abbrev pub entries : List ℕ → ℕ
entries s = length s / entry_size

-- ---- its parts

-- "AAh"
abbrev pub AA : ℕ
AA = 0xAA

-- "the lead-in (TNO 0, index 0, address ignored)"
unfoldable pub is_lead_in : Entry → Bool
is_lead_in e = eqb e.track.number 0 and eqb e.index 0

-- "AAh index 1 last"
unfoldable pub is_lead_out : Entry → Bool
is_lead_out e = eqb e.track.number AA and eqb e.index 1

-- the last entry
abbrev pub lead_out_of : List ℕ → Track
lead_out_of s = (entry_at s (entries s - 1)).track

-- "index 1 of each track"; "other indexes are passed over": what begins at an entry
unfoldable pub begun : Entry → List Track
begun e = choose eqb e.index 1 then e.track ∷ [] else []

-- "between": the tracks of the first j entries behind the lead-in
unfoldable pub tracks_in : List ℕ → ℕ → List Track
tracks_in s zero = []
tracks_in s (suc j) = tracks_in s j ++ begun (entry_at s (j + 1))

-- all between the lead-in and the lead-out
abbrev pub tracks_of : List ℕ → List Track
tracks_of s = tracks_in s (entries s - 2)

-- the first and the last of them
abbrev pub no_track : Track
no_track = record { flags = 0; number = 0; minute = 0; second = 0; frame = 0 }

unfoldable pub first_of : List Track → Track
first_of [] = no_track
first_of (t ∷ ts) = t

unfoldable pub last_from : Track → List Track → Track
last_from t [] = t
last_from t (u ∷ us) = last_from u us

unfoldable pub last_of : List Track → Track
last_of [] = no_track
last_of (t ∷ ts) = last_from t ts

-- ---- a described sheet

-- "first the lead-in .., AAh index 1 last"
unfoldable pub is_framed : List ℕ → Bool
is_framed s = leb 2 (entries s) and is_lead_in (entry_at s 0) and is_lead_out (entry_at s (entries s - 1))

-- "every ADR is 1": of the lead-in and of what is passed over too
unfoldable pub has_adr : Entry → Bool
has_adr e = eqb (e.track.flags / 16) 1

unfoldable pub every_adr : List ℕ → Bool
every_adr s = every (entries s) (λ i. has_adr (entry_at s i))

-- "in rising order": each number is one more than the one before, so each track is there once
unfoldable pub follows_from : Track → List Track → Bool
follows_from t [] = true
follows_from t (u ∷ us) = eqb u.number (t.number + 1) and follows_from u us

unfoldable pub follows : List Track → Bool
follows [] = true
follows (t ∷ ts) = follows_from t ts

-- tracks f, f + 1, .. l, from 1 to 99, one at least
unfoldable pub is_numbered : List Track → Bool
is_numbered ts = leb 1 (first_of ts).number and leb (last_of ts).number 99 and follows ts

-- "as described here"
unfoldable pub is_described : List ℕ → Bool
is_described s = is_framed s and every_adr s and is_numbered (tracks_of s)
