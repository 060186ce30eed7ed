-- "The lent disc table": its layout.
use Rattle.std.specs.Prelude.{ℕ, ◌+◌, ◌*◌, ◌/◌, Bool, List, length, get_or, drop, leb, eqb}
use Rattle.ground.specs.Tests.{◌and◌, ◌or◌}
use Rattle.ground.specs.Number.{word16}

-- K1: "6,538 bytes (594 descriptors) replaces 4,360 in rule 1" and in refusal 3: the most bytes of a table, the least of the response
-- memory, and so the most of an answer (K9)
abbrev pub bound : ℕ
bound = 6538

-- "2 bytes data length, first session, last session S, then 11-byte descriptors"
abbrev pub data_length : List ℕ → ℕ
data_length t = word16 (get_or t 0 0) (get_or t 1 0)

abbrev pub first_session : List ℕ → ℕ
first_session t = get_or t 2 0

abbrev pub last_session : List ℕ → ℕ
last_session t = get_or t 3 0

abbrev pub header : ℕ
header = 4

abbrev pub row : ℕ
row = 11

abbrev pub descriptors : List ℕ → List ℕ
descriptors t = drop header t

-- how many whole descriptors
abbrev pub rows : List ℕ → ℕ
rows d = length d / row

-- fields of descriptor j that are asked for by themselves; `row_at` has it whole
abbrev pub session_at : List ℕ → ℕ → ℕ
session_at d j = get_or d (row * j) 0

abbrev pub flags_at : List ℕ → ℕ → ℕ
flags_at d j = get_or d (row * j + 1) 0

abbrev pub point_at : List ℕ → ℕ → ℕ
point_at d j = get_or d (row * j + 3) 0

abbrev pub pmin_at : List ℕ → ℕ → ℕ
pmin_at d j = get_or d (row * j + 8) 0

abbrev pub psec_at : List ℕ → ℕ → ℕ
psec_at d j = get_or d (row * j + 9) 0

abbrev pub pframe_at : List ℕ → ℕ → ℕ
pframe_at d j = get_or d (row * j + 10) 0

-- the POINTs: A0h, A1h, A2h (lead-out), K1's B0h and C0h, and the tracks' numbers
abbrev pub A0 : ℕ
A0 = 0xA0

abbrev pub A1 : ℕ
A1 = 0xA1

abbrev pub A2 : ℕ
A2 = 0xA2

abbrev pub B0 : ℕ
B0 = 0xB0

abbrev pub C0 : ℕ
C0 = 0xC0

unfoldable pub is_track : ℕ → Bool
is_track p = leb 1 p and leb p 99

-- K1: "POINT B0h" or "C0h"
unfoldable pub is_extra : ℕ → Bool
is_extra p = eqb p B0 or eqb p C0
