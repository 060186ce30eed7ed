-- READ TOC's descriptors: "0, ADR/control, number, 0, address (4 bytes, or 0 M S F)".
use Rattle.std.specs.Prelude.{ℕ, zero, suc, Bool, List, [], ◌∷◌, ◌++◌, leb}
use Rattle.ground.specs.Tests.{◌and◌, choose◌then◌else◌}
use Rattle.address.specs.Address.{shown_address}
use Rattle.table.specs.Layout.{flags_at, point_at, is_track}
use Rattle.table.specs.Row.{address_at}

-- "0, ADR/control, number, 0, address"
abbrev pub described : Bool → ℕ → ℕ → ℕ → List ℕ
described msf flags number a = 0 ∷ flags ∷ number ∷ 0 ∷ shown_address msf a

-- such a descriptor for descriptor j of the table
abbrev pub described_row : Bool → List ℕ → ℕ → List ℕ
described_row msf d j = described msf (flags_at d j) (point_at d j) (address_at d j)

-- descriptor j of the table is a track "numbered N or more"; K1: "formats 0 and 1 pass over" B0h and C0h
unfoldable pub is_shown : ℕ → List ℕ → ℕ → Bool
is_shown n d j = is_track (point_at d j) and leb n (point_at d j)

unfoldable pub shown_track : Bool → ℕ → List ℕ → ℕ → List ℕ
shown_track msf n d j = choose is_shown n d j then described_row msf d j else []

-- "8 bytes for each track numbered N or more", of the table's first descriptors
unfoldable pub shown_tracks : Bool → ℕ → List ℕ → ℕ → List ℕ
shown_tracks msf n d zero = []
shown_tracks msf n d (suc j) = shown_tracks msf n d j ++ shown_track msf n d j
