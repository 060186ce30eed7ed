-- K12: what a table of one session holds of "tracks, controls and addresses", read off its descriptors.
use Rattle.std.specs.Prelude.{◌≡◌, true, List, [], ◌∷◌, ◌++◌, ℕ, zero, suc, ◌<◌, get_or}
use Rattle.ground.specs.Tests.{choose◌then◌else◌}
use Rattle.table.specs.Layout.{last_session, descriptors, rows, flags_at, point_at, pmin_at, psec_at, pframe_at, is_track}
use Rattle.disc.specs.Rules.{is_fit}
use Rattle.cue.specs.declared.entry.Track.{Track}
use Rattle.cue.specs.Sheet.{AA}

-- descriptor j, under that number: its ADR and control, and its address
abbrev pub placed_at : List ℕ → ℕ → ℕ → Track
placed_at d j n = record { flags = flags_at d j; number = n; minute = pmin_at d j; second = psec_at d j; frame = pframe_at d j }

-- a track's number is its POINT
abbrev pub track_at : List ℕ → ℕ → Track
track_at d j = placed_at d j (point_at d j)

-- the tracks among the first j descriptors
unfoldable pub held_in : List ℕ → ℕ → List Track
held_in d zero = []
held_in d (suc j) = held_in d j ++ (choose is_track (point_at d j) then track_at d j ∷ [] else [])

-- of the whole table
abbrev pub held_tracks : List ℕ → List Track
held_tracks t = held_in (descriptors t) (rows (descriptors t))

-- its lead-out: A2 is the third descriptor
abbrev pub held_lead_out : List ℕ → Track
held_lead_out t = placed_at (descriptors t) 2 AA

-- "fit table has those tracks, controls and addresses": a fit one, of one session; every ADR is 1 in a sheet and in a fit table
pub record Holds (t : List ℕ) (ts : List Track) (out : Track) : Type 0 where
  pub fit : is_fit t ≡ true
  pub one : last_session t ≡ 1
  pub tracks : held_tracks t ≡ ts
  pub session_lead_out : held_lead_out t ≡ out

-- a list of bytes
pub record Bytes (l : List ℕ) : Type 0 where
  pub small : (i : ℕ) → get_or l i 0 < 256
