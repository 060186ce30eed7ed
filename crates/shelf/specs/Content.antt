-- What one table adds: "over the fit ones tracks, data blocks, audio blocks, blocks of no track".
use Rattle.std.specs.Prelude.{ℕ, Bool, not, List}
use Rattle.table.specs.Layout.{descriptors, rows, point_at, is_track}
use Rattle.disc.specs.Rules.{session_lead_out}
use Rattle.disc.specs.Disc.{last_part}
use Rattle.tracks.specs.Track.{track_of}
use Rattle.tracks.specs.declared.track.Track.{Track}
use Rattle.shelf.specs.Count.{count_below}

-- L, "the last session's lead-out"
abbrev pub last_out : List ℕ → ℕ
last_out t = session_lead_out (last_part t)

-- how many descriptors are tracks
unfoldable pub tracks_in : List ℕ → ℕ
tracks_in t = count_below (rows (descriptors t)) (λ j. is_track (point_at (descriptors t) j))

-- how many of the blocks 0 to L - 1 belong to such a track, each by the track of that block
unfoldable pub blocks_in : (Track → Bool) → List ℕ → ℕ
blocks_in such t = count_below (last_out t) (λ b. such (track_of (descriptors t) b))

-- no track (number 0)
unfoldable pub is_none : Track → Bool
is_none u = not (is_track u.number)
