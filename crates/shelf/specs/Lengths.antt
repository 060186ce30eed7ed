-- The same blocks by the tracks' lengths, as the code counts them: no block is gone over.
use Rattle.std.specs.Prelude.{ℕ, zero, suc, ◌+◌, ◌-◌, Bool, List, ltb, Option, Some, None}
use Rattle.ground.specs.Tests.{choose◌then◌else◌}
use Rattle.table.specs.Layout.{flags_at}
use Rattle.sessions.specs.Session.{tracks, session}
use Rattle.disc.specs.Rules.{session_lead_out, track_start, out_before}
use Rattle.tracks.specs.Track.{is_data, flagged}
use Rattle.tracks.specs.declared.track.Mode.{Mode}
use Rattle.shelf.specs.Count.{sum_below}
use Rattle.shelf.specs.declared.content.Run.{Run}

-- of the session that s begins with, with n tracks: where the track after i others starts, and past the last the lead-out
unfoldable pub edge : List ℕ → ℕ → ℕ → ℕ
edge s n i = choose ltb i n then track_start s i else session_lead_out s

-- the blocks of the track after i others, if it is of that mode
unfoldable pub track_blocks : Mode → List ℕ → ℕ → ℕ → ℕ
track_blocks mode s n i = choose flagged mode (flags_at s (3 + i)) then edge s n (i + 1) - edge s n i else 0

-- the blocks of the session's tracks of that mode
unfoldable pub mode_blocks : Mode → List ℕ → ℕ
mode_blocks mode s = sum_below (tracks s) (track_blocks mode s (tracks s))

-- the blocks of no track before the session after k others
unfoldable pub gap_before : List ℕ → ℕ → ℕ
gap_before d k = track_start (session d k) 0 - out_before d k

-- ---- how the code goes over a session's tracks: data tracks one after the other are one run, and an address is looked at where one begins
-- or ends

-- nothing passed
abbrev pub idle : Run
idle = record { blocks = 0; from = None }

-- where a run begins at the latest: where it began already, or here
unfoldable pub since : Option ℕ → ℕ → ℕ
since (Some a) e = a
since None e = e

-- what is known once a track has been passed that starts there
unfoldable pub run_past : Bool → ℕ → Run → Run
run_past b start r =
    choose b
    then record { blocks = r.blocks; from = Some (since r.from start) }
    else record { blocks = r.blocks + (start - since r.from start); from = None }

-- once the first i tracks have been passed
unfoldable pub run_at : List ℕ → ℕ → Run
run_at s zero = idle
run_at s (suc i) = run_past (is_data (flags_at s (3 + i))) (track_start s i) (run_at s i)

-- the blocks in all, where the next edge is there
unfoldable pub blocks_to : ℕ → Run → ℕ
blocks_to e r = r.blocks + (e - since r.from e)
