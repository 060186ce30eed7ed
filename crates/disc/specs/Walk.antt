-- What one walk over the descriptors asks of each, in the order in which it passes them: WalkFit shows that this is fitness.
use Rattle.std.specs.Prelude.{ℕ, zero, suc, ◌+◌, ◌*◌, Bool, List, length, leb, eqb, Option, Some, None, Result, Ok, Err}
use Rattle.ground.specs.Tests.{◌and◌, every, choose◌then◌else◌}
use Rattle.table.specs.Layout.{row, A2, B0, C0}
use Rattle.table.specs.Row.{row_from, row_at, frames_at}
use Rattle.table.specs.Asked.{kept, a0_kept, a1_kept, extra_kept, extra_passed, climbs, holds}
use Rattle.sessions.specs.Session.{first, last, tracks, b0s, size, starts, session}
use Rattle.disc.specs.Rules.{first_broken, row_rules}
use Rattle.std.specs.Option.{option_and_then}
use Rattle.disc.specs.Disc.{disc_from, unfit_by}
use Rattle.disc.specs.declared.disc.Disc.{Disc}
use Rattle.disc.specs.declared.disc.Unfit.{Unfit}

-- all that is asked of A0, A1 and A2 of session k
unfoldable pub heads_kept : List ℕ → ℕ → Bool
heads_kept d k = a0_kept (row_at d 0) k and a1_kept (row_at d 1) k and kept (row_at d 2) k A2

-- the least frame at which the track after i others may start, where `floor` is the first track's
unfoldable pub floor_at : List ℕ → ℕ → ℕ → ℕ
floor_at d floor zero = floor
floor_at d floor (suc i) = frames_at d (3 + i) + 1

-- rules 3, 4, 6 and 7 of the track after i others, but for its minute: that of the lead-out bounds it
unfoldable pub track_kept : List ℕ → ℕ → ℕ → ℕ → ℕ → Bool
track_kept d k f floor i = kept (row_at d (3 + i)) k (f + i) and climbs (row_at d (3 + i)) (floor_at d floor i)

-- of all n tracks, and of the lead-out after them
unfoldable pub tracks_kept : List ℕ → ℕ → ℕ → ℕ → ℕ → Bool
tracks_kept d k f n floor = every n (track_kept d k f floor) and holds (row_at d 2) (floor_at d floor n)

-- where the tracks end; nowhere if they are not kept
unfoldable pub tracks_end : List ℕ → ℕ → ℕ → ℕ → ℕ → Option ℕ
tracks_end d k f n floor = choose tracks_kept d k f n floor then Some (row * (3 + n)) else None

-- all that is asked of the B0h and the C0h that may stand past the tracks
unfoldable pub extras_kept : List ℕ → ℕ → Bool
extras_kept d k = extra_passed (row_at d (3 + tracks d)) k B0 and extra_passed (row_at d (3 + tracks d + b0s d)) k C0

-- d begins with session k, and its descriptors keep rules 3 to 7
unfoldable pub session_kept : ℕ → List ℕ → ℕ → Bool
session_kept k d floor =
    leb (size d) (length d) and leb 1 (first d) and leb (first d) (last d) and leb (last d) 99
    and heads_kept d k and tracks_kept d k (first d) (tracks d) floor and extras_kept d k

-- where a descriptor with POINT p ends that may stand at byte `at`: past it if it is kept, there if there is none, nowhere if it is not kept
unfoldable pub extra_end : List ℕ → ℕ → ℕ → ℕ → Option ℕ
extra_end d k at p = choose eqb (row_from d at).point p then (choose extra_kept (row_from d at) k then Some (at + row) else None) else Some at

-- where a B0h and then a C0h end
unfoldable pub extras_end : List ℕ → ℕ → ℕ → Option ℕ
extras_end d k at = option_and_then (λ b. extra_end d k b C0) (extra_end d k at B0)

-- where the session ends that d begins with: nowhere if it is not kept, or does not begin with track `next`
unfoldable pub session_end : ℕ → List ℕ → ℕ → ℕ → Option ℕ
session_end k d next floor = choose session_kept k d floor and eqb (first d) next then Some (size d) else None

-- the least frame at which the session after k others may start: past the lead-out before it, and 00:02:00 where there is none
unfoldable pub floor_of : List ℕ → ℕ → ℕ
floor_of d zero = 150
floor_of d (suc k) = frames_at (session d k) 2 + 1

-- the track with which it begins: the one after the last, and any where there is none
unfoldable pub next_of : List ℕ → ℕ → ℕ
next_of d zero = first d
next_of d (suc k) = last (session d k) + 1

-- the session after k others is kept in its place
unfoldable pub step_kept : List ℕ → ℕ → Bool
step_kept d k = session_kept (k + 1) (session d k) (floor_of d k) and eqb (first (session d k)) (next_of d k)

-- n sessions are, and nothing more stands there
unfoldable pub walk_kept : ℕ → List ℕ → Bool
walk_kept n d = every n (step_kept d) and eqb (starts d n) (length d)

-- what the walk over the descriptors of n sessions answers: their disc, or the first broken rule of 3 to 7
unfoldable pub rows_reading : ℕ → List ℕ → Result Disc Unfit
rows_reading n d = choose walk_kept n d then Ok (disc_from n d) else Err (unfit_by (first_broken 3 (row_rules n d)))
