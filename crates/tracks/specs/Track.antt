-- "A block belongs to the track with the greatest start not above it, if it lies below that track's session's lead-out; else to no track."
use Rattle.std.specs.Prelude.{ℕ, zero, suc, ◌+◌, ◌/◌, ◌%◌, Bool, true, not, List, leb, ltb, eqb}
use Rattle.ground.specs.Tests.{◌and◌, ◌or◌, every, choose◌then◌else◌}
use Rattle.table.specs.Layout.{rows, flags_at, point_at, A2, is_track}
use Rattle.table.specs.Row.{address_at}
use Rattle.tracks.specs.declared.track.Track.{Track}
use Rattle.tracks.specs.declared.track.Mode.{Mode}
use Rattle.tracks.specs.declared.track.Mode.TheVariants.{Data, Audio}
use Rattle.tracks.specs.declared.track.Ask.{Ask}
use Rattle.tracks.specs.declared.track.Ask.TheVariants.{Block, Number}

-- "A track is data if control bit 2 (value 4) is set."
abbrev pub is_data : ℕ → Bool
is_data flags = eqb (flags / 4 % 2) 1

-- ADR/control of that mode; K2: "audio in place of data"
abbrev pub flagged : Mode → ℕ → Bool
flagged Data flags = is_data flags
flagged Audio flags = not (is_data flags)

-- descriptor j as a track: its number, ADR/control and start, where out is the lead-out of its session
abbrev pub track_with : List ℕ → ℕ → ℕ → Track
track_with d j out = record { number = point_at d j; flags = flags_at d j; start = address_at d j; out = out }

-- the lead-out past descriptor c: its own address if it is an A2, else the one that stood before it
unfoldable pub next_out : Track → ℕ
next_out c = choose eqb c.number A2 then c.start else c.out

-- the lead-out of the session in which descriptor j stands: that of the nearest A2 before it
unfoldable pub out_at : List ℕ → ℕ → ℕ
out_at d zero = 0
out_at d (suc j) = next_out (track_with d j (out_at d j))

-- no track
abbrev pub no_track : Track
no_track = record { number = 0; flags = 0; start = 0; out = 0 }

-- descriptor j, a track: its number, ADR/control, start, and its session's lead-out
abbrev pub track_at : List ℕ → ℕ → Track
track_at d j = track_with d j (out_at d j)

-- a start not above the block, and not below the greatest so far
unfoldable pub covers : ℕ → ℕ → ℕ → Bool
covers start b greatest = leb start b and leb greatest start

-- descriptor c is a track that is asked for, where u was found so far: by block, one whose start covers it; by number, that one
unfoldable pub wanted : Ask → Track → Track → Bool
wanted (Block b) c u = is_track c.number and covers c.start b u.start
wanted (Number n) c u = is_track c.number and eqb c.number n

-- what is found once descriptor c has been looked at too
unfoldable pub next_found : Ask → Track → Track → Track
next_found a c u = choose wanted a c u then c else u

-- the track found among the first n descriptors: by block, the one with the greatest start not above it
unfoldable pub found : Ask → List ℕ → ℕ → Track
found a d zero = no_track
found a d (suc j) = next_found a (track_at d j) (found a d j)

-- the track to which a block belongs, or no track (number 0): "if it lies below that track's session's lead-out"
unfoldable pub track_of : List ℕ → ℕ → Track
track_of d b = choose ltb b (found (Block b) d (rows d)).out then found (Block b) d (rows d) else no_track

-- the track of that number, or no track
unfoldable pub track_numbered : List ℕ → ℕ → Track
track_numbered d n = found (Number n) d (rows d)

-- a track of that mode: no track (number 0) is of neither
unfoldable pub is_mode : Mode → Track → Bool
is_mode mode u = is_track u.number and flagged mode u.flags

-- the block lies in a track of that mode
unfoldable pub in_mode : Mode → List ℕ → ℕ → Bool
in_mode mode d b = is_mode mode (track_of d b)

-- every block of the n from a on lies in a track of that mode
unfoldable pub all_in : Mode → List ℕ → ℕ → ℕ → Bool
all_in mode d a n = every n (λ i. in_mode mode d (a + i))

-- descriptor c lets the run from a up to e pass: a track that starts within it is of that mode, and no lead-out stands within it
unfoldable pub passes : Mode → Track → ℕ → ℕ → Bool
passes mode c a e =
    choose leb a c.start and ltb c.start e
    then (choose is_track c.number then flagged mode c.flags else not (eqb c.number A2))
    else true

-- every descriptor does
abbrev pub all_pass : Mode → List ℕ → ℕ → ℕ → Bool
all_pass mode d a e = every (rows d) (λ j. passes mode (track_at d j) a e)

-- the same without going from block to block: the first block lies in a track of that mode, and every descriptor lets the run pass
unfoldable pub run_is : Mode → List ℕ → ℕ → ℕ → Bool
run_is mode d a n = eqb n 0 or (in_mode mode d a and all_pass mode d a (a + n))
