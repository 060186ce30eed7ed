-- K10, "How much of a disc the track list tells": what it tells, and that on a disc of one session every packet but READ TOC by format 2
-- asks for exactly that. `answer c d` and `next c d` are what the call c gets of d and the state after it, as in Call.antt; that each
-- condition on tables and packet is needed stands in TrackListNeeds.antt.
use Rattle.std.specs.Prelude.{◌≡◌, false, List, ℕ}
use Rattle.drive.specs.declared.state.Drive.{Drive}
use Rattle.claims.specs.Call.{Call, packet, answer, next}
use Rattle.claims.specs.Contents.{is_format2}

-- ---- what every packet but READ TOC by format 2 asks for

-- one answer, with the response bytes, and one next state
abbrev pub SameResult : Call → Call → Drive → Type 0
SameResult c e d = (answer c d ≡ answer e d) × (next c d ≡ next e d)

-- with either table such a packet gets the same: in any state, with any list and memory
abbrev pub ToldAlike : List ℕ → List ℕ → Type 0
ToldAlike t u = (d : Drive) (p l m : List ℕ) → is_format2 p ≡ false → SameResult (packet p t l m) (packet p u l m) d
