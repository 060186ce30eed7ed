-- K14: "A crate above the first puts 004's ATAPI registers around the target."
use Rattle.std.specs.Prelude.{ℕ, ◌≡◌, List, [], length, get_or, ltb}
use Rattle.ground.specs.Tests.{choose◌then◌else◌}
use Rattle.ground.specs.Memory.{fill}
use Rattle.deck.specs.declared.Deck.{Deck}
use Rattle.drive.specs.declared.state.Drive.{Drive}
use Rattle.drive.specs.State.{power_on}
use Rattle.table.specs.Layout.{bound}
use Rattle.gate.specs.Gate.{Reply}
use Rattle.outcome.specs.Outcome.{outcome_of, state_of, bytes_of}
use Rattle.target.specs.Packet.{short_memory, answer}
use Rattle.taskfile.specs.declared.TaskFile.{TaskFile}
use Rattle.taskfile.specs.declared.Access.{Access}
use Rattle.taskfile.specs.declared.Due.{Due}
use Rattle.taskfile.specs.declared.Due.TheVariants.{Refused, Held, Performs, PerformsListed, Gives, Resets}
use Rattle.taskfile.specs.Host.{answered, turn_of}
use Rattle.registers.specs.declared.Answer.{Answer}
use Rattle.registers.specs.declared.Stepped.{Stepped}

-- "Refusals: 15 exactly for .."
abbrev pub out_of_turn : ℕ
out_of_turn = 15

-- a number, a byte and the state handed back; no blocks are named
abbrev pub plain : ℕ → ℕ → Drive → Answer
plain n b d = record { number = n; rule = 0; byte = b; start = 0; count = 0; state = d }

-- the record f, and that answer
abbrev pub stands : TaskFile → Answer → Stepped
stands f r = record { file = f; answer = r }

-- the target's answer to the record's packet with the list l, the table t and the response memory m
abbrev pub asks : TaskFile → List ℕ → Drive → List ℕ → List ℕ → Reply Deck
asks f l d t m = answer d f.packet t l (length m)

-- "The target performs a packet at the call that completes it and its list": its answer leaves in runs; "A refusal by the target is handed on
-- and ends the transfer", since it has no bytes; "READ's start and count reach the transport from the completing call"
abbrev pub performed : Reply Deck → TaskFile → Stepped
performed a f =
    stands (answered f a.status (outcome_of a).len)
    (record { number = a.number; rule = a.rule; byte = 0; start = a.start; count = a.count; state = state_of a })

-- the next byte of the answer; "A data read in an answer run with response memory under 6,538 bytes is refused by 3, the record as it was";
-- "the runs read the memory lent at that call"
unfoldable pub gives : TaskFile → TaskFile → Drive → List ℕ → Stepped
gives f next d m =
    choose ltb (length m) bound then stands f (plain short_memory 0 d) else stands next (plain 0 (get_or m f.at 0) d)

-- what an access comes to, by what is due at it; "Reset .. is also a power-on of the target, in the default form"
abbrev pub step_by : Due → TaskFile → TaskFile → Drive → List ℕ → List ℕ → Stepped
step_by Refused f next d t m = stands next (plain out_of_turn 0 d)
step_by Held f next d t m = stands next (plain 0 0 d)
step_by Performs f next d t m = performed (asks next [] d t m) next
step_by PerformsListed f next d t m = performed (asks next next.list d t m) next
step_by Gives f next d t m = gives f next d m
step_by Resets f next d t m = stands next (plain 0 0 (power_on d))

-- the response memory after it: only a packet that is performed writes
abbrev pub memory_by : Due → TaskFile → Drive → List ℕ → List ℕ → List ℕ
memory_by Refused next d t m = m
memory_by Held next d t m = m
memory_by Performs next d t m = fill m (bytes_of (asks next [] d t m))
memory_by PerformsListed next d t m = fill m (bytes_of (asks next next.list d t m))
memory_by Gives next d t m = m
memory_by Resets next d t m = m

-- an access of the host with the byte v, met by the record f, the drive state d, the table t and the response memory m
unfoldable pub step_of : TaskFile → Access → ℕ → Drive → List ℕ → List ℕ → Stepped
step_of f a v d t m = step_by (turn_of f a v).due f (turn_of f a v).file d t m

unfoldable pub memory_of : TaskFile → Access → ℕ → Drive → List ℕ → List ℕ → List ℕ
memory_of f a v d t m = memory_by (turn_of f a v).due (turn_of f a v).file d t m

-- the step r and the memory m' are what the target's answer makes of the record f and the memory m
pub record Performed (a : Reply Deck) (f : TaskFile) (m : List ℕ) (r : Stepped) (m' : List ℕ) : Type 0 where
  pub step : r ≡ performed a f
  pub memory : m' ≡ fill m (bytes_of a)
