-- The calls on a board with the registers around the target: each comes to one call on the drive or to none, read off what is due at it.
use Rattle.std.specs.Prelude.{ℕ, ◌≡◌, Bool, true, false, not, List, [], ◌∷◌, ◌++◌, eqb}
use Rattle.ground.specs.Tests.{◌and◌, ◌or◌}
use Rattle.drive.specs.declared.state.Drive.{Drive}
use Rattle.disc.specs.Rules.{is_fit}
use Rattle.taskfile.specs.declared.TaskFile.{TaskFile}
use Rattle.taskfile.specs.declared.Phase.{Phase}
use Rattle.taskfile.specs.declared.Phase.TheVariants.{Idle, PacketRun, ListRun, AnswerRun}
use Rattle.taskfile.specs.declared.Access.{Access}
use Rattle.taskfile.specs.declared.Access.TheVariants.{Reset}
use Rattle.taskfile.specs.declared.Due.{Due}
use Rattle.taskfile.specs.declared.Due.TheVariants.{Refused, Held, Performs, PerformsListed, Gives, Resets}
use Rattle.taskfile.specs.declared.Turn.{Turn}
use Rattle.taskfile.specs.Run.{phase_of}
use Rattle.taskfile.specs.Host.{turn_of}
use Rattle.registers.specs.declared.Answer.{Answer as Given}
use Rattle.registers.specs.Registers.{plain, step_of, memory_of}
use Rattle.claims.specs.Call as drives
use Rattle.claims.specs.Call.{Form, by_default, powering, packet, is_packet, is_needing, is_attending}
use Rattle.claims.specs.History as past
use Rattle.claims.specs.History.{Event}
use Rattle.claims.specs.Carried.{Board, answer_on, next_on}

-- "004's ATAPI registers around the target": the register record, and the drive state behind it
pub record Console : Type 0 where
  pub file : TaskFile
  pub drive : Drive

-- a call on the drive that is no packet
abbrev pub is_outside : drives.Call → Bool
is_outside c = not (is_packet (λ p. true) c)

-- an access of the host with its byte, the lent table and the response memory; or power-on, button, laying, lifting, K2's outside call: a packet
-- reaches the target through the registers alone
pub data Call : Type 0 where
  accessing : (a : Access) (v : ℕ) (table memory : List ℕ) → Call
  outside : (c : drives.Call) → is_outside c ≡ true → Call

-- what a call answers: what is handed back, the number, rule, byte, start, count and next state; and the response memory after it, which an
-- access alone has
pub record Answer : Type 0 where
  pub given : Given
  pub memory : List ℕ

abbrev pub answer : Call → Console → Answer
answer (accessing a v t m) s =
    record { given = (step_of s.file a v s.drive t m).answer; memory = memory_of s.file a v s.drive t m }
answer (outside c q) s =
    record { given = plain (drives.answer c s.drive).number 0 (drives.next c s.drive); memory = [] }

-- the record and the drive state after it: a call outside leaves the record as it was
abbrev pub next : Call → Console → Console
next (accessing a v t m) s =
    record { file = (step_of s.file a v s.drive t m).file; drive = (step_of s.file a v s.drive t m).answer.state }
next (outside c q) s = record { file = s.file; drive = drives.next c s.drive }

-- ---- the board's histories

abbrev pub Happening : Type 0
Happening = Event Call Console Answer

abbrev pub event : Call → Console → Happening
event = past.event answer next

-- the calls made one after the other on a handed record and state
abbrev pub history : Console → List Call → List Happening
history = past.history answer next

-- the record and the state after them
abbrev pub final : Console → List Call → Console
final = past.final answer next

-- ---- what reaches the target

-- what is due, and the record after it
abbrev pub turn : Console → Access → ℕ → Turn
turn s a v = turn_of s.file a v

-- "The target performs a packet at the call that completes it and its list: that call counts for demand 3"; reset "is also a power-on of the
-- target, in the default form"
abbrev pub due_call : Due → TaskFile → List ℕ → List ℕ → List drives.Call
due_call Refused f t m = []
due_call Held f t m = []
due_call Performs f t m = packet f.packet t [] m ∷ []
due_call PerformsListed f t m = packet f.packet t f.list m ∷ []
due_call Gives f t m = []
due_call Resets f t m = powering by_default ∷ []

-- the call on the drive that a call on the board comes to, or none
abbrev pub target_call : Call → Console → List drives.Call
target_call (accessing a v t m) s = due_call (turn s a v).due (turn s a v).file t m
target_call (outside c q) s = c ∷ []

-- those of the calls made one after the other
abbrev pub target_calls : Console → List Call → List drives.Call
target_calls s [] = []
target_calls s (c ∷ cs) = target_call c s ++ target_calls (next c s) cs

-- "From power-on": a power-on in either form, or a reset
pub data PowerOn : Call → Form → Type 0 where
  switching : (f : Form) {q : is_outside (powering f) ≡ true} → PowerOn (outside (powering f) q) f
  resetting : (v : ℕ) (t m : List ℕ) → PowerOn (accessing Reset v t m) by_default

-- one of the calls on the drive is a packet whose bytes are such
abbrev pub have_packet : (List ℕ → Bool) → List drives.Call → Bool
have_packet such [] = false
have_packet such (c ∷ cs) = is_packet such c or have_packet such cs

-- the call completes a packet whose bytes are such
abbrev pub completes : (List ℕ → Bool) → Call → Console → Bool
completes such c s = have_packet such (target_call c s)

-- ---- successes

-- "GOOD is status 00h": the call is not refused, and the record's status is 00h
abbrev pub is_good : Happening → Bool
is_good e = eqb e.answer.given.number 0 and eqb e.new.file.status 0x00

-- a packet that needs a disc was completed and answered GOOD
abbrev pub is_success : Happening → Bool
is_success e = completes is_needing e.call e.old and is_good e

-- ---- runs

-- the same call, or the same access with the same byte and memory and two fit tables
pub data Alike : Call → Call → Type 0 where
  same : (c : Call) → Alike c c
  fitting : (a : Access) (v : ℕ) (m : List ℕ) {t u : List ℕ} → is_fit t ≡ true → is_fit u ≡ true → Alike (accessing a v t m) (accessing a v u m)

-- the run is one of the answer
abbrev pub gives_answer : Phase → Bool
gives_answer Idle = false
gives_answer PacketRun = false
gives_answer ListRun = false
gives_answer AnswerRun = true

-- an attention is pending, or an answer's bytes leave
abbrev pub is_live : Console → Bool
is_live s = is_attending s.drive or gives_answer (phase_of s.file)

-- a packet is completed with nothing pending: the target may look at the lent table
abbrev pub is_free : Call → Console → Bool
is_free c s = completes (λ p. true) c s and not (is_attending s.drive)

-- the call, lent that memory in place of its own
abbrev pub lend : List ℕ → Call → Call
lend memory (accessing a v t m) = accessing a v t memory
lend memory (outside c q) = outside c q

-- a packet is so completed by a call that is lent the memory carried along
abbrev pub is_free_on : Call → Board Console → Bool
is_free_on c b = is_free (lend b.memory c) b.state

-- what a call with that answer leaves in the memory
abbrev pub left : Call → Answer → List ℕ → List ℕ
left (accessing a v t m) r memory = r.memory
left (outside c q) r memory = memory

-- "Until the transfer ends the response memory is handed on as it was left": the board with one, each call lent what the one before left
abbrev pub answers : Call → Board Console → Answer
answers = answer_on answer next lend left

abbrev pub follows : Call → Board Console → Board Console
follows = next_on answer next lend left

abbrev pub final_on : Board Console → List Call → Board Console
final_on = past.final answers follows
