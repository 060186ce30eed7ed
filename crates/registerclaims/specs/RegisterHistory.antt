-- By what is due at it, an access makes at most one call on the drive, and everything else that it changes is the record.
use Rattle.std.specs.Prelude.{ℕ, ◌+◌, min, ◌≡◌, not, length, set, eqb}
use mathlib.Core.List.{List, [], ◌∷◌}
use Rattle.ground.specs.Tests.{◌and◌, choose◌then◌else◌}
use Rattle.drive.specs.declared.state.Drive.{Drive as State}
use Rattle.taskfile.specs.declared.TaskFile.{TaskFile}
use Rattle.taskfile.specs.declared.Phase.{Phase}
use Rattle.taskfile.specs.declared.Phase.TheVariants.{Idle, PacketRun, ListRun, AnswerRun}
use Rattle.taskfile.specs.declared.Access.{Access}
use Rattle.taskfile.specs.declared.Access.TheVariants.{Data, Features, CountLow, CountHigh, Drive, Command, Nowhere, Read, Reset}
use Rattle.taskfile.specs.declared.Due.{Due}
use Rattle.taskfile.specs.TaskFile.{packet_bytes, list_bytes}
use Rattle.taskfile.specs.Run.{takes_list, phase_of}
use Rattle.taskfile.specs.Host.{answered}
use Rattle.registers.specs.Registers.{step_by, memory_by}
use Rattle.claims.specs.Call as drives
use Rattle.claims.specs.Call.{by_default, powering, packet}
use Rattle.registerclaims.specs.RegisterCall.{Console, Answer, Happening, target_call}

-- the drive's events at a call on the board
abbrev pub events_of_target : Happening → List drives.Happening
events_of_target e = drives.history e.old.drive (target_call e.call e.old)

-- ---- which accesses complete

-- the packet and the list, with the byte v behind the bytes that came in
abbrev pub packet_with : TaskFile → ℕ → List ℕ
packet_with f v = set f.packet f.at v

abbrev pub list_with : TaskFile → ℕ → List ℕ
list_with f v = set f.list f.at v

-- a data write: of the last byte of a packet that takes no list, in a packet run; or of the last byte of the list, in a list run
abbrev pub data_call : Phase → TaskFile → ℕ → List ℕ → List ℕ → List drives.Call
data_call Idle f v t m = []
data_call PacketRun f v t m =
    choose eqb (f.at + 1) packet_bytes and not (takes_list (packet_with f v)) then packet (packet_with f v) t [] m ∷ [] else []
data_call ListRun f v t m = choose eqb (f.at + 1) list_bytes then packet f.packet t (list_with f v) m ∷ [] else []
data_call AnswerRun f v t m = []

-- an access: a reset is a power-on, and any other that writes no data is nothing to the target
abbrev pub access_call : Access → TaskFile → ℕ → List ℕ → List ℕ → List drives.Call
access_call Data f v t m = data_call (phase_of f) f v t m
access_call Reset f v t m = powering by_default ∷ []
access_call Features f v t m = []
access_call CountLow f v t m = []
access_call CountHigh f v t m = []
access_call Drive f v t m = []
access_call Command f v t m = []
access_call Nowhere f v t m = []
access_call Read f v t m = []

-- ---- what they hand back

-- the answer a of an access that completes a packet, and record and state s after it, where f is the record with the whole packet and g the drive's
-- event: the number and the rule are handed on, "READ's start and count reach the transport from the completing call", memory and state are
-- what the drive leaves, and the record holds the status and is at the first of the answer's bytes
pub record Completed (f : TaskFile) (a : Answer) (s : Console) (g : drives.Happening) : Type 0 where
  pub number : a.given.number ≡ g.answer.number
  pub rule : a.given.rule ≡ g.answer.rule
  pub start : a.given.start ≡ g.answer.start
  pub count : a.given.count ≡ g.answer.count
  pub memory : a.memory ≡ g.answer.memory
  pub drive : s.drive ≡ g.new
  pub file : s.file ≡ answered f g.answer.status (min g.answer.limit (length g.answer.full))

-- what is due, of the record f, leaves
abbrev pub due_answer : Due → TaskFile → TaskFile → State → List ℕ → List ℕ → Answer
due_answer u f n d t m = record { given = (step_by u f n d t m).answer; memory = memory_by u n d t m }

abbrev pub due_next : Due → TaskFile → TaskFile → State → List ℕ → List ℕ → Console
due_next u f n d t m = record { file = (step_by u f n d t m).file; drive = (step_by u f n d t m).answer.state }
