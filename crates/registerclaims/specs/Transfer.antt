-- K14: what one access hands on to the next; "Until the transfer ends the response memory is handed on as it was left."
use Rattle.std.specs.Prelude.{ℕ, zero, suc, Bool, true, false, List, [], ◌∷◌, take, drop}
use Rattle.ground.specs.Tests.{choose◌then◌else◌}
use Rattle.drive.specs.declared.state.Drive.{Drive}
use Rattle.taskfile.specs.declared.TaskFile.{TaskFile}
use Rattle.taskfile.specs.declared.Phase.{Phase}
use Rattle.taskfile.specs.declared.Phase.TheVariants.{Idle, PacketRun, ListRun, AnswerRun}
use Rattle.taskfile.specs.declared.Access.{Access}
use Rattle.taskfile.specs.declared.Access.TheVariants.{Data, Read}
use Rattle.taskfile.specs.TaskFile.{count_of}
use Rattle.taskfile.specs.Run.{phase_of}
use Rattle.registers.specs.declared.Answer.{Answer}
use Rattle.registers.specs.declared.Stepped.{Stepped}
use Rattle.registers.specs.Registers.{step_of, memory_of}

-- between two accesses: the record, the drive state and the response memory
pub record Transfer : Type 0 where
  pub file : TaskFile
  pub state : Drive
  pub memory : List ℕ

abbrev pub transfer_of : TaskFile → Drive → List ℕ → Transfer
transfer_of f d m = record { file = f; state = d; memory = m }

-- what an access with the byte v and the table t is answered
abbrev pub handed : Access → ℕ → List ℕ → Transfer → Answer
handed a v t x = (step_of x.file a v x.state t x.memory).answer

-- and what it leaves
abbrev pub left : Stepped → List ℕ → Transfer
left r m = transfer_of r.file r.answer.state m

abbrev pub next : Access → ℕ → List ℕ → Transfer → Transfer
next a v t x = left (step_of x.file a v x.state t x.memory) (memory_of x.file a v x.state t x.memory)

-- ---- the host reads

-- n data reads: their answers
unfoldable pub reads_of : ℕ → List ℕ → Transfer → List Answer
reads_of zero t x = []
reads_of (suc n) t x = handed Read 0 t x ∷ reads_of n t (next Read 0 t x)

-- and what they leave
unfoldable pub after_reads : ℕ → List ℕ → Transfer → Transfer
after_reads zero t x = x
after_reads (suc n) t x = after_reads n t (next Read 0 t x)

abbrev pub is_giving : Phase → Bool
is_giving Idle = false
is_giving PacketRun = false
is_giving ListRun = false
is_giving AnswerRun = true

-- the host's loop: while in an answer run it reads as many bytes as the byte count says; the answers of its first k runs
unfoldable pub drain : ℕ → List ℕ → Transfer → List (List Answer)
drain zero t x = []
drain (suc k) t x =
    choose is_giving (phase_of x.file) then reads_of (count_of x.file) t x ∷ drain k t (after_reads (count_of x.file) t x) else []

-- and what they leave
unfoldable pub drained : ℕ → List ℕ → Transfer → Transfer
drained zero t x = x
drained (suc k) t x = choose is_giving (phase_of x.file) then drained k t (after_reads (count_of x.file) t x) else x

-- ---- the host writes

-- the bytes of b by data writes: what they leave
unfoldable pub after_writes : List ℕ → List ℕ → Transfer → Transfer
after_writes [] t x = x
after_writes (v ∷ b) t x = after_writes b t (next Data v t x)

abbrev pub is_taking : Phase → Bool
is_taking Idle = false
is_taking PacketRun = false
is_taking ListRun = true
is_taking AnswerRun = false

-- the host's loop: while in a list run it writes as many of the bytes l as the byte count says; its first k runs
unfoldable pub feed : ℕ → List ℕ → List ℕ → Transfer → List (List ℕ)
feed zero l t x = []
feed (suc k) l t x =
    choose is_taking (phase_of x.file)
    then take (count_of x.file) l ∷ feed k (drop (count_of x.file) l) t (after_writes (take (count_of x.file) l) t x)
    else []

-- and what they leave
unfoldable pub fed : ℕ → List ℕ → List ℕ → Transfer → Transfer
fed zero l t x = x
fed (suc k) l t x =
    choose is_taking (phase_of x.file) then fed k (drop (count_of x.file) l) t (after_writes (take (count_of x.file) l) t x) else x
