-- The records that calls make, and what a run of accesses makes of one.
use Rattle.std.specs.Prelude.{ℕ, ◌<◌, ◌≡◌, List, [], ◌∷◌, length}
use Rattle.drive.specs.declared.state.Drive.{Drive}
use Rattle.taskfile.specs.declared.TaskFile.{TaskFile}
use Rattle.taskfile.specs.declared.Phase.{Phase}
use Rattle.taskfile.specs.declared.Phase.TheVariants.{Idle, PacketRun, ListRun, AnswerRun}
use Rattle.taskfile.specs.declared.Access.{Access}
use Rattle.taskfile.specs.Run.{phase_of}
use Rattle.registers.specs.Registers.{step_of}

-- the interrupt reason of each run, CoD bit 0 and IO bit 1: "12 bytes (reason: CoD 1, IO 0)", list and answers "(CoD 0; IO 0 and 1)",
-- "status ends it (CoD 1, IO 1)"
abbrev pub reason_of : Phase → ℕ
reason_of Idle = 0x03
reason_of PacketRun = 0x01
reason_of ListRun = 0x00
reason_of AnswerRun = 0x02

-- a record that calls make: the arrays have their lengths, the byte count is two bytes, and the reason says the run that it is in
pub record Made (f : TaskFile) : Type 0 where
  pub packet : length f.packet ≡ 12
  pub list : length f.list ≡ 16
  pub low : f.low < 256
  pub high : f.high < 256
  pub reason : f.reason ≡ reason_of (phase_of f)

-- an access with its byte, and the drive state, the table and the response memory that meet it
pub record Call : Type 0 where
  pub access : Access
  pub byte : ℕ
  pub small : byte < 256
  pub state : Drive
  pub table : List ℕ
  pub memory : List ℕ

-- the record after the accesses, one after the other
unfoldable pub after : TaskFile → List Call → TaskFile
after f [] = f
after f (c ∷ cs) = after (step_of f c.access c.byte c.state c.table c.memory).file cs
