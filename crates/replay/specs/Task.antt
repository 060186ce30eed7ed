-- The lines that an access of the registers prints (K14).
use Rattle.std.specs.Prelude.{ℕ, List, [], ◌∷◌}
use Rattle.print.specs.Joined.{◌next◌, spaced, line_end}
use Rattle.print.specs.Hex.{hex_byte, shown}
use Rattle.print.specs.Decimal.{decimal}
use Rattle.drive.specs.declared.state.Drive.{Drive}
use Rattle.taskfile.specs.declared.TaskFile.{TaskFile}
use Rattle.taskfile.specs.declared.Phase.{Phase}
use Rattle.taskfile.specs.declared.Phase.TheVariants.{Idle, PacketRun, ListRun, AnswerRun}
use Rattle.taskfile.specs.Run.{phase_of, left_of}
use Rattle.registers.specs.declared.Answer.{Answer}
use Rattle.replay.specs.Line.{state_text, call, ruled_call, sum_text}

-- "`I`, `P`, `L` or `A` (idle, packet, list, answer runs)"
abbrev pub phase_letter : Phase → ℕ
phase_letter Idle = 73
phase_letter PacketRun = 80
phase_letter ListRun = 76
phase_letter AnswerRun = 65

-- "the interrupt reason (two hex digits), the byte count (four), features, drive and the target's status (two each)"
unfoldable pub held_text : TaskFile → List ℕ
held_text f =
    spaced (hex_byte f.reason)
    next spaced (shown (f.high ∷ f.low ∷ []))
    next (spaced (hex_byte f.features) next spaced (hex_byte f.drive) next spaced (hex_byte f.status))

-- ".. the bytes left of the run (decimal)"
unfoldable pub file_text : TaskFile → List ℕ
file_text f = (32 ∷ phase_letter (phase_of f) ∷ []) next held_text f next spaced (decimal (left_of f))

-- `REG STATE`
unfoldable pub stand_text : TaskFile → Drive → List ℕ
stand_text f d = file_text f next state_text d

-- `R N REG STATE`
unfoldable pub reset_line : TaskFile → Answer → List ℕ
reset_line f a = call 82 a.number next stand_text f a.state next line_end

-- `w N START COUNT`, N with the broken rule as in `p` lines
unfoldable pub blocks_text : Answer → List ℕ
blocks_text a = ruled_call 119 a.number a.rule next spaced (decimal a.start) next spaced (decimal a.count)

-- `SUM`, and the line's end
unfoldable pub last_text : List ℕ → List ℕ
last_text memory = sum_text memory next line_end

-- `w N START COUNT REG STATE SUM`
unfoldable pub wrote_line : TaskFile → Answer → List ℕ → List ℕ
wrote_line f a memory = blocks_text a next stand_text f a.state next last_text memory

-- `r N BYTE`: no broken rule stands beside a data read's number
unfoldable pub given_text : Answer → List ℕ
given_text a = call 114 a.number next spaced (hex_byte a.byte)

-- `r N BYTE REG SUM`
unfoldable pub read_line : TaskFile → Answer → List ℕ → List ℕ
read_line f a memory = given_text a next file_text f next last_text memory
