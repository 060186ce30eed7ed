-- K14: what each access of the host makes of the record, and what is due at it.
use Rattle.std.specs.Prelude.{ℕ, ◌+◌, ◌-◌, ◌%◌, min, set, eqb}
use Rattle.ground.specs.Tests.{choose◌then◌else◌}
use Rattle.taskfile.specs.declared.TaskFile.{TaskFile}
use Rattle.taskfile.specs.declared.Phase.{Phase}
use Rattle.taskfile.specs.declared.Phase.TheVariants.{Idle, PacketRun, ListRun, AnswerRun}
use Rattle.taskfile.specs.declared.Access.{Access}
use Rattle.taskfile.specs.declared.Access.TheVariants.{Data, Features, CountLow, CountHigh, Drive, Command, Nowhere, Read, Reset}
use Rattle.taskfile.specs.declared.Due.TheVariants.{Refused, Held, Performs, PerformsListed, Gives, Resets}
use Rattle.taskfile.specs.declared.Turn.{Turn}
use Rattle.taskfile.specs.TaskFile.{takes_list_reason, gives_answer_reason, packet_bytes, list_bytes, count_of, counting, placed, bearing, holding, asked, ended, reset}
use Rattle.taskfile.specs.Run.{limit_of, takes_list, phase_of}

-- an access by its number: 004's register addresses, data read and reset above them; what is none of these is a write to no register
unfoldable pub access_of : ℕ → Access
access_of n =
    choose eqb n 0 then Data
    else (choose eqb n 1 then Features
    else (choose eqb n 4 then CountLow
    else (choose eqb n 5 then CountHigh
    else (choose eqb n 6 then Drive
    else (choose eqb n 7 then Command
    else (choose eqb n 8 then Read
    else (choose eqb n 9 then Reset else Nowhere)))))))

-- "the record stays as it was"
abbrev pub refused_turn : TaskFile → Turn
refused_turn f = record { due = Refused; file = f }

abbrev pub held : TaskFile → Turn
held f = record { due = Held; file = f }

-- "the host's byte count limit as held at the packet's end"
abbrev pub limited : TaskFile → TaskFile
limited f = placed f f.reason (limit_of (count_of f)) f.len f.at

-- the first run of n bytes with the reason r: "each run's size is written there"
abbrev pub begun : TaskFile → ℕ → ℕ → TaskFile
begun f r n = counting (placed f r f.limit n 0) (min f.limit n)

-- a byte more went
abbrev pub passed : TaskFile → TaskFile
passed f = placed f f.reason f.limit f.len (f.at + 1)

-- a byte went and more remain: behind a whole run the next one begins, "the smaller of what remains and the .. limit"
unfoldable pub gone : TaskFile → TaskFile
gone f =
    choose eqb ((f.at + 1) % f.limit) 0
    then counting (passed f) (min f.limit (f.len - (f.at + 1)))
    else passed f

-- the target's answer of status s and n bytes: it leaves in runs, or "status ends it" at once
unfoldable pub answered : TaskFile → ℕ → ℕ → TaskFile
answered f s n =
    choose eqb n 0 then ended (holding f f.features f.low f.high f.drive s)
    else begun (holding f f.features f.low f.high f.drive s) gives_answer_reason n

-- the packet's end: 55h asking for 16 bytes takes its list, any other packet is performed with an empty one
unfoldable pub packet_end : TaskFile → Turn
packet_end f = choose takes_list f.packet then held (begun f takes_list_reason list_bytes) else record { due = Performs; file = f }

-- a byte of the packet
unfoldable pub packet_byte : TaskFile → ℕ → Turn
packet_byte f v =
    choose eqb (f.at + 1) packet_bytes then packet_end (limited (bearing f (set f.packet f.at v) f.list))
    else held (passed (bearing f (set f.packet f.at v) f.list))

-- a byte of the list: "The target performs a packet at the call that completes it and its list"
unfoldable pub list_byte : TaskFile → ℕ → Turn
list_byte f v =
    choose eqb (f.at + 1) list_bytes then record { due = PerformsListed; file = bearing f f.packet (set f.list f.at v) }
    else held (gone (bearing f f.packet (set f.list f.at v)))

-- a byte of the answer: behind the last "status ends it"
unfoldable pub answer_byte : TaskFile → Turn
answer_byte f = record { due = Gives; file = choose eqb (f.at + 1) f.len then ended f else gone f }

-- "15 exactly for .. a data write outside packet and list runs"
abbrev pub data_turn : Phase → TaskFile → ℕ → Turn
data_turn Idle f v = refused_turn f
data_turn PacketRun f v = packet_byte f v
data_turn ListRun f v = list_byte f v
data_turn AnswerRun f v = refused_turn f

-- "15 exactly for a data read outside answer runs"
abbrev pub read_turn : Phase → TaskFile → Turn
read_turn Idle f = refused_turn f
read_turn PacketRun f = refused_turn f
read_turn ListRun f = refused_turn f
read_turn AnswerRun f = answer_byte f

-- ".. or any other write before status has ended a transfer"; while idle what is written is held
abbrev pub write_turn : Phase → TaskFile → Turn → Turn
write_turn Idle f t = t
write_turn PacketRun f t = refused_turn f
write_turn ListRun f t = refused_turn f
write_turn AnswerRun f t = refused_turn f

-- ".. a command other than A0h"
abbrev pub command_turn : TaskFile → ℕ → Turn
command_turn f v = choose eqb v 0xA0 then held (asked f) else refused_turn f

-- the record with the byte v in the register that is written; "Writes of features, byte count and drive while idle are held"
abbrev pub written : TaskFile → Access → ℕ → TaskFile
written f Features v = holding f v f.low f.high f.drive f.status
written f CountLow v = holding f f.features v f.high f.drive f.status
written f CountHigh v = holding f f.features f.low v f.drive f.status
written f Drive v = holding f f.features f.low f.high v f.status
written f Data v = f
written f Command v = f
written f Nowhere v = f
written f Read v = f
written f Reset v = f

abbrev pub turn_by : Access → Phase → TaskFile → ℕ → Turn
turn_by Data s f v = data_turn s f v
turn_by Command s f v = write_turn s f (command_turn f v)
turn_by Read s f v = read_turn s f
turn_by Reset s f v = record { due = Resets; file = reset f }
turn_by Features s f v = write_turn s f (held (written f Features v))
turn_by CountLow s f v = write_turn s f (held (written f CountLow v))
turn_by CountHigh s f v = write_turn s f (held (written f CountHigh v))
turn_by Drive s f v = write_turn s f (held (written f Drive v))
turn_by Nowhere s f v = write_turn s f (held (written f Nowhere v))

-- what an access comes to
unfoldable pub turn_of : TaskFile → Access → ℕ → Turn
turn_of f a v = turn_by a (phase_of f) f v
