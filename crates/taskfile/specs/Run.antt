-- K14: the limit, the bytes of a run, and which run a record is in.
use Rattle.std.specs.Prelude.{ℕ, ◌-◌, ◌%◌, min, Bool, List, get_or, eqb, ltb, leb}
use Rattle.ground.specs.Number.{word16}
use Rattle.ground.specs.Tests.{◌and◌, choose◌then◌else◌}
use Rattle.table.specs.Layout.{bound}
use Rattle.taskfile.specs.declared.TaskFile.{TaskFile}
use Rattle.taskfile.specs.declared.Phase.{Phase}
use Rattle.taskfile.specs.declared.Phase.TheVariants.{Idle, PacketRun, ListRun, AnswerRun}
use Rattle.taskfile.specs.TaskFile.{takes_list_reason, takes_packet_reason, gives_answer_reason, packet_bytes, list_bytes, count_of}

-- "0 and FFFFh count as 65,534, an odd limit as one less, 1 as 2"
unfoldable pub limit_of : ℕ → ℕ
limit_of c = choose eqb c 0 then 65534 else (choose eqb c 1 then 2 else c - c % 2)

-- the most bytes that an answer has
abbrev pub most_bytes : ℕ
most_bytes = bound

-- "A run is the smaller of what remains and the host's byte count limit": the run of the next byte, which began after whole runs
abbrev pub size_of : TaskFile → ℕ
size_of f = min f.limit (f.len - (f.at - f.at % f.limit))

-- a limit that a byte count gives
unfoldable pub is_limit : ℕ → Bool
is_limit m = ltb m 65536 and eqb (limit_of m) m

-- in a run of list or answer: the limit is one, there is a next byte, and "each run's size is written" in the byte count
unfoldable pub is_run : TaskFile → Bool
is_run f = is_limit f.limit and ltb f.at f.len and eqb (count_of f) (size_of f)

-- "Only 55h asking for 16 bytes takes a list"
unfoldable pub takes_list : List ℕ → Bool
takes_list p = eqb (get_or p 0 0) 0x55 and eqb (word16 (get_or p 7 0) (get_or p 8 0)) list_bytes

unfoldable pub is_packet_run : TaskFile → Bool
is_packet_run f =
    eqb f.reason takes_packet_reason and eqb f.limit packet_bytes and eqb f.len packet_bytes and ltb f.at packet_bytes

unfoldable pub is_list_run : TaskFile → Bool
is_list_run f = eqb f.reason takes_list_reason and takes_list f.packet and eqb f.len list_bytes and is_run f

unfoldable pub is_answer_run : TaskFile → Bool
is_answer_run f = eqb f.reason gives_answer_reason and leb f.len most_bytes and is_run f

-- the run that a record is in; "A record that no call could have made is in no run"
unfoldable pub phase_of : TaskFile → Phase
phase_of f =
    choose is_packet_run f then PacketRun else (choose is_list_run f then ListRun else (choose is_answer_run f then AnswerRun else Idle))

-- the bytes left of the run of the next byte
abbrev pub left_in : TaskFile → ℕ
left_in f = size_of f - f.at % f.limit

abbrev pub left_by : Phase → TaskFile → ℕ
left_by Idle f = 0
left_by PacketRun f = left_in f
left_by ListRun f = left_in f
left_by AnswerRun f = left_in f

-- the bytes left of the run that a record is in
unfoldable pub left_of : TaskFile → ℕ
left_of f = left_by (phase_of f) f
