-- K5: "a fixed table of 256 rows, one per code, giving the command's class or "unknown"".
use Rattle.std.specs.Prelude.{ℕ, Bool, List, [], ◌∷◌, get_or, eqb}
use Rattle.ground.specs.Tests.{choose◌then◌else◌, every}
use Rattle.command.specs.declared.decode.Command.{Command}
use Rattle.command.specs.declared.decode.Command.TheVariants.{TestUnitReady, RequestSense, Inquiry, StartStop, Prevent, ReadCapacity, Read10, Seek, ReadToc, Read12, PlayAudio, PauseResume, ReadSubChannel, ModeSense, ModeSelect, GetEvent, Unknown}
use Rattle.command.specs.Command.{decode}

-- "the command's class": its number in 01's list of packets, K2's, K4's and K7's after them, and 0 for "unknown"
unfoldable pub class_of : Command → ℕ
class_of Unknown = 0
class_of TestUnitReady = 1
class_of RequestSense = 2
class_of Inquiry = 3
class_of StartStop = 4
class_of Prevent = 5
class_of ReadCapacity = 6
class_of Read10 = 7
class_of Seek = 8
class_of ReadToc = 9
class_of Read12 = 10
class_of PlayAudio = 11
class_of PauseResume = 12
class_of ReadSubChannel = 13
class_of ModeSense = 14
class_of ModeSelect = 15
class_of GetEvent = 16

-- the class of an operation code
abbrev pub class_at : ℕ → ℕ
class_at code = class_of (decode code)

-- row `code` of a table; past its end "unknown" (sealed, so that a law about it finds the table in the goal)
unfoldable pub row_at : List Command → ℕ → Command
row_at rows code = get_or rows code Unknown

-- "The rule tying a row to its code", as one test over the whole table: each of the 256 rows holds the command of its code's class
abbrev pub keeps_rule : List Command → Bool
keeps_rule rows = every 256 (λ code. eqb (class_of (get_or rows code Unknown)) (class_at code))

-- 01's list of packets, K2's, K4's and K7's
abbrev pub packets : List Command
packets =
    TestUnitReady
    ∷ RequestSense
    ∷ Inquiry
    ∷ StartStop
    ∷ Prevent
    ∷ ReadCapacity
    ∷ Read10
    ∷ Seek
    ∷ ReadToc
    ∷ Read12
    ∷ PlayAudio
    ∷ PauseResume
    ∷ ReadSubChannel
    ∷ ModeSense
    ∷ ModeSelect
    ∷ GetEvent
    ∷ []

-- the command in a list that has the class; where none has it, "unknown"
unfoldable pub with_class : List Command → ℕ → Command
with_class [] class = Unknown
with_class (c ∷ commands) class = choose eqb class (class_of c) then c else with_class commands class

-- the command that a class stands for
abbrev pub command_of : ℕ → Command
command_of class = with_class packets class
