-- What an access of the host is, and when it is out of turn or completes a packet: in the words of K14, over any record.
use Rattle.std.specs.Prelude.{ℕ, ◌+◌, Bool, not, List, [], length, set, eqb}
use Rattle.ground.specs.Tests.{◌and◌, ◌or◌, choose◌then◌else◌}
use Rattle.deck.specs.declared.Deck.{Deck}
use Rattle.drive.specs.declared.state.Drive.{Drive}
use Rattle.gate.specs.Gate.{Reply}
use Rattle.target.specs.Packet.{answer}
use Rattle.taskfile.specs.declared.TaskFile.{TaskFile}
use Rattle.taskfile.specs.declared.Access.{Access}
use Rattle.taskfile.specs.declared.Access.TheVariants.{Data, Features, CountLow, CountHigh, Drive as ToDrive, Command, Nowhere, Read, Reset}
use Rattle.taskfile.specs.Run.{takes_list, is_packet_run, is_list_run, is_answer_run}

-- ---- the accesses

-- the access by its number; 10 stands for every number that no register has
abbrev pub number_of : Access → ℕ
number_of Data = 0
number_of Features = 1
number_of CountLow = 4
number_of CountHigh = 5
number_of ToDrive = 6
number_of Command = 7
number_of Read = 8
number_of Reset = 9
number_of Nowhere = 10

-- a data read, a data write, a write of the command, any write but of data
abbrev pub reads_data : Access → Bool
reads_data a = eqb (number_of a) 8

abbrev pub writes_data : Access → Bool
writes_data a = eqb (number_of a) 0

abbrev pub writes_command : Access → Bool
writes_command a = eqb (number_of a) 7

abbrev pub writes_other : Access → Bool
writes_other a = not (writes_data a or reads_data a or eqb (number_of a) 9)

module _ (f : TaskFile) where
  -- status has not ended a transfer
  abbrev pub is_in_run : Bool
  is_in_run = is_packet_run f or is_list_run f or is_answer_run f

  module _ (v : ℕ) where
    -- "a data read outside answer runs, a data write outside packet and list runs, a command other than A0h, or any other write before
    -- status has ended a transfer"
    abbrev pub is_out_of_turn : Access → Bool
    is_out_of_turn a =
        reads_data a and not (is_answer_run f)
        or writes_data a and not (is_packet_run f or is_list_run f)
        or writes_command a and not (eqb v 0xA0)
        or writes_other a and is_in_run

    -- the byte v is the packet's last, and the packet takes no list
    abbrev pub ends_packet : Bool
    ends_packet = eqb (f.at + 1) 12 and not (takes_list (set f.packet f.at v))

    -- it is the list's last
    abbrev pub ends_list : Bool
    ends_list = eqb (f.at + 1) 16

    -- "the call that completes it and its list"
    abbrev pub is_completing : Access → Bool
    is_completing a = writes_data a and (is_packet_run f and ends_packet or is_list_run f and ends_list)

    -- the packet and the list as it completes them; "Only 55h asking for 16 bytes takes a list; else it is empty"
    abbrev pub packet_at : List ℕ
    packet_at = choose is_packet_run f then set f.packet f.at v else f.packet

    abbrev pub list_at : List ℕ
    list_at = choose is_list_run f then set f.list f.at v else []

    -- the target's answer there
    abbrev pub reply_at : Drive → List ℕ → List ℕ → Reply Deck
    reply_at d t m = answer d packet_at t list_at (length m)
