-- K14 on Disc E: a run of register accesses, each group with what the host sees of it; computed from the definitions.
use Rattle.std.specs.Prelude.{ℕ, zero, suc, ◌≡◌, refl, Bool, true, not, List, [], ◌∷◌, ◌++◌, replicate, eqb}
use Rattle.ground.specs.Tests.{◌and◌, ◌or◌, choose◌then◌else◌, every}
use Rattle.ground.specs.Memory.{fill}
use Rattle.address.specs.Address.{is_msf}
use Rattle.attention.specs.declared.sense.Sense.{Sense}
use Rattle.drive.specs.declared.state.Drive.{Drive}
use Rattle.attention.specs.Sense.{triple, sense_at, same_sense, among, is_known}
use Rattle.play.specs.Play.{is_status, is_play}
use Rattle.page.specs.Page.{among as among_bytes, is_setting}
use Rattle.attention.specs.Unit.{attend}
use Rattle.drive.specs.State.{is_known_state, power_on}
use Rattle.table.specs.Layout.{bound, is_track, is_extra}
use Rattle.table.specs.Row.{start_of, names, simple, free, plain, head_a0, head_a1, headed, addressed, row_test}
use Rattle.sessions.specs.Session.{one, size, listed, numbered, is_session, starts, before, follows, in_place, in_order}
use Rattle.disc.specs.Rules.{rule1, rule2, each_row, rises, out_before, begins_after, rising, rule7, first_broken, late_rules, row_rules, fault, is_fit}
use Rattle.tracks.specs.Track.{next_out, out_at, covers, wanted, next_found, found, track_of, is_mode, in_mode, all_in}
use Rattle.gate.specs.Unit.{pending_of}
use Rattle.gate.specs.Gate.{gate}
use Rattle.command.specs.Command.{decode}
use Rattle.command.specs.Inquiry.{inquiry_bytes}
use Rattle.command.specs.Done.{answering}
use Rattle.blocks.specs.Range.{over, in_range, ranged}
use Rattle.mode.specs.ModeSense.{values_of, page_shown}
use Rattle.mode.specs.ModeSelect.{is_list_length, is_page, selected, mode_select}
use Rattle.target.specs.Perform.{perform}
use Rattle.target.specs.Packet.{refusal_of, answer}
use Rattle.claims.specs.Marked.{table_e, loaded_e, same_bytes}
use Rattle.taskfile.specs.declared.TaskFile.{TaskFile}
use Rattle.taskfile.specs.TaskFile.{count_of, started}
use Rattle.taskfile.specs.Run.{limit_of, is_limit, is_run, takes_list, is_packet_run, is_list_run, is_answer_run, phase_of, left_of}
use Rattle.taskfile.specs.Host.{access_of, gone, answered, packet_end, packet_byte, list_byte, answer_byte, turn_of}
use Rattle.registers.specs.Registers.{gives, step_of, memory_of}

-- what there is: the record, the drive and the response memory; and what was seen since the last mark: the last number other than 0, the sizes
-- of the runs that began, the bytes that were read, and the blocks that the last access named
pub record Board : Type 0 where
  pub file : TaskFile
  pub state : Drive
  pub memory : List ℕ
  pub number : ℕ
  pub sizes : List ℕ
  pub bytes : List ℕ
  pub start : ℕ
  pub blocks : ℕ

-- a run of list or answer begins: all of its bytes are left
abbrev begins : TaskFile → Bool
begins f = not (eqb f.reason 0x01) and not (eqb (left_of f) 0) and eqb (left_of f) (count_of f)

-- an access by its number, with its byte and Table E
unfoldable pub touched : ℕ → ℕ → Board → Board
touched a v b =
    let s = step_of b.file (access_of a) v b.state table_e b.memory in
    record {
      file = s.file;
      state = s.answer.state;
      memory = memory_of b.file (access_of a) v b.state table_e b.memory;
      number = choose eqb s.answer.number 0 then b.number else s.answer.number;
      sizes = choose (eqb a 0 or eqb a 8) and eqb s.answer.number 0 and begins b.file then b.sizes ++ (count_of b.file ∷ []) else b.sizes;
      bytes = choose eqb a 8 and eqb s.answer.number 0 then b.bytes ++ (s.answer.byte ∷ []) else b.bytes;
      start = s.answer.start;
      blocks = s.answer.count;
    }

-- bytes written as data, and n data reads
unfoldable pub wrote : List ℕ → Board → Board
wrote [] b = b
wrote (v ∷ vs) b = wrote vs (touched 0 v b)

unfoldable pub drained : ℕ → Board → Board
drained zero b = b
drained (suc n) b = drained n (touched 8 0 b)

-- an access by its number, with its byte; A0h and the 12 bytes of a packet; bytes written as data; n data reads
pub data Step : Type 0 where
  access : (a v : ℕ) → Step
  packet : (bytes : List ℕ) → Step
  writes : (bytes : List ℕ) → Step
  reads : (n : ℕ) → Step

unfoldable pub stepped : Step → Board → Board
stepped (access a v) b = touched a v b
stepped (packet p) b = wrote p (touched 7 0xA0 b)
stepped (writes l) b = wrote l b
stepped (reads n) b = drained n b

-- what is seen of it: that number, the runs' sizes, the bytes read, the blocks named; the reason, the byte count, the bytes left of the run and
-- the target's status then; and the sense that the target holds
pub record Seen : Type 0 where
  pub number : ℕ
  pub sizes : List ℕ
  pub bytes : List ℕ
  pub start : ℕ
  pub blocks : ℕ
  pub reason : ℕ
  pub count : ℕ
  pub left : ℕ
  pub status : ℕ
  pub sense : Sense

unfoldable pub is_seen : Board → Seen → Bool
is_seen b s =
    eqb b.number s.number
    and same_bytes b.sizes s.sizes
    and same_bytes b.bytes s.bytes
    and eqb b.start s.start
    and eqb b.blocks s.blocks
    and eqb b.file.reason s.reason
    and eqb (count_of b.file) s.count
    and eqb (left_of b.file) s.left
    and eqb b.file.status s.status
    and same_sense b.state.unit.sense s.sense

-- a step and what is marked of it
pub record Mark : Type 0 where
  pub step : Step
  pub seen : Seen

abbrev pub mark : Step → Seen → Mark
mark s r = record { step = s; seen = r }

-- what was seen is put away
abbrev fresh : Board → Board
fresh b = record { file = b.file; state = b.state; memory = b.memory; number = 0; sizes = []; bytes = []; start = 0; blocks = 0 }

-- each step comes out as marked
unfoldable pub all_seen : Board → List Mark → Bool
all_seen b [] = true
all_seen b (m ∷ ms) = let n = stepped m.step (fresh b) in is_seen n m.seen and all_seen n ms

-- ---- what is seen

-- a number or 0, with that reason, byte count and bytes left
abbrev shows : ℕ → ℕ → ℕ → ℕ → Seen
shows n r c l = record {
  number = n;
  sizes = [];
  bytes = [];
  start = 0;
  blocks = 0;
  reason = r;
  count = c;
  left = l;
  status = 0x00;
  sense = triple 0x00 0x00 0x00;
}

-- idle, with that byte count; the bytes left of the packet; the first run of the list, or of the answer; refused by 15, in any of them
abbrev idle : ℕ → Seen
idle c = shows 0 0x03 c 0

abbrev asks_packet : ℕ → Seen
asks_packet n = shows 0 0x01 0xEB14 n

abbrev asks_list : ℕ → Seen
asks_list n = shows 0 0x00 n n

abbrev answers : ℕ → Seen
answers n = shows 0 0x02 n n

abbrev refuses : ℕ → ℕ → ℕ → Seen
refuses r c l = shows 15 r c l

-- bytes in runs of those sizes, and then GOOD status, with the last run's size in the byte count
abbrev runs : List ℕ → List ℕ → ℕ → Seen
runs s b c = record {
  number = 0;
  sizes = s;
  bytes = b;
  start = 0;
  blocks = 0;
  reason = 0x03;
  count = c;
  left = 0;
  status = 0x00;
  sense = triple 0x00 0x00 0x00;
}

-- GOOD status at once, with a READ's blocks
abbrev reading : ℕ → ℕ → ℕ → Seen
reading a n c = record {
  number = 0;
  sizes = [];
  bytes = [];
  start = a;
  blocks = n;
  reason = 0x03;
  count = c;
  left = 0;
  status = 0x00;
  sense = triple 0x00 0x00 0x00;
}

-- CHECK CONDITION at once, with a triple
abbrev fails : ℕ → ℕ → ℕ → ℕ → Seen
fails k a q c = record {
  number = 0;
  sizes = [];
  bytes = [];
  start = 0;
  blocks = 0;
  reason = 0x03;
  count = c;
  left = 0;
  status = 0x02;
  sense = triple k a q;
}

-- ---- the packets

-- the byte count's two registers, data read, command and reset
abbrev low : ℕ → Step
low v = access 4 v

abbrev high : ℕ → Step
high v = access 5 v

abbrev reads_one : Step
reads_one = access 8 0

abbrev writes_one : Step
writes_one = access 0 0x12

abbrev commands : ℕ → Step
commands v = access 7 v

abbrev resets : Step
resets = access 9 0

-- INQUIRY of 36 bytes, 00h, READ of one block at 149
abbrev inquires : Step
inquires = packet (0x12 ∷ 0x00 ∷ 0x00 ∷ 0x00 ∷ 0x24 ∷ 0x00 ∷ 0x00 ∷ 0x00 ∷ 0x00 ∷ 0x00 ∷ 0x00 ∷ 0x00 ∷ [])

abbrev tests : Step
tests = packet (0x00 ∷ 0x00 ∷ 0x00 ∷ 0x00 ∷ 0x00 ∷ 0x00 ∷ 0x00 ∷ 0x00 ∷ 0x00 ∷ 0x00 ∷ 0x00 ∷ 0x00 ∷ [])

abbrev reads_block : Step
reads_block = packet (0x28 ∷ 0x00 ∷ 0x00 ∷ 0x00 ∷ 0x00 ∷ 0x95 ∷ 0x00 ∷ 0x00 ∷ 0x01 ∷ 0x00 ∷ 0x00 ∷ 0x00 ∷ [])

-- 55h asking for n bytes, a list with 05h and retry 3, and 5Ah of 16 bytes
abbrev selects : ℕ → Step
selects n = packet (0x55 ∷ 0x00 ∷ 0x00 ∷ 0x00 ∷ 0x00 ∷ 0x00 ∷ 0x00 ∷ 0x00 ∷ n ∷ 0x00 ∷ 0x00 ∷ 0x00 ∷ [])

abbrev list : Step
list = writes (0x00 ∷ 0x00 ∷ 0x00 ∷ 0x00 ∷ 0x00 ∷ 0x00 ∷ 0x00 ∷ 0x00 ∷ 0x01 ∷ 0x06 ∷ 0x05 ∷ 0x03 ∷ 0x00 ∷ 0x00 ∷ 0x00 ∷ 0x00 ∷ [])

abbrev senses : Step
senses = packet (0x5A ∷ 0x00 ∷ 0x01 ∷ 0x00 ∷ 0x00 ∷ 0x00 ∷ 0x00 ∷ 0x00 ∷ 0x10 ∷ 0x00 ∷ 0x00 ∷ 0x00 ∷ [])

abbrev page : List ℕ
page = 0x00 ∷ 0x0E ∷ 0x00 ∷ 0x00 ∷ 0x00 ∷ 0x00 ∷ 0x00 ∷ 0x00 ∷ 0x01 ∷ 0x06 ∷ 0x05 ∷ 0x03 ∷ 0x00 ∷ 0x00 ∷ 0x00 ∷ 0x00 ∷ []

-- ---- the run

abbrev pub register_marks : List Mark
register_marks =
    -- before a packet: a data read, a data write, ECh and 08h
    mark reads_one (refuses 0x03 0xEB14 0)
    ∷ mark writes_one (refuses 0x03 0xEB14 0)
    ∷ mark (commands 0xEC) (refuses 0x03 0xEB14 0)
    ∷ mark (commands 0x08) (refuses 0x03 0xEB14 0)
    -- INQUIRY by a limit of 10
    ∷ mark (low 10) (idle 0xEB0A)
    ∷ mark (high 0) (idle 10)
    ∷ mark inquires (answers 10)
    ∷ mark (reads 36) (runs (10 ∷ 10 ∷ 10 ∷ 6 ∷ []) inquiry_bytes 6)
    -- without a new write: the last run's size is the limit
    ∷ mark inquires (answers 6)
    ∷ mark (reads 36) (runs (6 ∷ 6 ∷ 6 ∷ 6 ∷ 6 ∷ 6 ∷ []) inquiry_bytes 6)
    -- an odd limit counts as one less
    ∷ mark (low 5) (idle 5)
    ∷ mark inquires (answers 4)
    ∷ mark (reads 36) (runs (4 ∷ 4 ∷ 4 ∷ 4 ∷ 4 ∷ 4 ∷ 4 ∷ 4 ∷ 4 ∷ []) inquiry_bytes 4)
    -- 1 as 2
    ∷ mark (low 1) (idle 1)
    ∷ mark inquires (answers 2)
    ∷ mark (reads 36) (runs (2 ∷ 2 ∷ 2 ∷ 2 ∷ 2 ∷ 2 ∷ 2 ∷ 2 ∷ 2 ∷ 2 ∷ 2 ∷ 2 ∷ 2 ∷ 2 ∷ 2 ∷ 2 ∷ 2 ∷ 2 ∷ []) inquiry_bytes 2)
    -- 0 as 65,534
    ∷ mark (low 0) (idle 0)
    ∷ mark inquires (answers 36)
    ∷ mark (reads 36) (runs (36 ∷ []) inquiry_bytes 36)
    -- and FFFFh
    ∷ mark (low 0xFF) (idle 0xFF)
    ∷ mark (high 0xFF) (idle 0xFFFF)
    ∷ mark inquires (answers 36)
    ∷ mark (reads 36) (runs (36 ∷ []) inquiry_bytes 36)
    -- 00h: no run, and status at once; READ names its block there
    ∷ mark tests (idle 36)
    ∷ mark reads_block (reading 149 1 36)
    -- 55h asking for 8 bytes takes no list; asking for 16 it takes it by a limit of 4, and gives no data
    ∷ mark (selects 8) (fails 0x05 0x1A 0x00 36)
    ∷ mark tests (idle 36)
    ∷ mark (low 4) (idle 4)
    ∷ mark (selects 16) (asks_list 4)
    ∷ mark reads_one (refuses 0x00 4 4)
    ∷ mark list (runs (4 ∷ 4 ∷ 4 ∷ 4 ∷ []) [] 4)
    -- 5Ah shows the page
    ∷ mark (low 0xFF) (idle 255)
    ∷ mark senses (answers 16)
    ∷ mark (reads 16) (runs (16 ∷ []) page 16)
    -- in an answer run: a data write, the byte count, A0h
    ∷ mark inquires (answers 16)
    ∷ mark writes_one (refuses 0x02 16 16)
    ∷ mark (low 0) (refuses 0x02 16 16)
    ∷ mark (commands 0xA0) (refuses 0x02 16 16)
    -- reset in a run, then 00h: the power-on's attentions
    ∷ mark resets (idle 0xEB14)
    ∷ mark reads_one (refuses 0x03 0xEB14 0)
    ∷ mark tests (fails 0x06 0x29 0x00 0xEB14)
    ∷ mark tests (fails 0x06 0x28 0x00 0xEB14)
    ∷ mark tests (idle 0xEB14)
    -- while a packet enters the byte count stays: five bytes of it, then a data read, the byte count, reset
    ∷ mark (commands 0xA0) (asks_packet 12)
    ∷ mark (writes (0x12 ∷ 0x00 ∷ 0x00 ∷ 0x00 ∷ 0x24 ∷ [])) (asks_packet 7)
    ∷ mark reads_one (refuses 0x01 0xEB14 7)
    ∷ mark (low 10) (refuses 0x01 0xEB14 7)
    ∷ mark resets (idle 0xEB14)
    ∷ []

-- the record at the start, "Loaded, nothing pending", 6,538 bytes of response memory
abbrev handed : Board
handed = record { file = started; state = loaded_e; memory = replicate bound 0xFF; number = 0; sizes = []; bytes = []; start = 0; blocks = 0 }

pub register_marked : all_seen handed register_marks ≡ true
unfolding all_seen is_seen stepped wrote drained touched step_of memory_of gives fill access_of gone answered packet_end packet_byte list_byte answer_byte turn_of limit_of is_limit is_run takes_list is_packet_run is_list_run is_answer_run phase_of left_of same_bytes ◌and◌ ◌or◌ choose◌then◌else◌ every is_msf sense_at same_sense among is_known is_status is_play among_bytes is_setting is_known_state power_on attend is_track is_extra start_of names simple free plain head_a0 head_a1 headed addressed row_test one size listed numbered is_session starts before follows in_place in_order rule1 rule2 each_row rises out_before begins_after rising rule7 first_broken late_rules row_rules fault is_fit next_out out_at covers wanted next_found found track_of is_mode in_mode all_in pending_of gate decode answering over in_range ranged values_of page_shown is_list_length is_page selected mode_select perform refusal_of answer
register_marked = refl
