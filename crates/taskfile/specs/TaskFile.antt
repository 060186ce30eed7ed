-- K14: "004's ATAPI registers around the target": the record, and the ways in which it changes.
use Rattle.std.specs.Prelude.{ℕ, ◌/◌, ◌%◌, List, replicate}
use Rattle.ground.specs.Number.{word16}
use Rattle.taskfile.specs.declared.TaskFile.{TaskFile}

-- the interrupt reason: CoD is bit 0, IO bit 1; "K4's list enters and answers leave in runs (CoD 0; IO 0 and 1)"
abbrev pub takes_list_reason : ℕ
takes_list_reason = 0x00

-- "PACKET A0h asks for 12 bytes (reason: CoD 1, IO 0)"
abbrev pub takes_packet_reason : ℕ
takes_packet_reason = 0x01

abbrev pub gives_answer_reason : ℕ
gives_answer_reason = 0x02

-- "status ends it (CoD 1, IO 1)"
abbrev pub shows_status_reason : ℕ
shows_status_reason = 0x03

-- the bytes of a packet, and of K4's list
abbrev pub packet_bytes : ℕ
packet_bytes = 12

abbrev pub list_bytes : ℕ
list_bytes = 16

-- the byte count, of its two registers
abbrev pub count_of : TaskFile → ℕ
count_of f = word16 f.high f.low

-- the record with n in the byte count
abbrev pub counting : TaskFile → ℕ → TaskFile
counting f n = record {
  features = f.features;
  reason = f.reason;
  low = n % 256;
  high = n / 256 % 256;
  drive = f.drive;
  status = f.status;
  packet = f.packet;
  list = f.list;
  limit = f.limit;
  len = f.len;
  at = f.at;
}

-- the record with the reason r and a transfer of n bytes in runs of at most m, a of them gone
abbrev pub placed : TaskFile → ℕ → ℕ → ℕ → ℕ → TaskFile
placed f r m n a = record {
  features = f.features;
  reason = r;
  low = f.low;
  high = f.high;
  drive = f.drive;
  status = f.status;
  packet = f.packet;
  list = f.list;
  limit = m;
  len = n;
  at = a;
}

-- the record with those bytes of the packet and of the list
abbrev pub bearing : TaskFile → List ℕ → List ℕ → TaskFile
bearing f p l = record {
  features = f.features;
  reason = f.reason;
  low = f.low;
  high = f.high;
  drive = f.drive;
  status = f.status;
  packet = p;
  list = l;
  limit = f.limit;
  len = f.len;
  at = f.at;
}

-- the record with those registers: features, byte count low and high, drive, the target's status
abbrev pub holding : TaskFile → ℕ → ℕ → ℕ → ℕ → ℕ → TaskFile
holding f v l h d s = record {
  features = v;
  reason = f.reason;
  low = l;
  high = h;
  drive = d;
  status = s;
  packet = f.packet;
  list = f.list;
  limit = f.limit;
  len = f.len;
  at = f.at;
}

-- "PACKET A0h asks for 12 bytes (reason: CoD 1, IO 0)": a run of 12, and "the byte count stays as it was"
abbrev pub asked : TaskFile → TaskFile
asked f = placed f takes_packet_reason packet_bytes packet_bytes 0

-- "status ends it (CoD 1, IO 1)"
abbrev pub ended : TaskFile → TaskFile
ended f = placed f shows_status_reason 0 0 0

-- "Reset puts 14h and EBh in the byte count and ends any transfer"; "features and drive stay", and the status is 00h
abbrev pub reset : TaskFile → TaskFile
reset f = ended (holding f f.features 0x14 0xEB f.drive 0x00)

-- the record at the start
abbrev pub started : TaskFile
started = record {
  features = 0;
  reason = shows_status_reason;
  low = 0x14;
  high = 0xEB;
  drive = 0;
  status = 0x00;
  packet = replicate packet_bytes 0;
  list = replicate list_bytes 0;
  limit = 0;
  len = 0;
  at = 0;
}
