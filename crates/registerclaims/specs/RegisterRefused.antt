-- K14's refusals: "15 exactly for ..; the record stays as it was"; "A refusal by the target is handed on and ends the transfer"; and what an
-- access does that is never refused. Of every record, byte, drive state, table and response memory, by what is due at the access.
use Rattle.std.specs.Prelude.{ℕ, ◌≡◌, Bool, not, List, length, eqb, ltb}
use Rattle.ground.specs.Tests.{◌and◌}
use Rattle.deck.specs.declared.Deck.{Deck}
use Rattle.drive.specs.declared.state.Drive.{Drive}
use Rattle.deck.specs.Deck.{is_loaded}
use Rattle.drive.specs.State.{is_known_state}
use Rattle.disc.specs.Rules.{is_fit}
use Rattle.gate.specs.Gate.{Reply}
use Rattle.taskfile.specs.declared.TaskFile.{TaskFile}
use Rattle.taskfile.specs.declared.Phase.TheVariants.{Idle}
use Rattle.taskfile.specs.declared.Access.{Access}
use Rattle.taskfile.specs.Run.{phase_of}
use Rattle.registers.specs.declared.Stepped.{Stepped}
use Rattle.registers.specs.Registers.{step_of, memory_of}

-- ---- the refusals

-- the record f, the number n and the state d are handed back; rule, byte, start and count are 0
abbrev pub leaves : TaskFile → ℕ → Drive → Stepped
leaves f n d = record { file = f; answer = record { number = n; rule = 0; byte = 0; start = 0; count = 0; state = d } }

-- "After a refusal by the target: CoD 1, IO 1, idle, status 0, the number (and K6's rule) handed on": of the record f, the state d and the
-- memory m, where the target refuses by r; state, memory and the host's registers stay
pub record HandedOn (f : TaskFile) (d : Drive) (m : List ℕ) (r : Reply Deck) (s : Stepped) (m' : List ℕ) : Type 0 where
  pub answer : s.answer ≡ record { number = r.number; rule = r.rule; byte = 0; start = 0; count = 0; state = d }
  pub memory : m' ≡ m
  pub reason : s.file.reason ≡ 0x03
  pub status : s.file.status ≡ 0x00
  pub phase : phase_of s.file ≡ Idle
  pub features : s.file.features ≡ f.features
  pub low : s.file.low ≡ f.low
  pub high : s.file.high ≡ f.high
  pub drive : s.file.drive ≡ f.drive

module _ (f : TaskFile) (v : ℕ) (d : Drive) (t m : List ℕ) where
  -- the access gives the number
  abbrev pub gives : Access → ℕ → Bool
  gives a n = eqb (step_of f a v d t m).answer.number n

  -- 2 does not meet the state
  abbrev pub is_state : Bool
  is_state = is_known_state d

  -- the response memory is "under 6,538 bytes"
  abbrev pub is_under : Bool
  is_under = ltb (length m) 6538

  -- "loaded .. and the table is not fit"
  abbrev pub is_unfit : Bool
  is_unfit = is_loaded d.deck and not (is_fit t)

  -- ---- what is never refused

  -- "Reset puts 14h and EBh in the byte count and ends any transfer"; it "is also a power-on of the target, in the default form; features and
  -- drive stay, the reason shows CoD 1, IO 1", and "reset puts 00" in the status; packet and list stay too
  abbrev pub reset_file : TaskFile
  reset_file = record {
    features = f.features;
    reason = 0x03;
    low = 0x14;
    high = 0xEB;
    drive = f.drive;
    status = 0x00;
    packet = f.packet;
    list = f.list;
    limit = 0;
    len = 0;
    at = 0;
  }

  -- ---- while idle

  -- "Writes of features, byte count and drive while idle are held and have no other effect"
  module _ (idle : phase_of f ≡ Idle) where
    abbrev pub Holds : Access → TaskFile → Type 0
    Holds a g = (step_of f a v d t m ≡ leaves g 0 d) × (memory_of f a v d t m ≡ m)

-- "PACKET A0h asks for 12 bytes (reason: CoD 1, IO 0)"; "the byte count stays as it was"
abbrev pub asked_file : TaskFile → TaskFile
asked_file f = record {
  features = f.features;
  reason = 0x01;
  low = f.low;
  high = f.high;
  drive = f.drive;
  status = f.status;
  packet = f.packet;
  list = f.list;
  limit = 12;
  len = 12;
  at = 0;
}
