-- The packets, by operation code, and the fields that stand in them (those of READ TOC and READ SUB-CHANNEL with their answers).
use Rattle.std.specs.Prelude.{ℕ, ◌+◌, ◌/◌, ◌%◌, ◌^◌, Bool, true, false, not, List, get_or, eqb}
use Rattle.ground.specs.Tests.{◌and◌, choose◌then◌else◌}
use Rattle.ground.specs.Number.{word16, word32}
use Rattle.command.specs.declared.decode.Command.{Command}
use Rattle.command.specs.declared.decode.Kind.{Kind}
use Rattle.command.specs.declared.decode.Kind.TheVariants.{Asks, Passes, Gates}
use Rattle.command.specs.declared.decode.Command.TheVariants.{TestUnitReady, RequestSense, Inquiry, StartStop, Prevent, ReadCapacity, Read10, Seek, ReadToc, Read12, PlayAudio, PauseResume, ReadSubChannel, ModeSense, ModeSelect, GetEvent, Unknown}

-- "TEST UNIT READY 00h, REQUEST SENSE 03h, INQUIRY 12h, START/STOP UNIT 1Bh, PREVENT/ALLOW 1Eh, READ CAPACITY 25h, READ(10) 28h,
-- SEEK(10) 2Bh, READ TOC 43h, READ(12) A8h"; K2: "PLAY AUDIO(10) 45h, PAUSE/RESUME 4Bh and READ SUB-CHANNEL 42h"; K4: "MODE SENSE(10) 5Ah
-- and MODE SELECT(10) 55h"; K7: "GET EVENT STATUS NOTIFICATION 4Ah"
unfoldable pub decode : ℕ → Command
decode code =
    choose eqb code 0x00 then TestUnitReady else (
    choose eqb code 0x03 then RequestSense else (
    choose eqb code 0x12 then Inquiry else (
    choose eqb code 0x1B then StartStop else (
    choose eqb code 0x1E then Prevent else (
    choose eqb code 0x25 then ReadCapacity else (
    choose eqb code 0x28 then Read10 else (
    choose eqb code 0x2B then Seek else (
    choose eqb code 0x43 then ReadToc else (
    choose eqb code 0xA8 then Read12 else (
    choose eqb code 0x45 then PlayAudio else (
    choose eqb code 0x4B then PauseResume else (
    choose eqb code 0x42 then ReadSubChannel else (
    choose eqb code 0x5A then ModeSense else (
    choose eqb code 0x55 then ModeSelect else (
    choose eqb code 0x4A then GetEvent else Unknown)))))))))))))))

-- byte k of a packet, and the numbers that stand in it
abbrev pub byte : List ℕ → ℕ → ℕ
byte p k = get_or p k 0

abbrev pub code_of : List ℕ → ℕ
code_of p = byte p 0

-- bit n of a byte, n below 8 (a greater one is taken by its remainder)
abbrev pub bit : ℕ → ℕ → Bool
bit n b = eqb (b / 2 ^ (n % 8) % 2) 1

-- bit 0 and bit 1 of a byte
abbrev pub bit0 : ℕ → Bool
bit0 b = bit 0 b

abbrev pub bit1 : ℕ → Bool
bit1 b = bit 1 b

-- bit 6 of a byte
abbrev pub bit6 : ℕ → Bool
bit6 b = bit 6 b

-- the number in a packet's four bytes from i on
abbrev pub word_at : List ℕ → ℕ → ℕ
word_at p i = word32 (byte p i) (byte p (i + 1)) (byte p (i + 2)) (byte p (i + 3))

-- "address in bytes 2 to 5"
abbrev pub address_in : List ℕ → ℕ
address_in p = word_at p 2

-- "count in 7 to 8 (28h) or 6 to 9 (A8h)"; K2: PLAY AUDIO(10)'s stands where READ(10)'s does
abbrev pub count10 : List ℕ → ℕ
count10 p = word16 (byte p 7) (byte p 8)

abbrev pub count12 : List ℕ → ℕ
count12 p = word_at p 6

-- "length in 7 to 8" (43h); K2: 42h's stands there too, and K4: 5Ah's and 55h's, K7: 4Ah's
abbrev pub length_in : List ℕ → ℕ
length_in p = word16 (byte p 7) (byte p 8)

-- "1Bh: byte 4 bit 1 LoEj, bit 0 Start"
abbrev pub lo_ej : List ℕ → Bool
lo_ej p = bit1 (byte p 4)

abbrev pub start : List ℕ → Bool
start p = bit0 (byte p 4)

-- 1Bh "with LoEj 0 and Start 1": b is the packet's byte 4
abbrev pub starting : ℕ → Bool
starting b = not (bit1 b) and bit0 b

-- "Needing one: 00h, 25h, 28h, 2Bh, 43h, A8h, and 1Bh with LoEj 0 and Start 1."; K2: "These commands need a disc."; K4's two, which fail
-- "after step 3", and K7's are not among them. b is the packet's byte 4.
abbrev pub needing : Command → ℕ → Bool
needing TestUnitReady b = true
needing RequestSense b = false
needing Inquiry b = false
needing StartStop b = starting b
needing Prevent b = false
needing ReadCapacity b = true
needing Read10 b = true
needing Seek b = true
needing ReadToc b = true
needing Read12 b = true
needing PlayAudio b = true
needing PauseResume b = true
needing ReadSubChannel b = true
needing ModeSense b = false
needing ModeSelect b = false
needing GetEvent b = false
needing Unknown b = false

abbrev pub needs_disc : Command → List ℕ → Bool
needs_disc c p = needing c (byte p 4)

-- "1. INQUIRY and REQUEST SENSE are performed even with an attention pending. 2. Any other: .."; K7: 4Ah "is performed while an attention is
-- pending, tells none, and leaves the sense when GOOD", as INQUIRY is
abbrev pub kind_of : Command → Kind
kind_of TestUnitReady = Gates
kind_of RequestSense = Asks
kind_of Inquiry = Passes
kind_of StartStop = Gates
kind_of Prevent = Gates
kind_of ReadCapacity = Gates
kind_of Read10 = Gates
kind_of Seek = Gates
kind_of ReadToc = Gates
kind_of Read12 = Gates
kind_of PlayAudio = Gates
kind_of PauseResume = Gates
kind_of ReadSubChannel = Gates
kind_of ModeSense = Gates
kind_of ModeSelect = Gates
kind_of GetEvent = Passes
kind_of Unknown = Gates
