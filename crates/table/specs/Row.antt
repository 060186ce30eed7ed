-- A descriptor of the lent table as a value, and the tests that rules 3, 4, 5 and 6 make of one.
use Rattle.std.specs.Prelude.{ℕ, ◌+◌, ◌*◌, ◌/◌, Bool, true, List, length, get_or, eqb}
use Rattle.ground.specs.Tests.{◌and◌, ◌or◌, choose◌then◌else◌}
use Rattle.address.specs.Address.{frames, address_of, is_msf}
use Rattle.table.specs.Layout.{row, A0, A1, A2, is_track, is_extra}
use Rattle.table.specs.declared.row.Row.{Row}

-- the descriptor that stands at byte `at`: "session, ADR (high nibble) and control (low), TNO, POINT, MIN, SEC, FRAME, ZERO, PMIN, PSEC, PFRAME"
abbrev pub row_from : List ℕ → ℕ → Row
row_from d at = record {
  session = get_or d at 0;
  flags = get_or d (at + 1) 0;
  tno = get_or d (at + 2) 0;
  point = get_or d (at + 3) 0;
  min = get_or d (at + 4) 0;
  sec = get_or d (at + 5) 0;
  frame = get_or d (at + 6) 0;
  zero = get_or d (at + 7) 0;
  pmin = get_or d (at + 8) 0;
  psec = get_or d (at + 9) 0;
  pframe = get_or d (at + 10) 0;
}

-- descriptor j
abbrev pub row_at : List ℕ → ℕ → Row
row_at d j = row_from d (row * j)

-- all of its bytes 0
abbrev pub blank : Row
blank = record { session = 0; flags = 0; tno = 0; point = 0; min = 0; sec = 0; frame = 0; zero = 0; pmin = 0; psec = 0; pframe = 0 }

-- what the reader answers: the descriptor that eleven bytes write, and a blank one off any other number of bytes
unfoldable pub row_of : List ℕ → Row
row_of b = choose eqb (length b) row then row_from b 0 else blank

-- the address that it holds, counted in frames from 00:00:00 on
unfoldable pub frames_of : Row → ℕ
frames_of r = frames r.pmin r.psec r.pframe

-- the block address that it holds
unfoldable pub start_of : Row → ℕ
start_of r = address_of r.pmin r.psec r.pframe

-- of descriptor j
abbrev pub frames_at : List ℕ → ℕ → ℕ
frames_at d j = frames_of (row_at d j)

abbrev pub address_at : List ℕ → ℕ → ℕ
address_at d j = start_of (row_at d j)

-- "ADR (high nibble)"
abbrev pub adr : Row → ℕ
adr r = r.flags / 16

-- it is of session k and has POINT p
unfoldable pub names : Row → ℕ → ℕ → Bool
names r k p = eqb r.session k and eqb r.point p

-- rule 3: "every descriptor has ADR 1, TNO 0 and ZERO 0"
unfoldable pub simple : Row → Bool
simple r = eqb (adr r) 1 and eqb r.tno 0 and eqb r.zero 0

-- and of B0h and C0h, K1: "ADR 5 and TNO 0 (rule 3, in place of its own); other bytes are free"
unfoldable pub free : Row → Bool
free r = eqb (adr r) 5 and eqb r.tno 0

-- rule 3, by POINT wherever the descriptor stands
unfoldable pub plain : Row → Bool
plain r = choose is_extra r.point then free r else simple r

-- "A0's PSEC is 00h, 10h or 20h and its PFRAME 0"
unfoldable pub head_a0 : Row → Bool
head_a0 r = eqb r.pframe 0 and (eqb r.psec 0x00 or eqb r.psec 0x10 or eqb r.psec 0x20)

-- "A1's PSEC and PFRAME are 0"
unfoldable pub head_a1 : Row → Bool
head_a1 r = eqb r.psec 0 and eqb r.pframe 0

-- rule 5; K1: "Rules 5 to 7 .. pass over" B0h and C0h
unfoldable pub headed : Row → Bool
headed r = choose eqb r.point A0 then head_a0 r else (choose eqb r.point A1 then head_a1 r else true)

-- rule 6: "A2 (lead-out) and every track hold an address from 00:02:00 to 99:59:74, seconds to 59, frames to 74"; it passes over them too
unfoldable pub addressed : Row → Bool
addressed r = choose eqb r.point A2 or is_track r.point then is_msf r.pmin r.psec r.pframe else true

-- the test that each of rules 3, 5 and 6 makes
unfoldable pub row_test : ℕ → Row → Bool
row_test n r = choose eqb n 3 then plain r else (choose eqb n 5 then headed r else addressed r)
