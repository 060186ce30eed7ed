-- BDh, MECHANISM STATUS: "the header of 000 (no fault, ready, home slot or 0, byte 1 zero, address 0, slots, table length) and 4 bytes a slot".
use Rattle.std.specs.Prelude.{ℕ, zero, suc, ◌+◌, ◌*◌, false, List, [], ◌∷◌, ◌++◌, length}
use Rattle.ground.specs.Tests.{choose◌then◌else◌}
use Rattle.ground.specs.Number.{word16, bytes16}
use Rattle.gate.specs.Gate.{Result, goes}
use Rattle.command.specs.Command.{byte}
use Rattle.changer.specs.declared.Slot.{Slot}
use Rattle.changer.specs.Slot.{slot_at}
use Rattle.changer.specs.Mechanism.{Mechanism}

-- "present bit 7 and changed bit 0 of the first"
unfoldable pub flags_of : Slot → ℕ
flags_of s = (choose s.present then 0x80 else 0) + (choose s.changed then 0x01 else 0)

-- "4 bytes a slot"
abbrev pub slot_bytes : Slot → List ℕ
slot_bytes s = flags_of s ∷ 0 ∷ 0 ∷ 0 ∷ []

-- of the first n slots, one after the other
unfoldable pub slot_tables : List Slot → ℕ → List ℕ
slot_tables s zero = []
slot_tables s (suc n) = slot_tables s n ++ slot_bytes (slot_at s n)

-- "home slot or 0": 0 with no disc in the drive
abbrev pub home_shown : Mechanism → ℕ
home_shown m = choose m.deck.disc_in then m.home else 0

-- fault, state and home slot in byte 0, byte 1, the address in bytes 2 to 4, the number of slots, and the length of their tables
abbrev pub header_of : ℕ → ℕ → List ℕ
header_of home n = (home ∷ 0 ∷ 0 ∷ 0 ∷ 0 ∷ n ∷ []) ++ bytes16 (4 * n)

unfoldable pub status_bytes : ℕ → List Slot → List ℕ
status_bytes home s = header_of home (length s) ++ slot_tables s (length s)

-- the allocation length: bytes 8 to 9
abbrev pub status_length : List ℕ → ℕ
status_length p = word16 (byte p 8) (byte p 9)

-- the whole answer, cut to the allocation length; it clears nothing
abbrev pub mechanism_status : ℕ → Mechanism → Result Mechanism
mechanism_status limit m = goes m false (status_bytes (home_shown m) m.slots) limit 0 0
