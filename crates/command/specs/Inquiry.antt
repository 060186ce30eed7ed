-- 12h, INQUIRY.
use Rattle.std.specs.Prelude.{ℕ, List, [], ◌∷◌}
use Rattle.deck.specs.declared.Deck.{Deck}
use Rattle.gate.specs.Gate.{Result}
use Rattle.command.specs.Command.{byte, bit0}
use Rattle.command.specs.Done.{answering}

-- "36 bytes: 05 80 00 21 1F 00 00 00, then "LECTERN " (8), "PACKET TARGET   " (16), "0100""
abbrev pub inquiry_bytes : List ℕ
inquiry_bytes =
    0x05 ∷ 0x80 ∷ 0x00 ∷ 0x21 ∷ 0x1F ∷ 0x00 ∷ 0x00 ∷ 0x00
    ∷ 0x4C ∷ 0x45 ∷ 0x43 ∷ 0x54 ∷ 0x45 ∷ 0x52 ∷ 0x4E ∷ 0x20
    ∷ 0x50 ∷ 0x41 ∷ 0x43 ∷ 0x4B ∷ 0x45 ∷ 0x54 ∷ 0x20 ∷ 0x54 ∷ 0x41 ∷ 0x52 ∷ 0x47 ∷ 0x45 ∷ 0x54 ∷ 0x20 ∷ 0x20 ∷ 0x20
    ∷ 0x30 ∷ 0x31 ∷ 0x30 ∷ 0x30
    ∷ []

-- "INQUIRY (byte 4): byte 1 bit 0 set gives 05/24/00."
abbrev pub inquiry : List ℕ → Deck → Result Deck
inquiry p m = answering (bit0 (byte p 1)) m inquiry_bytes (byte p 4)
