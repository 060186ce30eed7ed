-- 4Ah, GET EVENT STATUS NOTIFICATION: the class that is answered. Bit n of a byte is class n.
use Rattle.std.specs.Prelude.{ℕ, eqb}
use Rattle.std.specs.Int.Bits.{bit_and}
use Rattle.std.specs.Int.Count.{count_trailing_zeros}
use Rattle.ground.specs.Tests.{choose◌then◌else◌}
use Rattle.deck.specs.Deck.{no_event}

-- "classes external request (3) and media (4)"
abbrev pub external : ℕ
external = 3

abbrev pub media : ℕ
media = 4

-- "supported byte 18h"
abbrev pub supported : ℕ
supported = 0x18

-- a byte with no class in it has eight trailing zeros
abbrev pub no_class : ℕ
no_class = 8

-- the classes that have an event waiting: media where there is one; "the class external always reports zeros"
unfoldable pub waiting : ℕ → ℕ
waiting event = choose eqb event no_event then 0 else 0x10

-- "the lowest set bit of the classes"
abbrev pub lowest : ℕ → ℕ
lowest classes = count_trailing_zeros 8 classes

-- the classes in a byte, or in another where it has none
unfoldable pub or_else : ℕ → ℕ → ℕ
or_else classes others = choose eqb classes 0 then others else classes

-- "The class answered is the lowest set bit of the classes both asked for and supported that have an event waiting, or of all those where
-- none has."
unfoldable pub class_for : ℕ → ℕ → ℕ
class_for asked event =
    let both = bit_and asked supported in
    lowest (or_else (bit_and both (waiting event)) both)
