-- 1Bh, START/STOP UNIT, 1Eh, PREVENT/ALLOW, and a drive with no disc.
use Rattle.std.specs.Prelude.{ℕ, []}
use Rattle.ground.specs.Tests.{choose◌then◌else◌}
use Rattle.deck.specs.declared.Deck.{Deck}
use Rattle.deck.specs.declared.Shifted.{Shifted}
use Rattle.deck.specs.Deck.{opening, closing, with_lock}
use Rattle.gate.specs.declared.fault.Fault.{Fault}
use Rattle.gate.specs.declared.fault.Fault.TheVariants.{RemovalPrevented, NoMediumClosed, NoMediumOpen}
use Rattle.gate.specs.Gate.{Result, fails, goes}
use Rattle.command.specs.Command.{bit0, bit1}
use Rattle.command.specs.Done.{done}

-- the tray moves
abbrev pub moving : Shifted → Result Deck
moving s = goes s.deck s.loading [] 0 0 0

-- "Eject (1,0): an open tray is GOOD; a closed one opens, or 05/53/02 if locked."
unfoldable pub eject : Deck → Result Deck
eject m = choose m.tray_open then done m else (choose m.lock then fails RemovalPrevented else moving (opening m))

-- "Load (1,1): closes an open tray; a closed one is GOOD."
unfoldable pub load : Deck → Result Deck
load m = choose m.tray_open then moving (closing m) else done m

-- "(0,0) is GOOD, and (0,1) when loaded; neither moves anything."
-- b is the packet's byte 4: "byte 4 bit 1 LoEj, bit 0 Start"
unfoldable pub start_stop : ℕ → Deck → Result Deck
start_stop b m = choose bit1 b then (choose bit0 b then load m else eject m) else done m

-- "1Eh: the lock becomes byte 4 bit 0."
abbrev pub prevent : ℕ → Deck → Result Deck
prevent b m = done (with_lock m (bit0 b))

-- "02/3A/02 with the tray open, 02/3A/01 closed"
abbrev pub no_medium : Deck → Fault
no_medium m = choose m.tray_open then NoMediumOpen else NoMediumClosed
