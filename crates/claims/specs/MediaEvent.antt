-- K7: "one media event, the latest of: 1 button pressed on a locked closed tray, 2 loading, 3 opening with a disc". What happened and what
-- cleared it are read off calls, answers and the tray, never off the event itself.
use Rattle.std.specs.Prelude.{ℕ, Bool, not, List, eqb}
use Rattle.ground.specs.Tests.{◌and◌, ◌or◌}
use Rattle.deck.specs.declared.Deck.{Deck}
use Rattle.command.specs.Command.{code_of}
use Rattle.event.specs.EventAnswer.{is_clearing}
use Rattle.claims.specs.Telling.{is_good}
use Rattle.claims.specs.Call.{Happening, is_pressing, is_packet, moves_tray, is_loading}

-- the three, and their numbers
pub data Media : Type 0 where
  pressed : Media
  loaded : Media
  opened : Media

abbrev pub number_of : Media → ℕ
number_of pressed = 1
number_of loaded = 2
number_of opened = 3

-- "1 button pressed on a locked closed tray": a press under refusal 5
abbrev pub is_pressed : Happening → Bool
is_pressed e = is_pressing e.call and eqb e.answer.number 5

-- the tray was closed and is open, with a disc in
abbrev pub opens_on : Deck → Deck → Bool
opens_on m n = not m.tray_open and n.tray_open and n.disc_in

-- "3 opening with a disc", by button or packet
abbrev pub is_opening : Happening → Bool
is_opening e = moves_tray e.call and opens_on e.old.deck e.new.deck

-- which of the three the event of a history is; "2 loading" is that of the change attention
abbrev pub happens : Media → Happening → Bool
happens pressed e = is_pressed e
happens loaded e = is_loading e
happens opened e = is_opening e

-- it is one of them
abbrev pub happens_any : Happening → Bool
happens_any e = is_pressed e or is_loading e or is_opening e

-- GET EVENT STATUS NOTIFICATION 4Ah
abbrev pub is_poll : List ℕ → Bool
is_poll p = eqb (code_of p) 0x4A

-- "A media answer of at least five bytes clears the event."
abbrev pub clears : Happening → Bool
clears e = is_packet is_poll e.call and is_good e.answer and is_clearing e.answer.full e.answer.limit

-- one of the three happens, or an answer clears: what was waiting then waits no longer
abbrev pub replaces : Happening → Bool
replaces e = happens_any e or clears e
