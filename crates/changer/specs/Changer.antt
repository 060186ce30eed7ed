-- The changer's state, the drive's and "the home slot of the disc in the drive", when refusal 11 meets it, and the calls that are no packets.
use Rattle.std.specs.Prelude.{ℕ, Bool, false, not, List, length, leb, ltb}
use Rattle.ground.specs.Tests.{◌and◌, ◌or◌}
use Rattle.deck.specs.Deck.{closing, with_disc}
use Rattle.drive.specs.declared.state.Drive.{Drive}
use Rattle.drive.specs.declared.state.Moved.{Moved}
use Rattle.drive.specs.State.{with_deck, move_on}
use Rattle.drive.specs.State as drive
use Rattle.changer.specs.declared.Slot.{Slot}
use Rattle.changer.specs.declared.Changer.{Changer}
use Rattle.changer.specs.declared.MovedOn.{MovedOn}
use Rattle.changer.specs.Slot.{most, slot_at}

-- the refusal that the changer adds
abbrev pub out_of_order : ℕ
out_of_order = 11

-- a drive's disc has a home: not beyond the last slot, and not occupied
abbrev pub has_home : ℕ → List Slot → Bool
has_home home s = ltb home (length s) and not (slot_at s home).present

-- "11 .. for no slots, more than 31, an open tray, or a drive's disc whose home is occupied or beyond the last": none of that
unfoldable pub is_in_order : Changer → List Slot → Bool
is_in_order c s =
    leb 1 (length s) and leb (length s) most and not c.drive.deck.tray_open
    and (not c.drive.deck.disc_in or has_home c.home s)

-- the changer with that drive
abbrev pub with_drive : Changer → Drive → Changer
with_drive c d = record { drive = d; home = c.home }

-- "Power-on takes the slots as found and an empty closed drive": the drive before it, whatever was handed in
abbrev pub emptied : Drive → Drive
emptied d = with_deck d (closing (with_disc d.deck false)).deck

-- power-on by default, and in K3's second form; the home is 0
unfoldable pub power_on : Changer → Changer
power_on c = record { drive = drive.power_on (emptied c.drive); home = 0 }

unfoldable pub power_on_without_change : Changer → Changer
power_on_without_change c = record { drive = drive.power_on_without_change (emptied c.drive); home = 0 }

-- what a call of the drive's own comes to
abbrev pub went_by : Changer → Moved → MovedOn
went_by c r = record { number = r.number; state = with_drive c r.state }

-- K2's outside call, "testing 2", as on the drive
unfoldable pub moves_on : ℕ → Changer → MovedOn
moves_on k c = went_by c (move_on k c.drive)
