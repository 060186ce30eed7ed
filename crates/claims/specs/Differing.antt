-- The parts in which two states differ: there are none exactly when the states are the same.
use Rattle.std.specs.Prelude.{Bool, true, false, not, eqb}
use mathlib.Core.List.{List, [], ◌∷◌}
use Rattle.ground.specs.Tests.{◌and◌}
use Rattle.play.specs.declared.Play.{Play}
use Rattle.page.specs.declared.Page.{Page}
use Rattle.drive.specs.declared.state.Drive.{Drive}
use Rattle.attention.specs.Sense.{same_sense}

-- the parts of a state: the two attentions, the held sense, tray, disc and lock, K2's play record, K4's mode page, K7's media event
pub data Part : Type 0 where
  power : Part
  change : Part
  sense : Part
  tray : Part
  disc : Part
  lock : Part
  play : Part
  page : Part
  event : Part

-- flags, play records and mode pages, compared
unfoldable pub same_flag : Bool → Bool → Bool
same_flag true b = b
same_flag false b = not b

unfoldable pub same_play : Play → Play → Bool
same_play r s = eqb r.status s.status and eqb r.position s.position and eqb r.end s.end

unfoldable pub same_page : Page → Page → Bool
same_page g h = eqb g.recovery h.recovery and eqb g.retry h.retry

-- the part, where it is not the same, before the others
unfoldable pub add : Bool → Part → List Part → List Part
add true part parts = parts
add false part parts = part ∷ parts

-- the parts in which the two states differ
unfoldable pub differing : Drive → Drive → List Part
differing d e =
    add (same_flag d.unit.power e.unit.power) power
    (add (same_flag d.unit.change e.unit.change) change
    (add (same_sense d.unit.sense e.unit.sense) sense
    (add (same_flag d.deck.tray_open e.deck.tray_open) tray
    (add (same_flag d.deck.disc_in e.deck.disc_in) disc
    (add (same_flag d.deck.lock e.deck.lock) lock
    (add (same_play d.deck.play e.deck.play) play
    (add (same_page d.deck.page e.deck.page) page
    (add (eqb d.deck.event e.deck.event) event []))))))))
