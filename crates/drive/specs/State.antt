-- "Drive state and what moves it".
use Rattle.std.specs.Prelude.{ℕ, Bool, true, false, not}
use Rattle.ground.specs.Tests.{◌and◌, choose◌then◌else◌}
use Rattle.play.specs.declared.Play.{Play}
use Rattle.deck.specs.declared.Deck.{Deck}
use Rattle.deck.specs.declared.Shifted.{Shifted}
use Rattle.drive.specs.declared.state.Drive.{Drive}
use Rattle.drive.specs.declared.state.Moved.{Moved}
use Rattle.attention.specs.Sense.{is_known}
use Rattle.play.specs.Play.{is_play, moved_on}
use Rattle.page.specs.Page.{is_setting}
use Rattle.deck.specs.Deck.{pressed, is_event, is_loaded, opening, closing, with_disc, with_play, with_event, restarted}
use Rattle.attention.specs.Unit.{powered_on, attend}

-- the refusals of these calls
abbrev pub unknown_state : ℕ
unknown_state = 2

abbrev pub locked : ℕ
locked = 5

abbrev pub cannot_lay : ℕ
cannot_lay = 6

abbrev pub cannot_lift : ℕ
cannot_lift = 7

-- "2: held sense is none of the ten"; K2: "2 also covers another status, a position past its end, or an end over 449,849"; K4: "refusal 2
-- admits these triples, and covers a recovery byte outside the twenty"; K7: "2 also covers an event over 3": none of that
unfoldable pub is_known_state : Drive → Bool
is_known_state d =
    is_known d.unit.sense and is_play d.deck.play and is_setting d.deck.page.recovery and is_event d.deck.event

-- the state after the tray moved: a loading is attended to
abbrev pub shift : Drive → Shifted → Drive
shift d s = record { unit = attend s.loading d.unit; deck = s.deck }

-- the state with that deck
abbrev pub with_deck : Drive → Deck → Drive
with_deck d m = record { unit = d.unit; deck = m }

-- the state with a disc laid or lifted
abbrev pub holding : Drive → Bool → Drive
holding d b = with_deck d (with_disc d.deck b)

-- the state with that play record
abbrev pub showing : Drive → Play → Drive
showing d r = with_deck d (with_play d.deck r)

-- the state with that media event
abbrev pub noting : Drive → ℕ → Drive
noting d e = with_deck d (with_event d.deck e)

-- ".. and is never refused"; in both forms of K3
abbrev pub power_on_with : Drive → Bool → Drive
power_on_with d change = record { unit = powered_on change; deck = restarted d.deck }

-- K3: "Power-on with a loaded disc now leaves both attentions pending by default"; with any other drive, 01's "change attention not"
unfoldable pub power_on : Drive → Drive
power_on d = power_on_with d (is_loaded d.deck)

-- K3: "A second form, which the listing program calls, keeps 01's behaviour": "change attention not"
unfoldable pub power_on_without_change : Drive → Drive
power_on_without_change d = power_on_with d false

-- a call refused by number: "state as handed in", but for the one press below
abbrev pub refuse : ℕ → Drive → Moved
refuse n d = record { number = n; state = d }

-- a call that is not refused
abbrev pub moves : Drive → Moved
moves d = record { number = 0; state = d }

-- "Button, laying and lifting test 2 before 5 to 7."; K2: "An outside call, testing 2"
abbrev pub tested : Drive → Moved → Moved
tested d r = choose is_known_state d then r else refuse unknown_state d

-- "Button: an open tray closes; a closed one opens, unless locked (5). The lock never stops closing."; K7: "A press under refusal 5 now
-- changes that event only"
unfoldable pub button : Drive → Moved
button d =
    tested d
    (choose d.deck.tray_open then moves (shift d (closing d.deck))
    else (choose d.deck.lock then refuse locked (noting d pressed) else moves (shift d (opening d.deck))))

-- "Laying a disc needs an open tray without one (6)"
unfoldable pub lay : Drive → Moved
lay d =
    tested d
    (choose d.deck.tray_open and not d.deck.disc_in
    then moves (holding d true)
    else refuse cannot_lay d)

-- "lifting needs an open tray with one (7)"
unfoldable pub lift : Drive → Moved
lift d =
    tested d
    (choose d.deck.tray_open and d.deck.disc_in
    then moves (holding d false)
    else refuse cannot_lift d)

-- K2: "An outside call, testing 2, moves a playing position on by k blocks"
unfoldable pub move_on : ℕ → Drive → Moved
move_on k d = tested d (moves (showing d (moved_on k d.deck.play)))
