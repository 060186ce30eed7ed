-- The deck: what stands in a state beside the attention unit.
use Rattle.std.specs.Prelude.{ℕ, Bool, true, false, not, leb}
use Rattle.ground.specs.Tests.{◌and◌, choose◌then◌else◌}
use Rattle.deck.specs.declared.Deck.{Deck}
use Rattle.deck.specs.declared.Shifted.{Shifted}
use Rattle.play.specs.declared.Play.{Play}
use Rattle.page.specs.declared.Page.{Page}
use Rattle.play.specs.Play.{no_play}
use Rattle.page.specs.Page.{defaults}

-- K7: "The state gains one media event, the latest of: 1 button pressed on a locked closed tray, 2 loading, 3 opening with a disc"; 0 is none
abbrev pub no_event : ℕ
no_event = 0

abbrev pub pressed : ℕ
pressed = 1

abbrev pub loaded : ℕ
loaded = 2

abbrev pub opened : ℕ
opened = 3

-- K7: "Refusals: 2 also covers an event over 3": it is not
abbrev pub is_event : ℕ → Bool
is_event e = leb e opened

-- "Loaded means tray closed with a disc in."
abbrev pub is_loaded : Deck → Bool
is_loaded m = not m.tray_open and m.disc_in

-- K7: "2 loading, 3 opening with a disc": the event after the tray moved, which without a disc stays
abbrev pub event_moved : Deck → ℕ → ℕ
event_moved m e = choose m.disc_in then e else m.event

-- the tray opens, by button or packet: no loading; K2: "opening set 15h, position 0 and end 0", with no disc in too; K7: "3 opening with a
-- disc"
abbrev pub opening : Deck → Shifted
opening m = record {
  deck = record {
    tray_open = true;
    disc_in = m.disc_in;
    lock = m.lock;
    play = no_play;
    page = m.page;
    event = event_moved m opened;
  };
  loading = false;
}

-- K2: "loading .. set 15h, position 0 and end 0": the record after a closing, which without a disc is no loading
abbrev pub closed_play : Deck → Play
closed_play m = choose m.disc_in then no_play else m.play

-- the tray closes, by button or packet: "Loading is any closing of the tray .. with a disc in"; K7: "2 loading"
abbrev pub closing : Deck → Shifted
closing m = record {
  deck = record {
    tray_open = false;
    disc_in = m.disc_in;
    lock = m.lock;
    play = closed_play m;
    page = m.page;
    event = event_moved m loaded;
  };
  loading = m.disc_in;
}

abbrev pub with_disc : Deck → Bool → Deck
with_disc m b = record { tray_open = m.tray_open; disc_in = b; lock = m.lock; play = m.play; page = m.page; event = m.event }

abbrev pub with_lock : Deck → Bool → Deck
with_lock m b = record { tray_open = m.tray_open; disc_in = m.disc_in; lock = b; play = m.play; page = m.page; event = m.event }

abbrev pub with_play : Deck → Play → Deck
with_play m r = record { tray_open = m.tray_open; disc_in = m.disc_in; lock = m.lock; play = r; page = m.page; event = m.event }

abbrev pub with_page : Deck → Page → Deck
with_page m g = record { tray_open = m.tray_open; disc_in = m.disc_in; lock = m.lock; play = m.play; page = g; event = m.event }

abbrev pub with_event : Deck → ℕ → Deck
with_event m e = record { tray_open = m.tray_open; disc_in = m.disc_in; lock = m.lock; play = m.play; page = m.page; event = e }

-- "Power-on (also reset) keeps the handed state's tray and disc ..: lock off"; K2: "Power-on .. set 15h, position 0 and end 0"; K4: "Power-on
-- restores defaults."; K7: "power-on clears it", the event
abbrev pub restarted : Deck → Deck
restarted m = record { tray_open = m.tray_open; disc_in = m.disc_in; lock = false; play = no_play; page = defaults; event = no_event }
