-- "Unfit ones are refused by number; a refused call leaves state and memory as they were." K7: "A press under refusal 5 now changes that event
-- only, the one exception to demand 1." Each number "given exactly when";
-- K6: "Refusal 4 carries that number to every caller", the first broken rule.
use Rattle.std.specs.Prelude.{Bool, true, false, not, List, ℕ, length, eqb, ltb, leb}
use Rattle.ground.specs.Tests.{◌and◌, ◌or◌}
use Rattle.drive.specs.declared.state.Drive.{Drive}
use Rattle.attention.specs.Sense.{triple, is_known}
use Rattle.page.specs.Page.{settings, among}
use Rattle.deck.specs.Deck.{is_loaded}
use Rattle.drive.specs.State.{is_known_state}
use Rattle.table.specs.Layout.{bound, last_session, descriptors}
use Rattle.sessions.specs.Session.{in_order}
use Rattle.disc.specs.Rules.{rule1, rule2, each_row, rule7, is_fit}
use Rattle.disc.specs.Part.{part_refused}
use Rattle.claims.specs.Call.{Call, answer}

-- K7: "A press under refusal 5 now changes that event only", to 1, "button pressed on a locked closed tray"
abbrev pub pressed_on : Drive → Drive
pressed_on d = record {
  unit = d.unit;
  deck = record {
    tray_open = d.deck.tray_open;
    disc_in = d.deck.disc_in;
    lock = d.deck.lock;
    play = d.deck.play;
    page = d.deck.page;
    event = 1;
  };
}

-- ---- K6: "the first broken rule of 1 to 7, tested in that order"

-- a rule is it where it is not kept and those before it are, each over the whole table
module _ (t : List ℕ) where
  abbrev pub is_first1 : Bool
  is_first1 = not (rule1 t)

  abbrev pub is_first2 : Bool
  is_first2 = rule1 t and not (rule2 t)

  abbrev pub is_first3 : Bool
  is_first3 = rule1 t and rule2 t and not (each_row 3 (descriptors t))

  abbrev pub is_first4 : Bool
  is_first4 = rule1 t and rule2 t and each_row 3 (descriptors t) and not (in_order (last_session t) (descriptors t))

  abbrev pub is_first5 : Bool
  is_first5 =
      rule1 t and rule2 t and each_row 3 (descriptors t) and in_order (last_session t) (descriptors t) and not (each_row 5 (descriptors t))

  abbrev pub is_first6 : Bool
  is_first6 =
      rule1 t and rule2 t and each_row 3 (descriptors t) and in_order (last_session t) (descriptors t) and each_row 5 (descriptors t)
      and not (each_row 6 (descriptors t))

  abbrev pub is_first7 : Bool
  is_first7 =
      rule1 t and rule2 t and each_row 3 (descriptors t) and in_order (last_session t) (descriptors t) and each_row 5 (descriptors t)
      and each_row 6 (descriptors t) and not (rule7 (last_session t) (descriptors t))

module _ (d : Drive) where
  -- the call gives the number
  abbrev pub gives : Call → ℕ → Bool
  gives c n = eqb (answer c d).number n

  -- K6: it gives 4 and the rule
  abbrev pub breaks : Call → ℕ → Bool
  breaks c i = gives c 4 and eqb (answer c d).rule i

  -- ---- 2: "held sense is none of the ten below"; K2: "2 also covers another status, a position past its end, or an end over 449,849"; K4:
  -- "refusal 2 admits these triples, and covers a recovery byte outside the twenty"; K7: "2 also covers an event over 3"

  -- none of that holds of the state
  abbrev pub is_state : Bool
  is_state = is_known_state d

  -- the held sense is one of the thirteen
  abbrev pub is_of_thirteen : Bool
  is_of_thirteen = is_known d.unit.sense

  -- the status is one of the four
  abbrev pub is_of_four : Bool
  is_of_four =
      eqb d.deck.play.status 0x11
      or eqb d.deck.play.status 0x12
      or eqb d.deck.play.status 0x13
      or eqb d.deck.play.status 0x15

  -- the position is not past its end, and the end is a block's address
  abbrev pub is_within : Bool
  is_within = leb d.deck.play.position d.deck.play.end and leb d.deck.play.end 449849

  -- the recovery byte is one of the twenty
  abbrev pub is_of_twenty : Bool
  is_of_twenty = among settings d.deck.page.recovery

  -- the event is not over 3
  abbrev pub is_up_to_three : Bool
  is_up_to_three = leb d.deck.event 3

  -- ---- "Packets test 1, 2, 3, 4, then the steps below"; K9: and nothing more

  module _ (p t l m : List ℕ) where
    -- the packet is 12 bytes
    abbrev pub is_twelve : Bool
    is_twelve = eqb (length p) 12

    -- "response memory is under 4,360 bytes"; of K1 the bound: 6,538
    abbrev pub is_under : Bool
    is_under = ltb (length m) bound

    -- "loaded .. and the table is not fit"
    abbrev pub is_unfit : Bool
    is_unfit = is_loaded d.deck and not (is_fit t)

    -- K6: with the broken rule beside it, where the table is looked at
    abbrev pub is_looked : Bool
    is_looked = is_twelve and is_state and not is_under and is_loaded d.deck

  -- ---- power-on

  -- "Power-on .. keeps the handed state's tray and disc and is never refused: lock off, sense 00/00/00, power attention pending"; K2:
  -- "Power-on .. set 15h, position 0 and end 0"; K4: "Power-on restores defaults", 0 and 0; K7: "power-on clears it", the event: of every
  -- state, also one that refusal 2 meets. It hands back the state alone, and no number.
  abbrev pub restarted : Bool → Drive
  restarted change = record {
    unit = record { power = true; change = change; sense = triple 0x00 0x00 0x00 };
    deck = record {
      tray_open = d.deck.tray_open;
      disc_in = d.deck.disc_in;
      lock = false;
      play = record { status = 0x15; position = 0; end = 0 };
      page = record { recovery = 0x00; retry = 0x00 };
      event = 0;
    };
  }

-- ---- "The session part tests fitness (4, empty part) before 10": "a session asked for is 0 or over S"

module _ (t : List ℕ) (k : ℕ) where
  -- it is told the number, and K6: 4 with the rule
  abbrev pub part_gives : ℕ → Bool
  part_gives n = eqb (part_refused t k).number n

  abbrev pub part_breaks : ℕ → Bool
  part_breaks i = part_gives 4 and eqb (part_refused t k).rule i
