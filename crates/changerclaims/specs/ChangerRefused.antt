-- "Unfit ones are refused by number; a refused call leaves state and memory as they were." K11: "Refusals: 11, after 3": a packet on the
-- changer is tested by 1, 2, 3, 11, 4 in that order, each number "given exactly when". What 2 asks of the state is claims' refused-2-state.
use Rattle.std.specs.Prelude.{◌≡◌, refl, Bool, true, false, not, List, ℕ, length, eqb, ltb, leb}
use Rattle.ground.specs.Tests.{◌and◌, ◌or◌}
use Rattle.attention.specs.Sense.{triple, sense_at}
use Rattle.deck.specs.Deck.{is_loaded}
use Rattle.drive.specs.State as drive
use Rattle.drive.specs.State.{is_known_state}
use Rattle.table.specs.Layout.{bound}
use Rattle.disc.specs.Rules.{fault, is_fit}
use Rattle.changer.specs.declared.Slot.{Slot}
use Rattle.changer.specs.declared.Changer.{Changer}
use Rattle.outcome.specs.declared.Outcome.{Outcome}
use Rattle.changer.specs.Slot.{slot_at}
use Rattle.changer.specs.Changer.{is_in_order, power_on, power_on_without_change, moves_on}
use Rattle.changer.specs.ChangerPacket.{answer, Answered}
use Rattle.changerclaims.specs.ChangerRefusalLaws.{order_not, answer-ordered, answer-beside, answer-fault, answered_unchanged, moves-tested, moves_unchanged}

module _ (c : Changer) where
  -- 2 does not meet "the drive's" part of the state
  abbrev is_state : Bool
  is_state = is_known_state c.drive

  -- ---- packets

  module _ (s : List Slot) where
    -- "11 .. for no slots, more than 31, an open tray, or a drive's disc whose home is occupied or beyond the last"
    abbrev is_out_of_order : Bool
    is_out_of_order =
        eqb (length s) 0
        or ltb 31 (length s)
        or c.drive.deck.tray_open
        or c.drive.deck.disc_in and ((slot_at s c.home).present or leb (length s) c.home)

    pub changer-refused-11-when : not (is_in_order c s) ≡ is_out_of_order
    changer-refused-11-when = order_not c s

    module _ (p t l m : List ℕ) where
      -- the packet gives the number
      abbrev gives : ℕ → Bool
      gives n = eqb (answer c s p t l (length m)).number n

      -- the packet is 12 bytes
      abbrev is_twelve : Bool
      is_twelve = eqb (length p) 12

      -- the response memory is under 6,538 bytes
      abbrev is_under : Bool
      is_under = ltb (length m) bound

      -- "loaded .. and the table is not fit"
      abbrev is_unfit : Bool
      is_unfit = is_loaded c.drive.deck and not (is_fit t)

      pub changer-refused-1 : gives 1 ≡ not is_twelve
      changer-refused-1 = (answer-ordered c s p t (length m) l).one

      pub changer-refused-2 : gives 2 ≡ is_twelve and not is_state
      changer-refused-2 = (answer-ordered c s p t (length m) l).two

      pub changer-refused-3 : gives 3 ≡ is_twelve and is_state and is_under
      changer-refused-3 = (answer-ordered c s p t (length m) l).three

      pub changer-refused-11 : gives 11 ≡ is_twelve and is_state and not is_under and not (is_in_order c s)
      changer-refused-11 = (answer-ordered c s p t (length m) l).eleven

      pub changer-refused-4 : gives 4 ≡ is_twelve and is_state and not is_under and is_in_order c s and is_unfit
      changer-refused-4 = (answer-ordered c s p t (length m) l).four

      pub changer-refused-not : gives 0 ≡ is_twelve and is_state and not is_under and is_in_order c s and not is_unfit
      changer-refused-not = (answer-ordered c s p t (length m) l).zero

      -- and no other number
      pub changer-refused-most : leb (answer c s p t l (length m)).number 4 or gives 11 ≡ true
      changer-refused-most = (answer-ordered c s p t (length m) l).most

      -- K6: "Refusal 4 carries that number to every caller": the rule is one of 1 to 7 exactly with 4, and 0 exactly with every other number
      -- and with success
      pub changer-refused-rule :
          (leb 1 (answer c s p t l (length m)).rule and leb (answer c s p t l (length m)).rule 7 ≡ gives 4)
          × (eqb (answer c s p t l (length m)).rule 0 ≡ not (gives 4))
      changer-refused-rule = let b = answer-beside c s p t (length m) l in (b.one, b.none)

      -- and with 4 it is the table's first broken rule
      pub changer-refused-4-rule : gives 4 ≡ true → (answer c s p t l (length m)).rule ≡ fault t
      changer-refused-4-rule = answer-fault c s p t (length m) l

      -- a packet with a number other than 0 hands back the state as it was and "status 0, 0 bytes, start 0, count 0", and leaves the memory
      -- and the slots as they were
      pub changer-refused-unchanged : {r : Outcome Changer} {m' : List ℕ} {s' : List Slot} → Answered (answer c s p t l (length m)) m r m' s'
          → (r.number ≡ 0 → ⊥)
          → (r ≡ record { number = r.number; rule = r.rule; status = 0; len = 0; start = 0; count = 0; state = c })
          × (m' ≡ m)
          × (s' ≡ s)
      changer-refused-unchanged = answered_unchanged c s p t l m

  -- ---- power-on

  -- "Power-on takes the slots as found and an empty closed drive": in both forms, whatever state it is handed, also one that 2 or 11 meets;
  -- home 0, "lock off, sense 00/00/00, power attention pending, change attention not", 15h, position 0 and end 0, the page's defaults and no
  -- event. It is lent no slots, and hands back the state alone, and no number.
  abbrev powered_on : Changer
  powered_on = record {
    drive = record {
      unit = record { power = true; change = false; sense = triple 0x00 0x00 0x00 };
      deck = record {
        tray_open = false;
        disc_in = false;
        lock = false;
        play = record { status = 0x15; position = 0; end = 0 };
        page = record { recovery = 0x00; retry = 0x00 };
        event = 0;
      };
    };
    home = 0;
  }

  pub changer-refused-power : (power_on c ≡ powered_on) × (power_on_without_change c ≡ powered_on)
  unfolding power_on power_on_without_change drive.power_on drive.power_on_without_change sense_at ◌and◌
  changer-refused-power = (refl, refl)

  -- ---- K2: "An outside call, testing 2": and nothing else

  pub changer-refused-move-2 : (k : ℕ) → eqb (moves_on k c).number 2 ≡ not is_state
  changer-refused-move-2 k = (moves-tested c k).two

  pub changer-refused-move-not : (k : ℕ) → eqb (moves_on k c).number 0 ≡ is_state
  changer-refused-move-not k = (moves-tested c k).zero

  pub changer-refused-move-unchanged : (k : ℕ) → ((moves_on k c).number ≡ 0 → ⊥) → (moves_on k c).state ≡ c
  changer-refused-move-unchanged = moves_unchanged c
