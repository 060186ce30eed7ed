-- K11: "Every other slot stays as it was; the discs in slots and drive keep their total over every packet." What a Load and an Unload leave,
-- what A6h, BDh and 1Bh with LoEj 1 answer, and that every other packet is the drive's own.
use Rattle.std.specs.Prelude.{◌≡◌, Bool, true, false, List, ℕ, eqb}
use Rattle.ground.specs.Tests.{◌and◌, ◌or◌}
use Rattle.attention.specs.declared.sense.Sense.{Sense}
use Rattle.attention.specs.Sense.{triple}
use Rattle.deck.specs.declared.Deck.{Deck}
use Rattle.changer.specs.declared.Slot.{Slot}
use Rattle.changer.specs.declared.Changer.{Changer}
use Rattle.changer.specs.Slot.{slot_at}
use Rattle.changer.specs.Mechanism.{named_slot}
use Rattle.changer.specs.ChangerPacket.{answer, state_of, outcome_of}

-- of every state, slots, packet, table, parameter list and length of the response memory
module _ (c : Changer) (s : List Slot) (p t l : List ℕ) (n : ℕ) where
  -- the state and the slots afterwards
  abbrev pub after : Changer
  after = state_of (answer c s p t l n)

  abbrev pub slots_after : List Slot
  slots_after = (answer c s p t l n).deck.slots

  -- the packet is answered GOOD
  abbrev pub is_good : Bool
  is_good = eqb (answer c s p t l n).number 0 and eqb (answer c s p t l n).status 0x00

  -- a disc is in the drive
  abbrev pub has_disc : Bool
  has_disc = c.drive.deck.disc_in

  -- ---- A6h that is answered GOOD

  -- the state then, where `change` says that the change attention is pending: the power attention as it was, the sense cleared
  abbrev pub state_with : Bool → Deck → ℕ → Changer
  state_with change deck home = record {
    drive = record { unit = record { power = c.drive.unit.power; change = change; sense = triple 0x00 0x00 0x00 }; deck = deck };
    home = home;
  }

  -- the drive closed, with a disc or without, and a media event; K2: "15h, position 0 and end 0"; lock and page as they were
  abbrev pub drive_with : Bool → ℕ → Deck
  drive_with disc e = record {
    tray_open = false;
    disc_in = disc;
    lock = c.drive.deck.lock;
    play = record { status = 0x15; position = 0; end = 0 };
    page = c.drive.deck.page;
    event = e;
  }

  -- "takes the named slot's: present and changed go to 0 there, and it is a loading": the named slot is the home, the change attention is
  -- pending, the event is 2
  abbrev pub Takes : Type 0
  Takes =
      (slot_at slots_after (named_slot p) ≡ record { present = false; changed = false })
      × (after ≡ state_with true (drive_with true 2) (named_slot p))

  -- the home slot with the disc back: "present 1, changed kept"
  abbrev pub home_slot : Slot
  home_slot = record { present = true; changed = (slot_at s c.home).changed }

  -- "returns the drive's disc to its home (present 1, changed kept; the state's home 0)", and takes none; "A return is an opening with a disc
  -- for K2 and K7": the event is 3; it is no loading: the change attention is as it was
  abbrev pub Returns : Type 0
  Returns = (slot_at slots_after c.home ≡ home_slot) × (after ≡ state_with c.drive.unit.change (drive_with false 3) 0)

  -- or nothing moves, the drive being empty
  abbrev pub Rests : Type 0
  Rests = (slots_after ≡ s) × (after ≡ state_with c.drive.unit.change c.drive.deck c.home)

  -- ---- the changer's own packets, past the refusals, with nothing pending

  module _ (unrefused : (answer c s p t l n).number ≡ 0) (quiet : c.drive.unit.power or c.drive.unit.change ≡ false) where
    -- "CHECK CONDITION is status 02h, no bytes, start 0, count 0, the triple held as sense and .. nothing else changed", nor the slots
    abbrev pub Checks : Sense → Type 0
    Checks sense =
        (outcome_of (answer c s p t l n)
        ≡ record {
          number = 0;
          rule = 0;
          status = 0x02;
          len = 0;
          start = 0;
          count = 0;
          state = record {
            drive = record { unit = record { power = c.drive.unit.power; change = c.drive.unit.change; sense = sense }; deck = c.drive.deck };
            home = c.home;
          };
        })
        × (slots_after ≡ s)
