-- A6h, LOAD/UNLOAD: what moves between the slots and the drive.
use Rattle.std.specs.Prelude.{ℕ, Bool, true, false, not, List, [], length, ltb}
use Rattle.ground.specs.Tests.{choose◌then◌else◌}
use Rattle.deck.specs.declared.Deck.{Deck}
use Rattle.deck.specs.Deck.{opening, closing, with_disc}
use Rattle.gate.specs.declared.fault.Fault.TheVariants.{BadField, RemovalPrevented}
use Rattle.gate.specs.Gate.{Result, fails, goes}
use Rattle.command.specs.Command.{byte, bit0, bit1}
use Rattle.changer.specs.declared.Slot.{Slot}
use Rattle.changer.specs.Slot.{slot_at, put_back, take_out}

-- what stands beside the attention unit: the drive's deck, "the home slot of the disc in the drive", and the slot records
pub record Mechanism : Type 0 where
  pub deck : Deck
  pub home : ℕ
  pub slots : List Slot

-- "A return is an opening with a disc for K2 and K7": the deck opens, its disc goes, and it is closed again
abbrev pub returned_deck : Deck → Deck
returned_deck m = (closing (with_disc (opening m).deck false)).deck

-- "returns the drive's disc to its home (present 1, changed kept; the state's home 0)"; with no disc in the drive nothing is returned
unfoldable pub returned : Mechanism → Mechanism
returned m =
    choose m.deck.disc_in then record { deck = returned_deck m.deck; home = 0; slots = put_back m.slots m.home }
    else m

-- the deck with the disc taken: "it is a loading"
abbrev pub taken_deck : Deck → Deck
taken_deck m = (closing (with_disc m true)).deck

-- "takes the named slot's: present and changed go to 0 there, and it is a loading"; "From an empty slot, which stays as it was, .. is no
-- loading."
unfoldable pub takes : ℕ → Mechanism → Result Mechanism
takes i m =
    choose (slot_at m.slots i).present
    then goes (record { deck = taken_deck m.deck; home = i; slots = take_out m.slots i }) true [] 0 0 0
    else goes m false [] 0 0 0

-- "Load (LoUnlo 1, Start 1) first returns the drive's disc to its home .., then takes the named slot's"
abbrev pub loads : ℕ → Mechanism → Result Mechanism
loads i m = takes i (returned m)

-- "Unload (1,0) only returns the disc"
abbrev pub unloads : Mechanism → Result Mechanism
unloads m = goes (returned m) false [] 0 0 0

-- the packet's fields: byte 4 bit 1 LoUnlo, bit 0 Start; byte 8 the slot
abbrev pub lo_unlo : List ℕ → Bool
lo_unlo p = bit1 (byte p 4)

abbrev pub starts : List ℕ → Bool
starts p = bit0 (byte p 4)

abbrev pub named_slot : List ℕ → ℕ
named_slot p = byte p 8

-- "other pairs are 05/24/00"; "A slot beyond the last (counted from 0, tested in Unload too) is 05/24/00, a locked drive 05/53/02, pair and slot
-- first."
unfoldable pub load_unload : Bool → Bool → ℕ → Mechanism → Result Mechanism
load_unload lo start i m =
    choose not lo then fails BadField
    else (choose not (ltb i (length m.slots)) then fails BadField
    else (choose m.deck.lock then fails RemovalPrevented
    else (choose start then loads i m else unloads m)))
