-- K11: "The slot records stand beside one another in memory that the caller lends, each with disc present and disc changed."
use Rattle.std.specs.Prelude.{ℕ, Bool, true, false, List, get_or, set}
use Rattle.changer.specs.declared.Slot.{Slot}

-- "1 to 31 slots"
abbrev pub most : ℕ
most = 31

abbrev pub slot : Bool → Bool → Slot
slot present changed = record { present = present; changed = changed }

-- a slot from which the disc was taken: "present and changed go to 0 there"
abbrev pub empty_slot : Slot
empty_slot = slot false false

-- slot i, "counted from 0"
abbrev pub slot_at : List Slot → ℕ → Slot
slot_at s i = get_or s i empty_slot

-- the drive's disc goes back to slot i: "present 1, changed kept"
abbrev pub put_back : List Slot → ℕ → List Slot
put_back s i = set s i (slot true (slot_at s i).changed)

-- the disc of slot i is taken
abbrev pub take_out : List Slot → ℕ → List Slot
take_out s i = set s i empty_slot
