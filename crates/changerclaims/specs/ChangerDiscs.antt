-- K11: "the discs in slots and drive".
use Rattle.std.specs.Prelude.{ℕ, ◌+◌, Bool, List, [], ◌∷◌}
use Rattle.ground.specs.Tests.{choose◌then◌else◌}
use Rattle.changer.specs.declared.Slot.{Slot}
use Rattle.changer.specs.declared.Changer.{Changer}
use Rattle.changer.specs.Mechanism.{Mechanism}

-- a disc is there, or not
abbrev pub one : Bool → ℕ
one b = choose b then 1 else 0

-- the discs in the slots
unfoldable pub discs_in : List Slot → ℕ
discs_in [] = 0
discs_in (x ∷ xs) = one x.present + discs_in xs

-- and in the drive
abbrev pub discs : Changer → List Slot → ℕ
discs c s = discs_in s + one c.drive.deck.disc_in

-- the same of slots and drive as a packet meets and leaves them
abbrev pub discs_of : Mechanism → ℕ
discs_of m = discs_in m.slots + one m.deck.disc_in
