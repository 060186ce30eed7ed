-- `changer::slots::has_home` meets its contract: the home is a slot, and that slot is empty.
use Rattle.std.proofs.Common.{ap, ◌∙◌, lt-ltb, le-ltb}
use Rattle.std.proofs.Math.Bool.{not}
use Rattle.ground.specs.Tests.{and_on, and_off}
use Rattle.changer.specs.declared.Slot.{Slot}
use Rattle.changer.proofs.slots.has_home.Goals as goal

pub returns-then-home-slots : goal.returns-then-home-slots
returns-then-home-slots c = and_on _ _ (lt-ltb _ _ c.if-home-slots.true) (ap (λ (s : Slot). not s.present) c.slot_of.ensures)

pub returns-else-home-slots : goal.returns-else-home-slots
returns-else-home-slots c = let e = le-ltb _ _ c.if-home-slots.false in e ∙ and_off _ _ e
