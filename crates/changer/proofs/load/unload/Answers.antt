-- `changer::load::unload` meets its contract: with a disc in the drive its home alone changes, with none nothing does.
use Rattle.changer.specs.ChangerPacket.{mechanism_of}
use Rattle.changer.specs.MechanismLaws.{acted-unload, acted-unmoved}
use Rattle.changer.proofs.load.unload.Goals as goal

pub returns-then-deck : goal.returns-then-deck
returns-then-deck c = let x = c.args in
    let d = c.if-deck.true in
    rw (c.moving.ensures, c.done_with.ensures, c.returned_deck.ensures, c.full_slot-s.ensures, c.slot_of.ensures, c.wide-at.ensures.same)
    (acted-unload (mechanism_of x.c x.slots.now) d (c.requires d))

pub returns : goal.returns
returns c = let x = c.args in
    rw c.still.ensures (acted-unmoved (mechanism_of x.c x.slots.now) c.if-deck.false)
