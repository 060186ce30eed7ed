-- `changer::load::load` meets its contract: with a disc in the drive it is exchanged, else the named slot alone changes, if it holds one.
use Rattle.changer.specs.ChangerPacket.{mechanism_of}
use Rattle.changer.specs.MechanismLaws.{acted-take, acted-no-take}
use Rattle.changer.proofs.load.load.Goals as goal

pub returns-then-s : goal.returns-then-s
returns-then-s c = let x = c.args in
    let p = rw (c.slot_of-s.ensures, c.wide-at.ensures.same) at c.if-s.true in
    rw (c.moving-then-s.ensures, c.empty_slot-then-s.ensures, c.empty_slot.ensures, c.moving.ensures, c.closing-next.ensures, c.with_disc.ensures, c.wide-at.ensures.same)
    (acted-take (mechanism_of x.c x.slots.now) c.if-deck.false x.i c.requires.1 p)

pub returns : goal.returns
returns c = let x = c.args in
    let p = rw (c.slot_of-s.ensures, c.wide-at.ensures.same) at c.if-s.false in
    rw c.still.ensures (acted-no-take (mechanism_of x.c x.slots.now) c.if-deck.false x.i p)
