-- `changer::meet::passed` meets its contract: any packet that is not the changer's own is answered as by the drive.
use mathlib.Core.Path.{sym, ◌∙◌}
use Rattle.changer.specs.ChangerPacket.{mechanism_of}
use Rattle.changer.specs.ChangerPacketLaws.{changer-carried, answered_by-carried}
use Rattle.changer.proofs.meet.passed.Goals as goal

pub returns : goal.returns
returns c = let x = c.args in
    let e = changer-carried x.c x.slots.now x.p.now x.t.now x.list.now _ c.requires (sym c.is_own.ensures ∙ c.if-is_own.false) in
    rw (e, c.with_home.ensures, c.staying.ensures) (answered_by-carried (mechanism_of x.c x.slots.now) c.packet.ensures)
