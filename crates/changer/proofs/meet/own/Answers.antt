-- `changer::meet::own` meets its contract: LOAD/UNLOAD writes nothing, MECHANISM STATUS its answer, and 1Bh is a bad field.
use Rattle.std.proofs.Common.{refl, arith}
use Rattle.gate.specs.declared.fault.Fault.TheVariants.{BadField}
use Rattle.changer.specs.ChangerPacket.{mechanism_of}
use Rattle.changer.specs.ChangerPacketLaws.{own-load, own-status, own-tray}
use Rattle.changer.specs.MechanismLaws.{acted-fails, acted_on_quiet, load_unload_quiet}
use Rattle.changer.proofs.meet.own.Goals as goal

pub returns-in-166 : goal.returns-in-166
returns-in-166 c = let x = c.args in
    let m = mechanism_of x.c x.slots.now in
    rw (own-load x.p.now m c.in-166.is) (acted_on_quiet _ (load_unload_quiet _ _ _ m) (rw (c.bit.ensures, c.bit-in-166.ensures) at c.load_unload.ensures))

pub returns-in-189 : goal.returns-in-189
returns-in-189 c = let x = c.args in
    let e = c.in-189.is in
    rw (own-status x.p.now (mechanism_of x.c x.slots.now) (λ h. omega arith) e) (rw c.word16.ensures at c.mechanism_status.ensures)

pub returns-in_default : goal.returns-in_default
returns-in_default c = let x = c.args in
    let m = mechanism_of x.c x.slots.now in
    rw (own-tray x.p.now m (λ h. omega arith) (λ h. omega arith), c.failed.ensures) (acted_on_quiet _ refl (acted-fails m BadField refl))
