-- `changer::meet::gated` meets its contract: a pending attention is told and nothing moves; with none the packet is performed.
use mathlib.Core.Path.{◌≡◌, sym, ap, ◌∙◌}
use Prim.Native.Nat.{ℕ}
use native.Mathlib.Omega.{arith}
use Rattle.attention.specs.declared.Unit.{Unit}
use Rattle.outcome.specs.Outcome.{finished}
use Rattle.changer.specs.ChangerPacket.{mechanism_of}
use Rattle.changer.specs.ChangerPacketLaws.{answered_by-tells, answered_by-settles}
use Rattle.changer.proofs.meet.gated.Goals as goal

pub returns-in-Some : goal.returns-in-Some
returns-in-Some c = let x = c.args in
    rw (c.with_home.ensures, c.staying.ensures)
    (answered_by-tells c.first_pending-a.result x.c.drive.unit (mechanism_of x.c x.slots.now) _ _ (sym c.first_pending-a.ensures) (λ h. let z : ◌≡◌ {A = ℕ} 0 1 = cc in omega arith) c.tell.ensures)

pub returns-in-None : goal.returns-in-None
returns-in-None c = let x = c.args in
    let d = x.c.drive in
    let e = sym c.first_pending-a.ensures ∙ c.in-None.is in
    let f = c.finish.ensures ∙ ap (λ (v : Unit). finished d.unit v d.deck c.own-act.result.done) c.clear.ensures in
    rw c.with_home-in-None.ensures (answered_by-settles d.unit (mechanism_of x.c x.slots.now) _ e c.own-act.ensures f)
