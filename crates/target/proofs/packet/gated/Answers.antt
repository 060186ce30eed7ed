-- `target::packet::gated` meets its contract: a pending attention is told and nothing written; with none the command is settled.
use mathlib.Core.Path.{◌≡◌, sym, ap, ◌∙◌}
use Prim.Native.Nat.{ℕ}
use native.Mathlib.Omega.{arith}
use Rattle.attention.specs.declared.Unit.{Unit}
use Rattle.gate.specs.Unit.{told}
use Rattle.gate.specs.GateLaws.{gate-tells, gate-settles}
use Rattle.outcome.specs.Outcome.{finished}
use Rattle.target.specs.PacketLaws.{answered-check, answered-settle}
use Rattle.target.proofs.packet.gated.Goals as goal

pub returns-in-Some : goal.returns-in-Some
returns-in-Some c = let x = c.args in
    let a = c.first_pending-a.result in
    rw (gate-tells a _ _ _ (sym c.first_pending-a.ensures) (λ h. let z : ◌≡◌ {A = ℕ} 0 1 = cc in omega arith)) (answered-check _ (told a x.d.unit) _ _ c.tell.ensures)

pub returns-in-None : goal.returns-in-None
returns-in-None c = let x = c.args in
    let e = sym c.first_pending-a.ensures ∙ c.in-None.is in
    let f = c.finish.ensures ∙ ap (λ (v : Unit). finished x.d.unit v x.d.deck c.perform-done.result) c.clear.ensures in
    rw (gate-settles _ _ _ e) (answered-settle x.d.unit x.d.deck _ c.perform-done.ensures f)
