-- `target::packet::meet` meets its contract: a loaded drive's table is fit or the call is refused.
use Prim.Native.Nat.{ℕ}
use mathlib.Core.Path.{sym, ap, ◌∙◌}
use mathlib.Core.Bool.{true≢false}
use Rattle.disc.specs.Part.{unfit}
use Rattle.disc.specs.DiscLaws.{reading_fit, reading-unfit}
use Rattle.outcome.specs.Outcome.{refused}
use Rattle.target.specs.FitFacts.{read_off}
use Rattle.target.specs.PacketLaws.{answer-4, answer-steps, answered-refused}
use Rattle.target.proofs.packet.meet.Goals as goal

pub steps-requires : goal.steps-requires
steps-requires c = let q = c.requires in
    let r = read_off _ _ (sym c.in-Ok.ensures) in
    record { room = q.1; ready = λ h. r }

pub returns-in-Ok : goal.returns-in-Ok
returns-in-Ok c = let x = c.args in
    let q = c.requires in
    let r = sym c.in-Ok.ensures in
    rw (answer-steps x.d x.p.now x.t.now x.list.now _ c.told-p q.0 q.1 (λ h. (reading_fit _ _ r).0)) c.steps.ensures

pub returns-in-Err : goal.returns-in-Err
returns-in-Err c = let x = c.args in
    let q = c.requires in
    let r = reading-unfit _ _ (sym c.in-Err.ensures) in
    let h = c.if-is_loaded.true in
    let l = sym c.is_loaded.ensures ∙ h in
    let e = answer-4 x.d x.p.now x.t.now x.list.now _ c.told-p q.0 q.1 l r.0 in
    let o = c.refuse.ensures ∙ ap (λ (n : ℕ). refused unfit n x.d) r.1 in
    rw (e, o) (answered-refused _ _ _ _)

pub steps-requires-2 : goal.steps-requires-2
steps-requires-2 c = let q = c.requires in
    let l = sym c.is_loaded.ensures ∙ c.if-is_loaded.false in
    record { room = q.1; ready = λ h. absurd (true≢false (sym h ∙ l)) }

pub returns : goal.returns
returns c = let x = c.args in
    let q = c.requires in
    let l = sym c.is_loaded.ensures ∙ c.if-is_loaded.false in
    rw (answer-steps x.d x.p.now x.t.now x.list.now _ c.told-p q.0 q.1 (λ h. absurd (true≢false (sym h ∙ l)))) c.steps-2.ensures
