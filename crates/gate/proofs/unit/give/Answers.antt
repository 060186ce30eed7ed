-- `gate::unit::give` meets its contract: the test of the held sense is the definition's, and each way out gives what its calls give.
use mathlib.Core.Path.{◌≡◌, sym, ap, ◌∙◌}
use mathlib.Core.Bool.{true, false}
use Rattle.ground.specs.Tests.{when, unless}
use Rattle.attention.specs.Sense.{no_sense, same_sense}
use Rattle.attention.specs.SenseLaws.{same_sense-derived}
use Rattle.std.specs.Prelude.{Option}
use Rattle.gate.specs.declared.unit.Pending.{Pending}
use Rattle.gate.specs.Unit.{clear, attention_sense, told, give}
use Rattle.gate.proofs.unit.give.Goals as goal

pub returns-then-eq : goal.returns-then-eq
unfolding give
returns-then-eq c = let u = c.args.u in
    let k : same_sense u.sense no_sense ≡ true = ap (same_sense u.sense) (sym c.sense_at.ensures) ∙ sym (same_sense-derived _ _) ∙ sym c.eq.ensures ∙ c.if-eq.true in
    let p = c.first_pending-a.ensures in
    let s = c.sense_of_pending.ensures ∙ ap attention_sense p in
    let v = c.clear.ensures ∙ ap clear (c.told.ensures ∙ ap (λ (a : Option Pending). told a u) p) in
    rw (s, v) (sym (when _ _ _ k))

pub returns : goal.returns
unfolding give
returns c = let u = c.args.u in
    let k : same_sense u.sense no_sense ≡ false = ap (same_sense u.sense) (sym c.sense_at.ensures) ∙ sym (same_sense-derived _ _) ∙ sym c.eq.ensures ∙ c.if-eq.false in
    rw c.clear-2.ensures (sym (unless _ _ _ k))
