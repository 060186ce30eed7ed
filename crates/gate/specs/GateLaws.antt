-- Step 2, over any deck: what is pending is told, and with nothing pending the result is settled.
use Rattle.std.specs.Prelude.{◌≡◌, refl, Option, Some, None}
use Rattle.std.proofs.Math.Path.{ap}
use Rattle.attention.specs.declared.Unit.{Unit}
use Rattle.gate.specs.declared.unit.Pending.{Pending}
use Rattle.gate.specs.declared.unit.Pending.TheVariants.{Power, Change}
use Rattle.gate.specs.Unit.{pending_of, attention_sense, told}
use Rattle.gate.specs.Gate.{Result, check, settle, meet, gate}

module _ {M : Type 0} where
  pub gate-tells : (a : Option Pending) (u : Unit) (m : M) (r : Result M) → pending_of u ≡ a → (a ≡ None → ⊥) → gate u m r ≡ check (attention_sense a) (told a u) m
  unfolding gate
  gate-tells (Some Power) u m r e n = ap (λ (a : Option Pending). meet a u m r) e
  gate-tells (Some Change) u m r e n = ap (λ (a : Option Pending). meet a u m r) e
  gate-tells None u m r e n = absurd (n refl)

  pub gate-settles : (u : Unit) (m : M) (r : Result M) → pending_of u ≡ None → gate u m r ≡ settle u m r
  unfolding gate
  gate-settles u m r e = ap (λ (a : Option Pending). meet a u m r) e
