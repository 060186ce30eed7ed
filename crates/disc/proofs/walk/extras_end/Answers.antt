-- `disc::walk::extras_end` meets its contract: past the end stands none, and the second begins where the first ends.
use mathlib.Core.Path.{ap, ◌∙◌}
use Prim.Native.Nat.{ℕ}
use Rattle.std.specs.Option.{option_and_then}
use Rattle.table.specs.Layout.{C0}
use Rattle.disc.specs.Walk.{extra_end, extras_end}
use Rattle.disc.specs.WalkSteps.{extras_end-past}
use Rattle.disc.proofs.walk.extras_end.Goals as goal

pub returns-then-d-at : goal.returns-then-d-at
returns-then-d-at c = extras_end-past _ _ _ c.if-d-at.true

pub returns-in_err-b : goal.returns-in_err-b
unfolding extras_end
returns-in_err-b c =
    c.from_residual.ensures ∙ ap (option_and_then (λ (b : ℕ). extra_end c.args.d.now c.args.k b C0)) c.in_err-b.ensures.same

pub returns : goal.returns
unfolding extras_end
returns c =
    c.extra_end-2.ensures.same
    ∙ ap (option_and_then (λ (b : ℕ). extra_end c.args.d.now c.args.k b C0)) c.in_ok-b.ensures.same
