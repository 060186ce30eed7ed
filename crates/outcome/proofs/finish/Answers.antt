-- `outcome::finish` meets its contract: each arm hands back what the definition gives for it.
use mathlib.Core.Path.{sym, ap, ◌∙◌}
use Rattle.attention.specs.declared.sense.Sense.{Sense}
use Rattle.outcome.specs.Outcome.{checked, finished}
use Rattle.outcome.proofs.finish.Goals as goal

pub returns-in-Err : goal.returns-in-Err
returns-in-Err c =
    let x = c.args in
    c.check.ensures
    ∙ ap (λ (s : Sense). checked s x.u x.deck) c.sense_of.ensures
    ∙ sym (ap (finished x.u x.v x.deck) c.in-Err.is)

pub returns-in-Ok : goal.returns-in-Ok
returns-in-Ok c =
    let x = c.args in
    let e = sym (ap (finished x.u x.v x.deck) c.in-Ok.is) in
    (rw c.attend.ensures at c.good.ensures) ∙ e
