-- `target::perform::lies_in` meets its contract: in a fit table the run test is that of every block, and the lead-out that was read off is L.
use mathlib.Core.Path.{sym, ap, ◌∙◌}
use Rattle.ground.specs.Tests.{and_on, and_off}
use Rattle.blocks.specs.Range.{in_range}
use Rattle.target.specs.PerformLaws.{read_off_leads}
use Rattle.target.proofs.perform.lies_in.Goals as goal

pub returns-then-in_range : goal.returns-then-in_range
returns-then-in_range c = let x = c.args in
    let q = c.requires in
    let e = ap (in_range x.a x.n) (sym (read_off_leads q)) ∙ sym c.in_range.ensures ∙ c.if-in_range.true in
    and_on _ _ e (c.run_is.ensures ∙ q.fits.runs x.mode x.a x.n)

pub returns-else-in_range : goal.returns-else-in_range
returns-else-in_range c = let x = c.args in
    let e = c.if-in_range.false in
    e ∙ and_off _ _ (ap (in_range x.a x.n) (sym (read_off_leads c.requires)) ∙ sym c.in_range.ensures ∙ e)
