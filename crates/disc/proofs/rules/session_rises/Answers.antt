-- `disc::rules::session_rises` meets its contract: the two tests are the definition's, in its order.
use mathlib.Core.Path.{sym, ◌∙◌}
use Rattle.ground.specs.Tests.{and_on, and_off}
use Rattle.disc.proofs.rules.session_rises.Goals as goal

pub returns-then-rises : goal.returns-then-rises
returns-then-rises c =
    and_on _ _
    (rw (
      c.wide.ensures.same,
      c.wide-2.ensures.same,
    )
    at (sym c.rises.ensures ∙ c.if-rises.true))
    (rw (c.start_of.ensures, c.row_at.ensures) at c.begins_after.ensures)

pub returns-else-rises : goal.returns-else-rises
returns-else-rises c =
    c.if-rises.false ∙ and_off _ _
    (rw (c.wide.ensures.same, c.wide-2.ensures.same) at
    (sym c.rises.ensures ∙ c.if-rises.false))
