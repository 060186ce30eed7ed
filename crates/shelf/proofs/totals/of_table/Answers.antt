-- `shelf::totals::of_table` meets its contract: the reading tells a fit table's disc, or the broken rule.
use mathlib.Core.Path.{sym, ap, ◌∙◌}
use Rattle.disc.specs.DiscLaws.{reading_fit, reading-unfit}
use Rattle.shelf.specs.TotalsLaws.{of_rule, of_table-unfit}
use Rattle.shelf.proofs.totals.of_table.Goals as goal

pub of_fit-requires : goal.of_fit-requires
of_fit-requires c = reading_fit _ _ (sym c.in-Ok.ensures)

pub returns-in-Err : goal.returns-in-Err
returns-in-Err c =
    let u = reading-unfit _ _ (sym c.in-Err.ensures) in
    c.of_rule.ensures ∙ ap of_rule u.1 ∙ sym (of_table-unfit _ u.0)
