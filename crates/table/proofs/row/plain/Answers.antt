-- `table::row::plain` meets its contract: a simple descriptor is no free one, and any other is asked what its POINT chooses.
use mathlib.Core.Bool.{not}
use Rattle.std.proofs.Common.{sym, ap, ◌∙◌}
use Rattle.ground.specs.Tests.{when, unless}
use Rattle.table.specs.Row.{plain}
use Rattle.table.specs.RowLaws.{plain_unless}
use Rattle.table.proofs.row.plain.Goals as goal

pub returns-then-simple : goal.returns-then-simple
returns-then-simple c = ap not c.is_extra.ensures ∙ plain_unless _ (sym c.simple.ensures ∙ c.if-simple.true)

pub returns-then-is_extra : goal.returns-then-is_extra
unfolding plain
returns-then-is_extra c = c.free.ensures ∙ sym (when _ _ _ (sym c.is_extra-2.ensures ∙ c.if-is_extra.true))

pub returns-else-is_extra : goal.returns-else-is_extra
unfolding plain
returns-else-is_extra c =
    c.if-is_extra.false
    ∙ sym (sym c.simple.ensures ∙ c.if-simple.false)
    ∙ sym (unless _ _ _ (sym c.is_extra-2.ensures ∙ c.if-is_extra.false))
