-- `blocks::range::in_range` meets its contract: an address that is over decides, else the count does: n ≤ L - a says a + n ≤ L.
use mathlib.Core.Path.{sym, ap, ◌∙◌}
use Rattle.std.specs.Prelude.{not}
use Rattle.blocks.specs.RangeLaws.{in_range-over, in_range-within, in_range-counts}
use Rattle.blocks.proofs.range.in_range.Goals as goal

pub returns-else-not-over : goal.returns-else-not-over
returns-else-not-over c = let e = c.if-not-over.false in ap not e ∙ sym (in_range-over _ _ _ (sym c.over.ensures ∙ e))

pub overflow_sub-result : goal.overflow_sub-result
overflow_sub-result c = in_range-within _ c.args.n _ (sym c.over.ensures ∙ c.if-not-over.true)

pub returns-then-not-over : goal.returns-then-not-over
returns-then-not-over c = sym (in_range-counts _ _ _ (sym c.over.ensures ∙ c.if-not-over.true))
