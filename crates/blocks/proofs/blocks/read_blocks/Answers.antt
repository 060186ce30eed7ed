-- `blocks::blocks::read_blocks` meets its contract: range, then track mode: each way out is one law of the range.
use mathlib.Core.Path.{sym, ap, ◌∙◌}
use Rattle.command.specs.Done.{done_of}
use Rattle.blocks.specs.RangeLaws.{ranged-out, ranged-mode, ranged-goes}
use Rattle.blocks.proofs.blocks.read_blocks.Goals as goal

pub returns-then-not-in_range : goal.returns-then-not-in_range
returns-then-not-in_range c = ap done_of (sym (ranged-out _ _ _ _ _ (sym c.in_range.ensures ∙ c.if-not-in_range.true)))

pub returns-then-not-all : goal.returns-then-not-all
returns-then-not-all c = ap done_of (sym (ranged-mode _ _ _ _ _ (sym c.in_range.ensures ∙ c.if-not-in_range.false) c.if-not-all.true))

pub returns : goal.returns
returns c = rw (c.went_with.ensures, c.stopped.ensures) (ap done_of (sym (ranged-goes _ _ _ _ _ (sym c.in_range.ensures ∙ c.if-not-in_range.false) c.if-not-all.false)))
