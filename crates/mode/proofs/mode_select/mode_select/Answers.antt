-- `mode::mode_select::mode_select` meets its contract: each way out is one law of the definition.
use mathlib.Core.Path.{sym, ap, ◌∙◌}
use Rattle.command.specs.Done.{done_of}
use Rattle.mode.specs.ModeSelectLaws.{mode_select-differs, mode_select-other, mode_select-none, mode_select-page}
use Rattle.mode.proofs.mode_select.mode_select.Goals as goal

pub returns-then-n-list : goal.returns-then-n-list
returns-then-n-list c = ap done_of (sym (mode_select-differs _ _ _ c.if-n-list.true))

pub returns-then-n-eq0 : goal.returns-then-n-eq0
returns-then-n-eq0 c = c.done_with.ensures ∙ ap done_of (sym (mode_select-none _ _ _ c.if-n-list.false c.if-n-eq0.true))

pub returns-then-n-ne-LIST : goal.returns-then-n-ne-LIST
returns-then-n-ne-LIST c = ap done_of (sym (mode_select-other _ _ _ c.if-n-list.false c.if-n-eq0.false c.if-n-ne-LIST.true))

pub returns : goal.returns
returns c =
    c.selected.ensures ∙ ap done_of (sym (mode_select-page _ _ _ c.if-n-list.false c.if-n-eq0.false c.if-n-ne-LIST.false))
