-- `mode::mode_sense::page_shown` meets its contract: page and control are the byte's, and each way out is one law of the definition.
use mathlib.Core.Path.{sym}
use Rattle.mode.specs.ModeSenseLaws.{page_shown-other, page_shown-saved, page_shown-values}
use Rattle.mode.proofs.mode_sense.page_shown.Goals as goal

pub returns-then-wide-ne-PAGE : goal.returns-then-wide-ne-PAGE
returns-then-wide-ne-PAGE c = sym (page_shown-other _ _ (rw c.wide.ensures.same at c.if-wide-ne-PAGE.true))

pub returns-then-control-eq-SAVED : goal.returns-then-control-eq-SAVED
returns-then-control-eq-SAVED c = let w = c.wide-control.ensures.same in
    let p = c.wide.ensures.same in
    sym (page_shown-saved _ _ (rw p at c.if-wide-ne-PAGE.false) (rw w at c.if-control-eq-SAVED.true))

pub returns : goal.returns
returns c = let w = c.wide-control.ensures.same in
    let v = c.wide.ensures.same in
    rw (c.values_of.ensures, w) (sym (page_shown-values _ _ (rw v at c.if-wide-ne-PAGE.false) (rw w at c.if-control-eq-SAVED.false)))
