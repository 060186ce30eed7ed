-- `disc::rules::each_row` meets its contract: each turn passes one descriptor more, and the first that fails decides.
use mathlib.Core.Path.{sym, ◌∙◌}
use native.Mathlib.Omega.{arith}
use Rattle.disc.specs.RulesLaws.{tested-none, tested-next, tested-breaks, tested-end}
use borrow.Author.Rules.{rules}
use Rattle.disc.proofs.rules.each_row.Goals as goal

pub loop-at-init : goal.loop-at-init
loop-at-init c = tested-none _ _

pub row_from-requires : goal.row_from-requires
row_from-requires c = let w = c.loop-at.invariant.whole in omega arith

pub loop-at-preserved : goal.loop-at-preserved
loop-at-preserved c =
    tested-next c.loop-at.invariant c.requires
    c.loop-at-test.true c.row_from.ensures
    (sym c.if-not-row_test.ensures)

pub overflow_add-at : goal.overflow_add-at
overflow_add-at c =
    let r = tested-next c.loop-at.invariant c.requires c.loop-at-test.true c.row_from.ensures (sym c.if-not-row_test.ensures) in
    search rules

pub returns-then-not-row_test : goal.returns-then-not-row_test
returns-then-not-row_test c =
    tested-breaks c.loop-at.invariant c.requires
    c.loop-at-test.true c.row_from.ensures (sym c.if-not-row_test.ensures)

pub returns : goal.returns
returns c = tested-end c.loop-at.invariant c.loop-at-test.false
