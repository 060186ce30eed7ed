-- `disc::rules::fault_from` meets its contract: the rules 3 and 4 are asked in turn of what is left, then those after them, and the first that fails is the answer.
use mathlib.Core.Path.{sym}
use Rattle.ground.specs.Memory.{rest_all}
use Rattle.disc.specs.Rules.{row_rules}
use Rattle.disc.specs.RulesLaws.{first_broken_on, first_broken_off}
use Rattle.disc.specs.WalkSteps.{trod-told, trod-whole, trod-reached}
use borrow.Author.Rules.{rules}
use Rattle.disc.proofs.rules.fault_from.Goals as goal

pub each_row-requires : goal.each_row-requires
each_row-requires c = rw rest_all (trod-whole c.requires.1 c.requires.0)

pub slice_bounds-each_row-start : goal.slice_bounds-each_row-start
slice_bounds-each_row-start c = let w = c.requires.1.walked.within in search rules

pub rule4-requires : goal.rule4-requires
rule4-requires c = trod-reached c.requires.1

pub late_fault-requires : goal.late_fault-requires
late_fault-requires c =
    let r = c.requires.1 in
    (c.requires.0, sym c.if-not-rule4.ensures, rw r.track at r)

pub returns-then-not-each_row : goal.returns-then-not-each_row
unfolding row_rules
returns-then-not-each_row c = first_broken_off _ _ _ (trod-told c.requires.1 3 c.if-not-each_row.ensures)

pub returns-then-not-rule4 : goal.returns-then-not-rule4
unfolding row_rules
returns-then-not-rule4 c =
    first_broken_on _ _ _ (trod-told c.requires.1 3 c.if-not-each_row.ensures)
    (first_broken_off _ _ _ (sym c.if-not-rule4.ensures))

pub returns : goal.returns
unfolding row_rules
returns c =
    first_broken_on _ _ _ (trod-told c.requires.1 3 c.if-not-each_row.ensures)
    (first_broken_on _ _ _ (sym c.if-not-rule4.ensures) c.late_fault.ensures)
