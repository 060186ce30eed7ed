-- `disc::rules::late_fault` meets its contract: the rules 5 to 7 are asked in turn of what is left, and the first that fails is the answer.
use mathlib.Core.Path.{sym}
use Rattle.ground.specs.Memory.{rest_all}
use Rattle.disc.specs.Rules.{late_rules}
use Rattle.disc.specs.RulesLaws.{first_broken_on, first_broken_off, first_broken-none}
use Rattle.disc.specs.WalkSteps.{trod-told, trod-whole, trod_risen}
use borrow.Author.Rules.{rules}
use Rattle.disc.proofs.rules.late_fault.Goals as goal

pub each_row-requires : goal.each_row-requires
each_row-requires c = rw rest_all (trod-whole c.requires.2 c.requires.0)

pub each_row-requires-2 : goal.each_row-requires-2
each_row-requires-2 c = rw rest_all (trod-whole c.requires.2 c.requires.0)

pub slice_bounds-rest-start : goal.slice_bounds-rest-start
slice_bounds-rest-start c = let w = c.requires.2.walked.within in search rules

pub rule7-requires : goal.rule7-requires
rule7-requires c = (c.requires.1, trod_risen c.requires.2 c.saturating_sub.ensures)

pub returns-then-not-each_row : goal.returns-then-not-each_row
unfolding late_rules
returns-then-not-each_row c = first_broken_off _ _ _ (trod-told c.requires.2 5 c.if-not-each_row.ensures)

pub returns-then-not-each_row-2 : goal.returns-then-not-each_row-2
unfolding late_rules
returns-then-not-each_row-2 c =
    first_broken_on _ _ _ (trod-told c.requires.2 5 c.if-not-each_row.ensures)
    (first_broken_off _ _ _ (trod-told c.requires.2 6 c.if-not-each_row-2.ensures))

pub returns-then-not-rule7 : goal.returns-then-not-rule7
unfolding late_rules
returns-then-not-rule7 c =
    first_broken_on _ _ _ (trod-told c.requires.2 5 c.if-not-each_row.ensures)
    (first_broken_on _ _ _ (trod-told c.requires.2 6 c.if-not-each_row-2.ensures)
    (first_broken_off _ _ _ (sym c.if-not-rule7.ensures)))

pub returns : goal.returns
unfolding late_rules
returns c =
    first_broken_on _ _ _ (trod-told c.requires.2 5 c.if-not-each_row.ensures)
    (first_broken_on _ _ _ (trod-told c.requires.2 6 c.if-not-each_row-2.ensures)
    (first_broken_on _ _ _ (sym c.if-not-rule7.ensures) (first_broken-none _)))
