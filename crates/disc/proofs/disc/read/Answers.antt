-- `disc::disc::read` meets its contract: the rules 1 and 2 are tested in turn, and the walk decides the others.
use mathlib.Core.Path.{sym, ◌∙◌}
use native.Mathlib.Omega.{arith}
use lib.ListN.{length-drop}
use Rattle.ground.specs.Memory.{rest_all}
use Rattle.disc.specs.RulesLaws.{rule1_parts, rule2_parts}
use Rattle.disc.specs.WalkFit.{reading_1, reading_2, reading_walk}
use borrow.Author.Rules.{rules}
use Rattle.disc.proofs.disc.read.Goals as goal

pub returns-then-not-rule1 : goal.returns-then-not-rule1
returns-then-not-rule1 c = reading_1 _ (sym c.if-not-rule1.ensures)

pub rule2-requires : goal.rule2-requires
rule2-requires c = (rule1_parts (sym c.if-not-rule1.ensures)).least

pub returns-then-not-rule2 : goal.returns-then-not-rule2
returns-then-not-rule2 c = reading_2 _ (sym c.if-not-rule1.ensures) (sym c.if-not-rule2.ensures)

pub slice_bounds-walk-count : goal.slice_bounds-walk-count
slice_bounds-walk-count c = (rule1_parts (sym c.if-not-rule1.ensures)).least

pub slice_bounds-walk-start : goal.slice_bounds-walk-start
slice_bounds-walk-start c = let s = rule1_parts (sym c.if-not-rule1.ensures) in search rules

pub bounds-t-3 : goal.bounds-t-3
bounds-t-3 c = let s = rule1_parts (sym c.if-not-rule1.ensures) in search rules

pub walk-requires : goal.walk-requires
walk-requires c =
    let l = (rule1_parts (sym c.if-not-rule1.ensures)).whole in
    let n = rule2_parts (sym c.if-not-rule2.ensures) in
    let e = length-drop 4 c.args.t.now in
    rw rest_all (omega arith, n.low, n.high)

pub returns : goal.returns
returns c = rw rest_all at c.walk.ensures ∙ reading_walk _ (sym c.if-not-rule1.ensures) (sym c.if-not-rule2.ensures)
