-- `table::row::row_test` meets its contract: the rule's number chooses the test as in the definition.
use Rattle.std.proofs.Common.{arith, sym, ◌∙◌}
use Rattle.std.proofs.lemmas.Grind.{common_steps}
use Rattle.ground.specs.Tests.{choose◌then◌else◌}
use Rattle.table.specs.Row.{row_test}
use Rattle.table.specs.RowLaws.{row_test_3, row_test_5}
use Rattle.table.proofs.row.row_test.Goals as goal

pub returns-in-3 : goal.returns-in-3
returns-in-3 c = rw c.in-3.is (c.plain.ensures ∙ sym (row_test_3 _))

pub returns-in-5 : goal.returns-in-5
returns-in-5 c = rw c.in-5.is (c.headed.ensures ∙ sym (row_test_5 _))

pub returns-in_default : goal.returns-in_default
unfolding row_test choose◌then◌else◌
returns-in_default c = grind (arith, common_steps)
