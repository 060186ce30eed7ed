-- `command::class::class_at` meets its contract: the table keeps its rule, a test of all 256 rows that computes to true.
use mathlib.Core.Path.{refl, ap, ◌∙◌}
use Rattle.ground.specs.Tests.{◌and◌, choose◌then◌else◌, every}
use Rattle.command.specs.Command.{decode}
use Rattle.command.specs.Class.{class_of}
use Rattle.command.specs.ClassLaws.{row_at_ruled}
use borrow.Author.Rules.{rules}
use Rattle.command.proofs.class.class_at.Goals as goal

pub returns : goal.returns
unfolding ◌and◌ choose◌then◌else◌ every decode class_of
returns c = ap class_of c.row_of.ensures ∙ row_at_ruled _ refl c.args.code (search rules)
