-- `attention::sense::is_known` meets its contract: the library's search of the table, by the derived equality, is the definition's.
use Rattle.std.proofs.Common.{◌∙◌}
use Rattle.attention.specs.Sense.{senses, is_known}
use Rattle.attention.specs.SenseLaws.{among-any}
use Rattle.attention.proofs.sense.is_known.Goals as goal

pub returns : goal.returns
unfolding is_known
returns c = c.contains.ensures.value ∙ among-any senses c.args.s
