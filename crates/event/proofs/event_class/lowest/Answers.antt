-- `event::event_class::lowest` meets its contract: a byte has at most eight trailing zeros, which fit.
use Rattle.event.specs.EventClassLaws.{lowest_small}
use borrow.Author.Rules.{rules}
use Rattle.event.proofs.event_class.lowest.Goals as goal

pub overflow_cast-result : goal.overflow_cast-result
overflow_cast-result c = let h = lowest_small c.args.classes in search rules
