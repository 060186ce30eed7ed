-- What is left of a piece is less than the longest table has (`left_in_on`).
use Rattle.shelf.specs.StreamLaws.{left_in_on}
use Rattle.shelftotals.proofs.run.Goals as goal

pub loop-preserved : goal.loop-preserved
loop-preserved c = rw (left_in_on c.in-Ok-take_in.is) at c.take_in.ensures.short
