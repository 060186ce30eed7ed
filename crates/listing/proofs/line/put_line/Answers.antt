-- `listing::line::put_line` meets its contract: its test is the definition's.
use Rattle.std.proofs.Common.{eq-eqb, ne_eqb}
use Rattle.ground.specs.Tests.{when, unless}
use Rattle.listing.specs.Line.{line_of}
use Rattle.listing.proofs.line.put_line.Goals as goal

pub returns-then-o-eq0 : goal.returns-then-o-eq0
unfolding line_of
returns-then-o-eq0 c = rw (when _ _ _ (eq-eqb _ _ c.if-o-eq0.true)) c.put_answered.ensures

pub returns : goal.returns
unfolding line_of
returns c = rw (unless _ _ _ (ne_eqb _ _ c.if-o-eq0.false)) c.put_refused.ensures
