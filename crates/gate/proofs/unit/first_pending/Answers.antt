-- `gate::unit::first_pending` meets its contract: the two tests are the definition's, power first.
use mathlib.Core.Path.{sym, ◌∙◌}
use Rattle.ground.specs.Tests.{when, unless}
use Rattle.gate.specs.Unit.{pending_of}
use Rattle.gate.proofs.unit.first_pending.Goals as goal

pub returns-then-u : goal.returns-then-u
unfolding pending_of
returns-then-u c = sym (when _ _ _ c.if-u.true)

pub returns-then-u-2 : goal.returns-then-u-2
unfolding pending_of
returns-then-u-2 c = sym (unless _ _ _ c.if-u.false ∙ when _ _ _ c.if-u-2.true)

pub returns : goal.returns
unfolding pending_of
returns c = sym (unless _ _ _ c.if-u.false ∙ unless _ _ _ c.if-u-2.false)
