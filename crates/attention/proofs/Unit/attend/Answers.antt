-- `attention::Unit::attend` meets its contract: the one test is the definition's.
use mathlib.Core.Path.{sym}
use Rattle.ground.specs.Tests.{when, unless}
use Rattle.attention.specs.Unit.{attend}
use Rattle.attention.proofs.Unit.attend.Goals as goal

pub returns-then-loading : goal.returns-then-loading
unfolding attend
returns-then-loading c = sym (when _ _ _ c.if-loading.true)

pub returns : goal.returns
unfolding attend
returns c = sym (unless _ _ _ c.if-loading.false)
