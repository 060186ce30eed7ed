-- `shelf::totals::one_if` meets its contract: std's conversion is the definition.
use Rattle.std.proofs.Common.{◌≡◌, refl, ◌∙◌, Bool, true, false}
use mir.Val.{bool_byte}
use Rattle.ground.specs.Tests.{choose◌then◌else◌}
use Rattle.shelf.specs.Count.{one_if}
use Rattle.shelf.proofs.totals.one_if.Goals as goal

byte : (b : Bool) → bool_byte b ≡ one_if b
unfolding one_if choose◌then◌else◌
byte true = refl
byte false = refl

pub returns : goal.returns
returns c = c.from.ensures ∙ byte c.args.b
