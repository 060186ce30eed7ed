-- `command::decode::starting` meets its contract: LoEj decides first, then Start.
use mathlib.Core.Path.{sym, ap, ◌∙◌}
use Rattle.std.specs.Prelude.{not}
use Rattle.ground.specs.Tests.{and_on, and_off}
use Rattle.command.proofs.decode.starting.Goals as goal

pub returns-then-not-bit : goal.returns-then-not-bit
returns-then-not-bit c = and_on _ _ (ap not (sym c.bit.ensures ∙ c.if-not-bit.true)) c.bit-then-not-bit.ensures

pub returns-else-not-bit : goal.returns-else-not-bit
returns-else-not-bit c = let e = ap not c.if-not-bit.false in e ∙ and_off _ _ (ap not (sym c.bit.ensures) ∙ e)
