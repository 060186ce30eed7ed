-- `command::tray::start_stop` meets its contract: LoEj and Start are tested in the definition's order.
use mathlib.Core.Path.{sym, ap, ◌∙◌}
use Rattle.ground.specs.Tests.{when, unless}
use Rattle.command.specs.Done.{done_of}
use Rattle.command.specs.Tray.{start_stop}
use Rattle.command.proofs.tray.start_stop.Goals as goal

pub returns-then-not-bit : goal.returns-then-not-bit
unfolding start_stop
returns-then-not-bit c = c.done_with.ensures ∙ ap done_of (sym (unless _ _ _ (sym c.bit.ensures ∙ c.if-not-bit.true)))

pub returns-then-bit : goal.returns-then-bit
unfolding start_stop
returns-then-bit c =
    c.load.ensures ∙ ap done_of (sym (when _ _ _ (sym c.bit.ensures ∙ c.if-not-bit.false) ∙ when _ _ _ (sym c.bit-2.ensures ∙ c.if-bit.true)))

pub returns : goal.returns
unfolding start_stop
returns c =
    c.eject.ensures ∙ ap done_of (sym (when _ _ _ (sym c.bit.ensures ∙ c.if-not-bit.false) ∙ unless _ _ _ (sym c.bit-2.ensures ∙ c.if-bit.false)))
