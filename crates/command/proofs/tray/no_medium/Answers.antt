-- `command::tray::no_medium` meets its contract: the one test is the definition's.
use mathlib.Core.Path.{sym}
use Rattle.ground.specs.Tests.{when, unless}
use Rattle.command.proofs.tray.no_medium.Goals as goal

pub returns-then-m : goal.returns-then-m
returns-then-m c = sym (when _ _ _ c.if-m.true)

pub returns : goal.returns
returns c = sym (unless _ _ _ c.if-m.false)
