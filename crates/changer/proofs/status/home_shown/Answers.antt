-- `changer::status::home_shown` meets its contract: by whether a disc is in the drive.
use mathlib.Core.Path.{sym}
use Rattle.ground.specs.Tests.{when, unless}
use Rattle.changer.proofs.status.home_shown.Goals as goal

pub returns-then-c : goal.returns-then-c
returns-then-c c = sym (when _ _ _ c.if-c.true)

pub returns : goal.returns
returns c = sym (unless _ _ _ c.if-c.false)
