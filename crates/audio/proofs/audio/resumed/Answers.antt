-- `audio::audio::resumed` meets its contract: the one test is the definition's.
use mathlib.Core.Path.{sym}
use Rattle.ground.specs.Tests.{when, unless}
use Rattle.audio.proofs.audio.resumed.Goals as goal

pub returns-then-resume : goal.returns-then-resume
returns-then-resume c = sym (when _ _ _ c.if-resume.true)

pub returns : goal.returns
returns c = sym (unless _ _ _ c.if-resume.false)
