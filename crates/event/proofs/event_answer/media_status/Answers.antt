-- `event::event_answer::media_status` meets its contract: each bit is tested where the definition tests it.
use mathlib.Core.Path.{sym, ◌∙◌}
use Rattle.ground.specs.Tests.{when, unless}
use Rattle.event.specs.EventAnswer.{media_status}
use Rattle.event.proofs.event_answer.media_status.Goals as goal

pub returns-then-m-2 : goal.returns-then-m-2
unfolding media_status
returns-then-m-2 c = sym (when _ _ _ c.if-m.true ∙ when _ _ _ c.if-m-2.true)

pub returns-then-m : goal.returns-then-m
unfolding media_status
returns-then-m c = sym (when _ _ _ c.if-m.true ∙ unless _ _ _ c.if-m-2.false)

pub returns-then-m-3 : goal.returns-then-m-3
unfolding media_status
returns-then-m-3 c = sym (unless _ _ _ c.if-m.false ∙ when _ _ _ c.if-m-3.true)

pub returns : goal.returns
unfolding media_status
returns c = sym (unless _ _ _ c.if-m.false ∙ unless _ _ _ c.if-m-3.false)
