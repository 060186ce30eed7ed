-- `event::event_answer::event_of` meets its contract: media reports the event, any other class 0.
use mathlib.Core.Path.{sym}
use borrow.Author.Tests.{eq-eqb, ne_eqb}
use Rattle.ground.specs.Tests.{when, unless}
use Rattle.event.specs.EventAnswer.{event_of}
use Rattle.event.proofs.event_answer.event_of.Goals as goal

pub returns-then-class-ne-MEDIA : goal.returns-then-class-ne-MEDIA
unfolding event_of
returns-then-class-ne-MEDIA c = sym (unless _ _ _ (ne_eqb _ _ c.if-class-ne-MEDIA.true))

pub returns : goal.returns
unfolding event_of
returns c = sym (when _ _ _ (eq-eqb _ _ c.if-class-ne-MEDIA.false))
