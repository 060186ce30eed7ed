-- `event::event_class::waiting` meets its contract: each way out is one law of the definition.
use mathlib.Core.Path.{sym}
use Rattle.event.specs.EventClassLaws.{waiting_none, waiting-media}
use Rattle.event.proofs.event_class.waiting.Goals as goal

pub returns-then-event-eq-NO_EVENT : goal.returns-then-event-eq-NO_EVENT
returns-then-event-eq-NO_EVENT c = sym (waiting_none _ c.if-event-eq-NO_EVENT.true)

pub returns : goal.returns
returns c = sym (waiting-media _ c.if-event-eq-NO_EVENT.false)
