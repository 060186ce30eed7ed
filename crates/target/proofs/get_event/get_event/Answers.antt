-- `target::get_event::get_event` meets its contract: the two forms of the answer are those that the class picks, and each is laid, cut to the
-- allocation length.
use Rattle.event.specs.EventAnswerLaws.{event_bytes-none, event_bytes-class}
use Rattle.target.proofs.get_event.get_event.Goals as goal

pub returns-then-class-eq-NO_CLASS : goal.returns-then-class-eq-NO_CLASS
returns-then-class-eq-NO_CLASS c = let m = c.args.m in
    let e = event_bytes-none _ m c.if-class-eq-NO_CLASS.true in
    rw (← c.class_for-class.ensures, e)
    (rw (c.bit-bad.ensures, c.cleared-next.ensures, e, c.none_bytes.ensures, c.word16-limit.ensures) at c.answer.ensures)

pub returns : goal.returns
returns c = let m = c.args.m in
    let e = event_bytes-class _ m c.if-class-eq-NO_CLASS.false in
    rw (← c.class_for-class.ensures, e)
    (rw (c.bit-bad.ensures, c.cleared-next.ensures, e, c.class_bytes.ensures, c.word16-limit.ensures) at c.answer-2.ensures)
