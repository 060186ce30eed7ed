-- `changer::meet::meet` meets its contract: each test that stops it is the refusal that the definition gives there.
use mathlib.Core.Path.{sym, ◌∙◌}
use Rattle.changer.specs.ChangerPacketLaws.{changer-1, changer-2, changer-3, changer-11, answered_by-refused}
use Rattle.changer.proofs.meet.meet.Goals as goal

pub returns-in_default : goal.returns-in_default
returns-in_default c = let x = c.args in
    rw (changer-1 x.c x.slots.now x.p.now x.t.now x.list.now _ c.in_default.ensures.1, c.refused.ensures) (answered_by-refused _ _ _ _ _)

pub returns-then-not-is_known_state : goal.returns-then-not-is_known_state
returns-then-not-is_known_state c = let x = c.args in
    rw (changer-2 x.c x.slots.now x.p.now x.t.now x.list.now _ c.in-Ok.ensures.1.long (sym c.is_known_state.ensures ∙ c.if-not-is_known_state.true), c.refused-then-not-is_known_state.ensures)
    (answered_by-refused _ _ _ _ _)

pub returns-then-mem-lt-BOUND : goal.returns-then-mem-lt-BOUND
returns-then-mem-lt-BOUND c = let x = c.args in
    rw (changer-3 x.c x.slots.now x.p.now x.t.now x.list.now _ c.in-Ok.ensures.1.long (sym c.is_known_state.ensures ∙ c.if-not-is_known_state.false) c.if-mem-lt-BOUND.true, c.refused-then-mem-lt-BOUND.ensures)
    (answered_by-refused _ _ _ _ _)

pub returns-then-not-is_in_order : goal.returns-then-not-is_in_order
returns-then-not-is_in_order c = let x = c.args in
    rw (changer-11 x.c x.slots.now x.p.now x.t.now x.list.now _ c.in-Ok.ensures.1.long (sym c.is_known_state.ensures ∙ c.if-not-is_known_state.false) c.if-mem-lt-BOUND.false (sym c.is_in_order.ensures ∙ c.if-not-is_in_order.true), c.refused-then-not-is_in_order.ensures)
    (answered_by-refused _ _ _ _ _)

pub passed-requires : goal.passed-requires
passed-requires c = record {
  twelve = rw c.in-Ok.ensures.1.same c.in-Ok.ensures.1.long;
  known = sym c.is_known_state.ensures ∙ c.if-not-is_known_state.false;
  room = c.if-mem-lt-BOUND.false;
  order = sym c.is_in_order.ensures ∙ c.if-not-is_in_order.false;
}

pub returns : goal.returns
returns c = rw c.in-Ok.ensures.1.same at c.passed.ensures
