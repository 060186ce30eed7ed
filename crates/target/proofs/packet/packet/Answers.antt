-- `target::packet::packet` meets its contract: each test that stops it is the refusal that the definition gives there.
use mathlib.Core.Path.{sym, ◌∙◌}
use Rattle.target.specs.PacketLaws.{answer-1, answer-2, answer-3, answered-refused}
use Rattle.target.proofs.packet.packet.Goals as goal

pub returns-then-mem-lt-BOUND : goal.returns-then-mem-lt-BOUND
returns-then-mem-lt-BOUND c = let x = c.args in
    rw (answer-3 x.d x.p.now x.t.now x.list.now _ c.in-Ok.ensures.1.long (sym c.is_known_state.ensures ∙ c.if-not-is_known_state.false) c.if-mem-lt-BOUND.true, c.refuse-then-mem-lt-BOUND.ensures)
    (answered-refused _ _ _ _)

pub meet-requires : goal.meet-requires
meet-requires c = (sym c.is_known_state.ensures ∙ c.if-not-is_known_state.false, c.if-mem-lt-BOUND.false)

pub returns-then-not-is_known_state : goal.returns-then-not-is_known_state
returns-then-not-is_known_state c = let x = c.args in
    rw (answer-2 x.d x.p.now x.t.now x.list.now _ c.in-Ok.ensures.1.long (sym c.is_known_state.ensures ∙ c.if-not-is_known_state.true), c.refuse-then-not-is_known_state.ensures)
    (answered-refused _ _ _ _)

pub returns-in_default : goal.returns-in_default
returns-in_default c = let x = c.args in
    rw (answer-1 x.d x.p.now x.t.now x.list.now _ c.in_default.ensures.1, c.refuse.ensures) (answered-refused _ _ _ _)

pub returns : goal.returns
returns c = rw c.in-Ok.ensures.1.same at c.meet.ensures
