-- `changer::status::put_slots` meets its contract: the tables of the slots so far are laid, and the next one goes into the rest that begins
-- where they ended (`laid_more`).
use native.Mathlib.Omega.{arith}
use Rattle.ground.specs.Memory.{laid_none, laid-within, laid_more, laid-length}
use Rattle.changer.specs.StatusLaws.{slot_tables-none, slot_tables_more}
use Rattle.changer.proofs.status.put_slots.Goals as goal

pub loop-s-init : goal.loop-s-init
loop-s-init c = rw slot_tables-none (laid_none _)

pub slice_bounds-put_slot-start : goal.slice_bounds-put_slot-start
slice_bounds-put_slot-start c = laid-within c.loop-s.invariant

pub overflow_add-at : goal.overflow_add-at
overflow_add-at c =
    let m = laid_more c.loop-s.invariant c.put_slot-at.ensures in
    let w = laid-within m in
    let e = laid-length m in
    omega arith

pub loop-s-preserved : goal.loop-s-preserved
loop-s-preserved c = rw slot_tables_more (laid_more c.loop-s.invariant c.put_slot-at.ensures)
