-- `changer::status::put_slots` meets its contract: the tables of the slots so far are laid, and the next one goes into the rest that begins
-- where they ended (`laid_more`).
use Rattle.ground.specs.Memory.{Laid}
use Rattle.changer.specs.Status.{slot_tables}
use Rattle.changer.proofs.status.put_slots.Given as goal

abbrev pub invariant-loop-s : goal.invariant-loop-s
invariant-loop-s l = Laid l.initial.part (slot_tables l.slots l.s-index) l.at l.part
