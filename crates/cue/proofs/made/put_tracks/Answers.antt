-- `cue::made::put_tracks` meets its contract: the descriptors of the entries gone over are laid, and the next one's goes into the rest
-- that begins where they ended (`laid_more`, `rows_of-entry`).
use Rattle.std.proofs.Common.{refl, sym, ◌∙◌, arith}
use native.Mathlib.Nat.{le_antisymm}
use Rattle.ground.specs.Memory.{laid_none, laid-within, laid_more, laid-length}
use Rattle.cue.specs.MadeLaws.{rows_of-none, rows_of-entry}
use Rattle.cue.proofs.made.put_tracks.Goals as goal

pub loop-j-init : goal.loop-j-init
loop-j-init c = (rw rows_of-none (laid_none _), refl)

pub overflow_add-at : goal.overflow_add-at
overflow_add-at c =
    let m = laid_more c.loop-j.invariant.0 c.put_entry-at.ensures in
    let w = laid-within m in
    let e = laid-length m in
    omega arith

pub loop-j-preserved : goal.loop-j-preserved
loop-j-preserved c =
    let m = laid_more c.loop-j.invariant.0 c.put_entry-at.ensures in
    (rw rows_of-entry (rw c.entry_at.ensures at m), laid-length m)

pub returns : goal.returns
returns c = rw (sym (le_antisymm c.loop-j.auto.j-end c.loop-j-test.false ∙ c.saturating_sub-n.ensures)) c.loop-j.invariant.0
