-- `toc::shown::put_all` meets its contract: what is shown of the first j descriptors is laid, and the next one goes
-- into the rest that begins where they ended (`laid_more`).
use mathlib.Core.Path.{refl, sym}
use native.Mathlib.Omega.{arith}
use native.Mathlib.Nat.{le_antisymm}
use Rattle.ground.specs.Memory.{laid_none, laid-within, laid_more, laid-length}
use Rattle.toc.specs.ShownLaws.{listed-none, listed_more}
use Rattle.toc.proofs.shown.put_all.Goals as goal

pub loop-j-init : goal.loop-j-init
loop-j-init c = (rw listed-none (laid_none _), refl)

pub overflow_add-at : goal.overflow_add-at
overflow_add-at c =
    let m = laid_more c.loop-j.invariant.0 c.put_one-at.ensures in
    let w = laid-within m in
    let e = laid-length m in
    omega arith

pub loop-j-preserved : goal.loop-j-preserved
loop-j-preserved c =
    let m = laid_more c.loop-j.invariant.0 c.put_one-at.ensures in
    (rw listed_more m, laid-length m)

pub returns : goal.returns
returns c = rw (sym (le_antisymm c.loop-j.auto.j-end c.loop-j-test.false)) c.loop-j.invariant.0
