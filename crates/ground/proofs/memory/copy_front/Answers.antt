-- `ground::memory::copy_front` meets its contract: after i turns the first i bytes are laid, each turn stores the next one
-- (`laid_next`), and the loop ends where the bytes are at their end (`laid_end`) or the memory is full (`laid_full`).
use Rattle.std.proofs.Common.{sym, arith, length}
use Rattle.std.proofs.Math.Decide.{dec_le}
use native.Mathlib.Nat.{le_antisymm}
use Rattle.ground.specs.Memory.{laid_none, laid_next, laid_full, laid_end}
use Rattle.ground.proofs.memory.copy_front.Goals as goal

pub loop-i-init : goal.loop-i-init
loop-i-init c = laid_none _

pub loop-i-preserved : goal.loop-i-preserved
loop-i-preserved c = let t = c.loop-i-test.true in laid_next _ _ (omega arith) (omega arith) c.loop-i.invariant

pub returns : goal.returns
returns c =
    let e = le_antisymm c.loop-i.auto.i-end c.loop-i-test.false in
    rw (sym e) (elim (dec_le (length c.args.src.now) (length c.args.dst.now)) [
      | yes k ↦ laid_end _ _ (omega arith) c.loop-i.invariant
      | no k ↦ laid_full _ _ (omega arith) (omega arith) c.loop-i.invariant
    ])
