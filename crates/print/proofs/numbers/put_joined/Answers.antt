-- One number more is laid behind those before.
use Rattle.ground.specs.Memory.{laid_none, laid_more}
use Rattle.print.specs.Numbers.{joined-none, joined-next}
use Rattle.print.proofs.numbers.put_joined.Goals as goal

pub loop-i-init : goal.loop-i-init
loop-i-init c = rw joined-none (laid_none _)

pub loop-i-preserved : goal.loop-i-preserved
loop-i-preserved c =
    let l = c.loop-i in
    rw (joined-next c.args.mark c.args.numbers.now l.i) (laid_more l.invariant c.put_next-at.ensures)
