-- One byte more adds to both sums.
use Rattle.std.proofs.Common.{◌≡◌, refl, length, arith}
use Rattle.print.specs.Sum.{low-none, high-none, sums_more, adler32}
use Rattle.print.proofs.sum.adler32.Goals as goal

pub loop-x-init : goal.loop-x-init
loop-x-init c = (low-none _, high-none _, omega arith, omega arith)

pub loop-x-preserved : goal.loop-x-preserved
loop-x-preserved c =
    let l = c.loop-x in
    let m = sums_more _ _ _ _ _ l.invariant.0 l.invariant.1 c.wide.ensures.same in
    (m.0, m.1, omega arith, omega arith)

pub returns : goal.returns
unfolding adler32
returns c =
    let l = c.loop-x in
    let e : length c.args.s.now ≡ l.x-index = omega arith in
    rw (l.invariant.0, l.invariant.1, ← e) refl
