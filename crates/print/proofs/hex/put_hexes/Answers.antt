-- The digits of one byte more are laid behind those before.
use Rattle.std.proofs.Common.{arith}
use Rattle.ground.specs.Memory.{laid_none, laid_more}
use Rattle.print.specs.Hex.{hexes-none, hexes_more}
use Rattle.print.proofs.hex.put_hexes.Goals as goal

pub loop-b-init : goal.loop-b-init
loop-b-init c = rw hexes-none (laid_none _)

pub loop-b-preserved : goal.loop-b-preserved
loop-b-preserved c =
    let l = c.loop-b in
    rw (hexes_more c.args.bytes.now l.b-index (omega arith)) (laid_more l.invariant c.put_hex-at.ensures)
