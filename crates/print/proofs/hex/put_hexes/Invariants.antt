-- `print::hex::put_hexes` meets its contract: the digits of the bytes so far are laid, and the next byte's go into the rest that begins
-- where they ended (`laid_more`).
use Rattle.std.proofs.Common.{take}
use Rattle.ground.specs.Memory.{Laid}
use Rattle.print.specs.Hex.{hexes}
use Rattle.print.proofs.hex.put_hexes.Given as goal

abbrev pub invariant-loop-b : goal.invariant-loop-b
invariant-loop-b l = Laid l.initial.out (hexes (take l.b-index l.bytes)) l.at l.out
