-- `ground::memory::copy_front` meets its contract: after i turns the first i bytes are laid, each turn stores the next one
-- (`laid_next`), and the loop ends where the bytes are at their end (`laid_end`) or the memory is full (`laid_full`).
use lib.ListN.{take}
use Rattle.ground.specs.Memory.{Laid}
use Rattle.ground.proofs.memory.copy_front.Given as goal

abbrev pub invariant-loop-i : goal.invariant-loop-i
invariant-loop-i l = Laid l.initial.dst (take l.i l.src) l.i l.dst
