-- `toc::shown::put_all` meets its contract: what is shown of the first j descriptors is laid, and the next one goes
-- into the rest that begins where they ended (`laid_more`).
use mathlib.Core.Path.{◌≡◌}
use lib.ListN.{length}
use Rattle.ground.specs.Memory.{Laid}
use Rattle.toc.specs.ShownLaws.{listed}
use Rattle.toc.proofs.shown.put_all.Given as goal

abbrev pub invariant-loop-j : goal.invariant-loop-j
invariant-loop-j l = Laid l.initial.part (listed l.show l.d l.j) l.at l.part × (length l.part ≡ length l.initial.part)
