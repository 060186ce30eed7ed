-- `toc::answer::put_toc` meets its contract: what is laid into the front of the memory is cut by the front's length (`laid-cut`).
use Rattle.ground.specs.Memory.{laid-cut}
use Rattle.toc.proofs.answer.put_toc.Goals as goal

pub returns : goal.returns
returns c = laid-cut _ c.min-e.ensures c.put_full.ensures
