-- `changer::status::put_full` meets its contract: header and tables are laid one after the other (`laid_more`).
use Rattle.ground.specs.Memory.{laid_more}
use Rattle.changer.specs.Status.{status_bytes}
use Rattle.changer.proofs.status.put_full.Goals as goal

pub returns : goal.returns
unfolding status_bytes
returns c = rw c.bytes16-l.ensures at (laid_more c.copy_front-at.ensures c.put_slots-at.ensures)
