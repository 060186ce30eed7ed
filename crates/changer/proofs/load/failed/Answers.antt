-- `changer::load::failed` meets its contract: the fault, and no slot changes.
use Rattle.changer.proofs.load.failed.Goals as goal

pub returns : goal.returns
returns c = rw c.staying.ensures
