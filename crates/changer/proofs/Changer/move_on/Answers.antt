-- `changer::Changer::move_on` meets its contract: the drive's own call, and the home stays.
use Rattle.changer.specs.Changer.{moves_on}
use Rattle.changer.proofs.Changer.move_on.Goals as goal

pub returns : goal.returns
unfolding moves_on
returns c = rw c.move_on-m.ensures
