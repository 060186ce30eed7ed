-- `changer::Changer::power_on` meets its contract: the drive's own power-on, of an empty closed drive.
use Rattle.changer.specs.Changer.{power_on}
use Rattle.changer.proofs.Changer.power_on.Goals as goal

pub returns : goal.returns
unfolding power_on
returns c = rw (c.power_on.ensures, c.emptied.ensures)
