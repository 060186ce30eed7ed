-- `changer::Changer::power_on_without_change` meets its contract: the drive's own power-on, of an empty closed drive.
use Rattle.changer.specs.Changer.{power_on_without_change}
use Rattle.changer.proofs.Changer.power_on_without_change.Goals as goal

pub returns : goal.returns
unfolding power_on_without_change
returns c = rw (c.power_on_without_change.ensures, c.emptied.ensures)
