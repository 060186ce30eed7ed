-- `changer::emptied` meets its contract: the disc goes, and the tray closes over nothing.
use Rattle.changer.proofs.emptied.Goals as goal

pub returns : goal.returns
returns c = rw (c.closing-shut.ensures, c.with_disc.ensures)
