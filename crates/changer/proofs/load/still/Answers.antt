-- `changer::load::still` meets its contract: GOOD with the deck as it is, and no slot changes.
use Rattle.changer.proofs.load.still.Goals as goal

pub returns : goal.returns
returns c = rw (c.done_with.ensures, c.staying.ensures)
