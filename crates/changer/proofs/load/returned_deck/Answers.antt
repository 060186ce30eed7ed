-- `changer::load::returned_deck` meets its contract: the deck opens, its disc goes, and it closes again.
use Rattle.changer.proofs.load.returned_deck.Goals as goal

pub returns : goal.returns
returns c = rw (c.closing-shut.ensures, c.with_disc.ensures, c.opening-out.ensures)
