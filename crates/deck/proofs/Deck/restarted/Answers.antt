-- `deck::Deck::restarted` meets its contract: nothing is played, the page has its default values, and there is no event.
use Rattle.deck.proofs.Deck.restarted.Goals as goal

pub returns : goal.returns
returns c = rw (c.no_play.ensures, c.defaults.ensures)
