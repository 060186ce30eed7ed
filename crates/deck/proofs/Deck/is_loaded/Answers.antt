-- `deck::Deck::is_loaded` meets its contract: an open tray decides, else the disc does.
use Rattle.ground.specs.Tests.{◌and◌}
use Rattle.deck.proofs.Deck.is_loaded.Goals as goal

pub returns-then-not-self : goal.returns-then-not-self
unfolding ◌and◌
returns-then-not-self c = rw c.if-not-self.true

pub returns-else-not-self : goal.returns-else-not-self
unfolding ◌and◌
returns-else-not-self c = rw c.if-not-self.false
