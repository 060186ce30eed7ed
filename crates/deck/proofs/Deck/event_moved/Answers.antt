-- `deck::Deck::event_moved` meets its contract: the disc decides.
use mathlib.Core.Path.{sym}
use borrow.Author.Tests.{not-true, not-false}
use Rattle.ground.specs.Tests.{when, unless}
use Rattle.deck.proofs.Deck.event_moved.Goals as goal

pub returns-then-not-self : goal.returns-then-not-self
returns-then-not-self c = sym (unless _ _ _ (not-true _ c.if-not-self.true))

pub returns : goal.returns
returns c = sym (when _ _ _ (not-false _ c.if-not-self.false))
