-- `changer::settle` meets its contract: where anything moves, two stores to places within the slots.
use Rattle.changer.specs.Moves.{settled}
use Rattle.changer.proofs.settle.Goals as goal

pub returns-in-Some : goal.returns-in-Some
unfolding settled
returns-in-Some c = rw c.in-Some.is

pub returns-in_default : goal.returns-in_default
unfolding settled
returns-in_default c = rw c.in_default.is
