-- `changer::Slot::flags` meets its contract: each of the four slots has its byte.
use Rattle.ground.specs.Tests.{choose◌then◌else◌}
use Rattle.changer.specs.Status.{flags_of}
use Rattle.changer.proofs.Slot.flags.Goals as goal

pub returns-in-true-true : goal.returns-in-true-true
unfolding flags_of choose◌then◌else◌
returns-in-true-true c = rw (c.in-true-true.is-0, c.in-true-true.is-1)

pub returns-in-true-false : goal.returns-in-true-false
unfolding flags_of choose◌then◌else◌
returns-in-true-false c = rw (c.in-true-false.is-0, c.in-true-false.is-1)

pub returns-in-false-true : goal.returns-in-false-true
unfolding flags_of choose◌then◌else◌
returns-in-false-true c = rw (c.in-false-true.is-0, c.in-false-true.is-1)

pub returns-in-false-false : goal.returns-in-false-false
unfolding flags_of choose◌then◌else◌
returns-in-false-false c = rw (c.in-false-false.is-0, c.in-false-false.is-1)
