-- `registers::give` meets its contract: a memory that is not short has every byte of an answer.
use borrow.Author.Tests.{lt-ltb, le-ltb}
use Rattle.ground.specs.Tests.{choose◌then◌else◌}
use Rattle.registers.specs.Registers.{gives}
use Rattle.registers.proofs.give.Goals as goal

pub returns-then-mem-lt-BOUND : goal.returns-then-mem-lt-BOUND
unfolding gives choose◌then◌else◌
returns-then-mem-lt-BOUND c = rw (lt-ltb _ _ c.if-mem-lt-BOUND.true, c.plain.ensures)

pub returns : goal.returns
unfolding gives choose◌then◌else◌
returns c = rw (le-ltb _ _ c.if-mem-lt-BOUND.false, c.plain-2.ensures)
