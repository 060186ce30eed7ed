-- `replay::line::next_sum` meets its contract: the four bytes shown are the sum's.
use Rattle.replay.proofs.line.next_sum.Goals as goal

pub returns : goal.returns
returns c = rw (← c.adler32.ensures, ← c.bytes32-b.ensures) c.next_shown.ensures
