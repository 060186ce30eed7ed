-- `taskfile::host::access_of` meets its contract: each number is the definition's, and the rest are none of them.
use Rattle.std.proofs.Common.{ℕ, ◌≢◌, arith}
use borrow.Author.Tests.{ne_eqb}
use Rattle.ground.specs.Tests.{choose◌then◌else◌}
use Rattle.taskfile.specs.Host.{access_of}
use Rattle.taskfile.proofs.host.access_of.Goals as goal

pub returns-in-0 : goal.returns-in-0
unfolding access_of choose◌then◌else◌
returns-in-0 c = rw c.in-0.is

pub returns-in-1 : goal.returns-in-1
unfolding access_of choose◌then◌else◌
returns-in-1 c = rw c.in-1.is

pub returns-in-4 : goal.returns-in-4
unfolding access_of choose◌then◌else◌
returns-in-4 c = rw c.in-4.is

pub returns-in-5 : goal.returns-in-5
unfolding access_of choose◌then◌else◌
returns-in-5 c = rw c.in-5.is

pub returns-in-6 : goal.returns-in-6
unfolding access_of choose◌then◌else◌
returns-in-6 c = rw c.in-6.is

pub returns-in-7 : goal.returns-in-7
unfolding access_of choose◌then◌else◌
returns-in-7 c = rw c.in-7.is

pub returns-in-8 : goal.returns-in-8
unfolding access_of choose◌then◌else◌
returns-in-8 c = rw c.in-8.is

pub returns-in-9 : goal.returns-in-9
unfolding access_of choose◌then◌else◌
returns-in-9 c = rw c.in-9.is

pub returns-in_default : goal.returns-in_default
unfolding access_of choose◌then◌else◌
returns-in_default c =
    let d = λ (k : ℕ) (h : c.args.n ≢ k). ne_eqb c.args.n k h in
    rw (d 0 (omega arith), d 1 (omega arith), d 4 (omega arith), d 5 (omega arith), d 6 (omega arith), d 7 (omega arith), d 8 (omega arith), d 9 (omega arith))
