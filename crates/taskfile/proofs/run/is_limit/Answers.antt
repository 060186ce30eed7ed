-- `taskfile::run::is_limit` meets its contract: the number is one of 16 bits, and its own limit.
use Rattle.std.proofs.Common.{ap, ◌∙◌, eqb, lt-ltb, le-ltb}
use Rattle.ground.specs.Tests.{and_on, and_off}
use Rattle.taskfile.specs.Run.{is_limit}
use Rattle.taskfile.proofs.run.is_limit.Goals as goal

pub returns-then-m-lt65536 : goal.returns-then-m-lt65536
unfolding is_limit
returns-then-m-lt65536 c = and_on _ _ (lt-ltb _ _ c.if-m-lt65536.true) (ap (λ n. eqb n c.args.m) c.limit_of.ensures)

pub returns-else-m-lt65536 : goal.returns-else-m-lt65536
unfolding is_limit
returns-else-m-lt65536 c = let e = le-ltb _ _ c.if-m-lt65536.false in e ∙ and_off _ _ e
