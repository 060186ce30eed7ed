-- `taskfile::run::takes_list` meets its contract: the code decides first, then the length asked for.
use Rattle.std.proofs.Common.{ap, ◌∙◌, eqb, eq-eqb, ne_eqb}
use Rattle.ground.specs.Tests.{and_on, and_off}
use Rattle.taskfile.specs.Run.{takes_list}
use Rattle.taskfile.proofs.run.takes_list.Goals as goal

pub returns-then-p-eq-SELECT : goal.returns-then-p-eq-SELECT
unfolding takes_list
returns-then-p-eq-SELECT c = and_on _ _ (eq-eqb _ _ c.if-p-eq-SELECT.true) (ap (λ n. eqb n 16) c.word16.ensures)

pub returns-else-p-eq-SELECT : goal.returns-else-p-eq-SELECT
unfolding takes_list
returns-else-p-eq-SELECT c = let e = ne_eqb _ _ c.if-p-eq-SELECT.false in e ∙ and_off _ _ e
