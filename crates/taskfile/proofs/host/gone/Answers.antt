-- `taskfile::host::gone` meets its contract: where the run is over the next one is counted.
use mathlib.Core.Path.{sym, ◌∙◌}
use borrow.Author.Tests.{eq-eqb, ne_eqb}
use Rattle.ground.specs.Tests.{choose◌then◌else◌}
use Rattle.taskfile.specs.Host.{gone}
use Rattle.taskfile.proofs.host.gone.Goals as goal

pub returns-then-into_run-eq0 : goal.returns-then-into_run-eq0
unfolding gone choose◌then◌else◌
returns-then-into_run-eq0 c = c.counting.ensures ∙ rw (eq-eqb _ _ (sym c.into_run.ensures ∙ c.if-into_run-eq0.true), c.placed-next.ensures, c.min.ensures)

pub returns : goal.returns
unfolding gone choose◌then◌else◌
returns c = rw (ne_eqb _ _ (rw c.into_run.ensures at c.if-into_run-eq0.false), c.placed-next.ensures)
