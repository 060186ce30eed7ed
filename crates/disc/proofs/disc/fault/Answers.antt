-- `disc::disc::fault` meets its contract: the reading of a fit table is its disc, and that of any other the first broken rule.
use mathlib.Core.Path.{sym}
use Rattle.disc.specs.RulesLaws.{is_fit_true, fit-fault}
use Rattle.disc.specs.DiscLaws.{reading_fit, reading-unfit}
use Rattle.disc.proofs.disc.fault.Goals as goal

pub returns-in-Ok : goal.returns-in-Ok
returns-in-Ok c = sym (fit-fault (is_fit_true (reading_fit _ _ (sym c.in-Ok.ensures)).0))

pub returns-in-Err : goal.returns-in-Err
returns-in-Err c = (reading-unfit _ _ (sym c.in-Err.ensures)).1
