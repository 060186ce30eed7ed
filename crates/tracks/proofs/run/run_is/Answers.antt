-- `tracks::run::run_is` meets its contract: each way out is one law of the run.
use mathlib.Core.Path.{sym, ◌∙◌}
use borrow.Author.Tests.{eq-eqb}
use Rattle.tracks.specs.Track.{in_mode}
use Rattle.tracks.specs.RunLaws.{run_none, run_off, run_on}
use Rattle.tracks.proofs.run.run_is.Goals as goal

pub returns-then-n-eq0 : goal.returns-then-n-eq0
returns-then-n-eq0 c = eq-eqb _ _ c.if-n-eq0.true ∙ sym (run_none _ _ _ _ c.if-n-eq0.true)

pub returns-then-is_mode : goal.returns-then-is_mode
unfolding in_mode
returns-then-is_mode c = rw c.descriptors.ensures at c.all_pass.ensures ∙ sym (run_on _ _ _ _ c.if-n-eq0.false (rw c.track_of.ensures at (sym c.is_mode.ensures ∙ c.if-is_mode.true)))

pub returns-else-is_mode : goal.returns-else-is_mode
unfolding in_mode
returns-else-is_mode c = c.if-is_mode.false ∙ sym (run_off _ _ _ _ c.if-n-eq0.false (rw c.track_of.ensures at (sym c.is_mode.ensures ∙ c.if-is_mode.false)))
