-- `tracks::run::passes` meets its contract: each way out is one law of the definition, and start - a < n says start < a + n.
use mathlib.Core.Path.{sym, ap, ◌∙◌}
use native.Mathlib.Omega.{arith}
use Rattle.table.specs.Layout.{is_track}
use Rattle.tracks.specs.RunLaws.{passes-before, passes-past, passes_track, passes_other}
use Rattle.tracks.proofs.run.passes.Goals as goal
use Rattle.tracks.proofs.run.passes.Goals.{then-c-a-via-then-c-a, then-c-a-via-else-c-a+then-n-c}

pub returns-then-c-a : goal.returns-then-c-a
returns-then-c-a c = elim c.then-c-a.branch [
  | then-c-a-via-then-c-a w ↦ sym (passes-before _ _ _ _ w.if-c-a.true)
  | then-c-a-via-else-c-a+then-n-c w ↦ sym (passes-past _ _ _ _ (omega arith))
]

pub returns-then-is_track : goal.returns-then-is_track
returns-then-is_track c = c.is_flagged.ensures ∙ sym (passes_track _ _ _ _ (omega arith) (omega arith) (ap is_track (sym c.wide.ensures.same) ∙ sym c.is_track.ensures ∙ c.if-is_track.true))

pub returns : goal.returns
returns c = sym (passes_other _ _ _ _ (omega arith) (omega arith) (ap is_track (sym c.wide.ensures.same) ∙ sym c.is_track.ensures ∙ c.if-is_track.false))
