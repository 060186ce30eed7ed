-- `tracks::track::is_mode` meets its contract: a number that is no track's decides, else its ADR/control does.
use mathlib.Core.Path.{sym, ap, ◌∙◌}
use Rattle.ground.specs.Tests.{and_on, and_off}
use Rattle.table.specs.Layout.{is_track}
use Rattle.tracks.specs.Track.{is_mode}
use Rattle.tracks.proofs.track.is_mode.Goals as goal

pub returns-then-is_track : goal.returns-then-is_track
unfolding is_mode
returns-then-is_track c = and_on _ _ (ap is_track (sym c.wide.ensures.same) ∙ sym c.is_track.ensures ∙ c.if-is_track.true) c.is_flagged.ensures

pub returns-else-is_track : goal.returns-else-is_track
unfolding is_mode
returns-else-is_track c = c.if-is_track.false ∙ and_off _ _ (ap is_track (sym c.wide.ensures.same) ∙ sym c.is_track.ensures ∙ c.if-is_track.false)
