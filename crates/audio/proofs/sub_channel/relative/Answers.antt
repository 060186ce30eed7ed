-- `audio::sub_channel::relative` meets its contract: the number tells whether there is a track, and a start past the block leaves 0.
use mathlib.Core.Path.{sym, ap, ◌∙◌}
use Rattle.ground.specs.Tests.{when, unless}
use Rattle.table.specs.Layout.{is_track}
use Rattle.audio.specs.SubChannel.{relative}
use Rattle.audio.proofs.sub_channel.relative.Goals as goal

pub returns-then-is_track : goal.returns-then-is_track
unfolding relative
returns-then-is_track c = c.saturating_sub.ensures ∙ sym (when _ _ _ (ap is_track (sym c.wide.ensures.same) ∙ sym c.is_track.ensures ∙ c.if-is_track.true))

pub returns : goal.returns
unfolding relative
returns c = sym (unless _ _ _ (ap is_track (sym c.wide.ensures.same) ∙ sym c.is_track.ensures ∙ c.if-is_track.false))
