-- `tracks::track::next_out` meets its contract: the test picks the law, at an A2 or past any other descriptor.
use mathlib.Core.Path.{sym}
use Rattle.tracks.specs.TrackLaws.{next_out-here, next_out_on}
use Rattle.tracks.proofs.track.next_out.Goals as goal

pub returns-then-c-eq-A2 : goal.returns-then-c-eq-A2
returns-then-c-eq-A2 c = sym (next_out-here _ c.if-c-eq-A2.true)

pub returns : goal.returns
returns c = sym (next_out_on _ c.if-c-eq-A2.false)
