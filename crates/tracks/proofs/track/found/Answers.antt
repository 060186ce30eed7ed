-- `tracks::track::found` meets its contract: after j descriptors it holds what the definition finds and the lead-out that stands there.
use mathlib.Core.Path.{sym, ap, ◌∙◌}
use native.Mathlib.Nat.{le_antisymm}
use Rattle.tracks.specs.Track.{track_with, next_out, found}
use Rattle.tracks.specs.TrackLaws.{out_at-none, out_at-next, found_none, found-next}
use Rattle.tracks.proofs.track.found.Goals as goal

pub loop-j-init : goal.loop-j-init
loop-j-init c = (sym (out_at-none _), c.no_track-u.ensures ∙ sym (found_none _ _))

pub loop-j-preserved : goal.loop-j-preserved
loop-j-preserved c =
    let e = c.track_at-c.ensures ∙ ap (track_with c.args.d.now c.loop-j.j) c.loop-j.invariant.0 in
    (c.next_out-out.ensures ∙ ap next_out e ∙ sym (out_at-next c.args.d.now c.loop-j.j), c.next_found-u.ensures ∙ found-next _ c.args.d.now c.loop-j.j e c.loop-j.invariant.1)

pub returns : goal.returns
returns c = c.loop-j.invariant.1 ∙ ap (found _ _) (le_antisymm c.loop-j.auto.j-end c.loop-j-test.false)
