-- `toc::shown::is_shown` meets its contract: its tests are the definition's, in its order.
use mathlib.Core.Path.{◌≡◌, refl, sym, ap, ◌∙◌}
use Rattle.ground.specs.Tests.{and_on, and_off}
use Rattle.table.specs.Layout.{point_at, is_track}
use Rattle.toc.specs.Shown.{is_shown}
use Rattle.toc.proofs.shown.is_shown.Goals as goal
use Rattle.toc.proofs.shown.is_shown.Goals.{After-is_track}

-- what the test of the widened POINT told
told : (c : After-is_track) → c.is_track.result ≡ is_track (point_at c.args.d.now c.args.j)
told c = c.is_track.ensures ∙ ap is_track c.wide.ensures.same

pub returns-then-is_track : goal.returns-then-is_track
unfolding is_shown
returns-then-is_track c = and_on _ _ (sym (told (goal.at.returns-then-is_track c).After-is_track) ∙ c.if-is_track.true) refl

pub returns-else-is_track : goal.returns-else-is_track
unfolding is_shown
returns-else-is_track c =
    c.if-is_track.false ∙ and_off _ _ (sym (told (goal.at.returns-else-is_track c).After-is_track) ∙ c.if-is_track.false)
