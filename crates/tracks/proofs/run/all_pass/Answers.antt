-- `tracks::run::all_pass` meets its contract: every descriptor before j lets the run pass, and one that does not decides.
use mathlib.Core.Path.{sym, ◌∙◌}
use native.Mathlib.Nat.{le_antisymm}
use Rattle.ground.specs.Tests.{every-none, every_more, every-breaks}
use Rattle.tracks.specs.RunLaws.{passes-read}
use Rattle.tracks.proofs.run.all_pass.Goals as goal

pub loop-j-init : goal.loop-j-init
loop-j-init c = every-none _

pub loop-j-preserved : goal.loop-j-preserved
loop-j-preserved c = every_more _ _ c.loop-j.invariant (sym (passes-read _ c.args.d.now c.loop-j.j _ _ c.track_at.ensures) ∙ sym c.if-not-passes.ensures)

pub returns-then-not-passes : goal.returns-then-not-passes
returns-then-not-passes c = every-breaks _ _ _ c.loop-j-test.true (sym (passes-read _ c.args.d.now c.loop-j.j _ _ c.track_at.ensures) ∙ sym c.if-not-passes.ensures)

pub returns : goal.returns
returns c = sym (rw (le_antisymm c.loop-j.auto.j-end c.loop-j-test.false) at c.loop-j.invariant)
