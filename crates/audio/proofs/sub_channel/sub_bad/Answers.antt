-- `audio::sub_channel::sub_bad` meets its contract: without SubQ the format is not looked at.
use mathlib.Core.Path.{refl, ◌∙◌}
use Rattle.ground.specs.Tests.{and_on, and_off}
use Rattle.audio.specs.SubChannel.{sub_bad}
use Rattle.audio.proofs.sub_channel.sub_bad.Goals as goal

pub returns-then-ask : goal.returns-then-ask
unfolding sub_bad
returns-then-ask c = and_on _ _ c.if-ask.true refl

pub returns-else-ask : goal.returns-else-ask
unfolding sub_bad
returns-else-ask c = let e = c.if-ask.false in e ∙ and_off _ _ e
