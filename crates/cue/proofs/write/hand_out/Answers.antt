-- `cue::write::hand_out` meets its contract: a table without a broken rule is copied, any other is refused.
use mathlib.Core.Path.{refl, sym, ◌∙◌}
use Rattle.cue.specs.WriteLaws.{hand_out_fit, hand_out-unfit}
use Rattle.cue.proofs.write.hand_out.Goals as goal

pub returns-then-broken-ne0 : goal.returns-then-broken-ne0
returns-then-broken-ne0 c = hand_out-unfit _ _ (λ e. c.if-broken-ne0.true (c.requires.0 ∙ e)) refl

pub returns : goal.returns
returns c = hand_out_fit (sym c.requires.0 ∙ c.if-broken-ne0.false) c.requires.1 c.requires.2 c.put_cut.ensures
