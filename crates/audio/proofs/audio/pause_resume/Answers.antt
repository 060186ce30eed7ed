-- `audio::audio::pause_resume` meets its contract: each way out is one law of the definition.
use mathlib.Core.Path.{sym, ap, ◌∙◌}
use Rattle.std.proofs.Common.{inl, inr}
use Rattle.deck.specs.declared.Deck.{Deck}
use Rattle.play.specs.Play.{with_status}
use Rattle.deck.specs.Deck.{with_play}
use Rattle.command.specs.Done.{done, done_of}
use Rattle.audio.specs.AudioLaws.{is_over-completed, is_over-none, is_over_not, pause_resume-over, pause_resume-goes}
use Rattle.audio.proofs.audio.pause_resume.Goals as goal

pub returns-then-m-eq-COMPLETED : goal.returns-then-m-eq-COMPLETED
returns-then-m-eq-COMPLETED c = ap done_of (sym (pause_resume-over _ _ (elim c.then-m-eq-COMPLETED.either [
  | inl e ↦ is_over-completed _ e
  | inr n ↦ is_over-none _ n.1
])))

pub returns : goal.returns
returns c = let m = c.args.m in
    let s = c.with_status.ensures ∙ ap (with_status m.play) c.resumed.ensures in
    let p = c.with_play.ensures ∙ ap (with_play m) s in
    c.done_with.ensures
    ∙ ap (λ (k : Deck). done_of (done k)) p
    ∙ ap done_of (sym (pause_resume-goes _ _ (is_over_not _ c.if-m-eq-COMPLETED.false c.if-m-eq-NONE.false)))
