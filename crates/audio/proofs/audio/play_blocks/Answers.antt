-- `audio::audio::play_blocks` meets its contract: range, then track mode: each way out is one law of the range; what is in range does not wrap.
use mathlib.Core.Path.{sym, ap, ◌∙◌}
use native.Mathlib.Omega.{arith}
use Rattle.deck.specs.declared.Deck.{Deck}
use Rattle.command.specs.Done.{done, done_of}
use Rattle.blocks.specs.RangeLaws.{in_range-end, ranged-out, ranged-mode, ranged-goes}
use Rattle.audio.proofs.audio.play_blocks.Goals as goal

pub started-requires : goal.started-requires
started-requires c = let x = c.args in
    let e = in_range-end x.a x.n x.l (sym c.in_range.ensures ∙ c.if-not-in_range.false) in
    let f = c.ranges.l in
    omega arith

pub returns : goal.returns
returns c =
    c.done_with.ensures
    ∙ ap (λ (m : Deck). done_of (done m)) c.started.ensures
    ∙ ap done_of (sym (ranged-goes _ _ _ _ _ (sym c.in_range.ensures ∙ c.if-not-in_range.false) c.if-not-all.false))

pub returns-then-not-all : goal.returns-then-not-all
returns-then-not-all c = ap done_of (sym (ranged-mode _ _ _ _ _ (sym c.in_range.ensures ∙ c.if-not-in_range.false) c.if-not-all.true))

pub returns-then-not-in_range : goal.returns-then-not-in_range
returns-then-not-in_range c = ap done_of (sym (ranged-out _ _ _ _ _ (sym c.in_range.ensures ∙ c.if-not-in_range.true)))
