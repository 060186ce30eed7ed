-- `drive::state::Drive::button` meets its contract: each way out is one case of the button's laws.
use mathlib.Core.Path.{sym, ap, ◌∙◌}
use Rattle.drive.specs.State.{locked, shift, with_deck, moves, refuse}
use Rattle.drive.specs.StateLaws.{button-closes, button-locked, button-opens, button-unknown}
use Rattle.drive.proofs.state.Drive.button.Goals as goal

pub returns-then-not-is_known_state : goal.returns-then-not-is_known_state
returns-then-not-is_known_state c =
    c.refuse.ensures ∙ sym (button-unknown _ (sym c.is_known_state.ensures ∙ c.if-not-is_known_state.true))

pub returns-then-self : goal.returns-then-self
returns-then-self c =
    let d = c.args.self in
    c.moves.ensures ∙ ap moves (c.shift.ensures ∙ ap (shift d) c.closing.ensures)
    ∙ sym (button-closes d (sym c.is_known_state.ensures ∙ c.if-not-is_known_state.false) c.if-self.true)

pub returns-then-self-2 : goal.returns-then-self-2
returns-then-self-2 c =
    let d = c.args.self in
    c.refuse-then-self-2.ensures
    ∙ ap (refuse locked) (c.with_deck.ensures ∙ ap (with_deck d) c.with_event.ensures)
    ∙ sym (button-locked d (sym c.is_known_state.ensures ∙ c.if-not-is_known_state.false) c.if-self.false c.if-self-2.true)

pub returns : goal.returns
returns c =
    let d = c.args.self in
    c.moves-2.ensures ∙ ap moves (c.shift-2.ensures ∙ ap (shift d) c.opening.ensures)
    ∙ sym (button-opens d (sym c.is_known_state.ensures ∙ c.if-not-is_known_state.false) c.if-self.false c.if-self-2.false)
