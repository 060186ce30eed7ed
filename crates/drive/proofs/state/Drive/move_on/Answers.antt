-- `drive::state::Drive::move_on` meets its contract: each way out is one case of the laws of moving on.
use mathlib.Core.Path.{sym, ap, ◌∙◌}
use Rattle.deck.specs.Deck.{with_play}
use Rattle.drive.specs.State.{with_deck, moves}
use Rattle.drive.specs.StateLaws.{move_on-moves, move_on-unknown}
use Rattle.drive.proofs.state.Drive.move_on.Goals as goal

pub returns-then-not-is_known_state : goal.returns-then-not-is_known_state
returns-then-not-is_known_state c =
    c.refuse.ensures ∙ sym (move_on-unknown _ _ (sym c.is_known_state.ensures ∙ c.if-not-is_known_state.true))

pub returns : goal.returns
returns c =
    let d = c.args.self in
    let p = c.with_play.ensures ∙ ap (with_play d.deck) c.moved_on.ensures in
    c.moves.ensures
    ∙ ap moves (c.with_deck.ensures ∙ ap (with_deck d) p)
    ∙ sym (move_on-moves d (sym c.is_known_state.ensures ∙ c.if-not-is_known_state.false) _)
