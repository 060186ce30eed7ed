-- `drive::state::Drive::lift` meets its contract: each way out is one case of the laws of lifting.
use mathlib.Core.Path.{sym, ap, ◌∙◌}
use borrow.Author.Tests.{not-true, not-false}
use Rattle.drive.specs.State.{with_deck, moves}
use Rattle.drive.specs.StateLaws.{lift-lifts, lift-empty, lift-closed, lift-unknown}
use Rattle.drive.proofs.state.Drive.lift.Goals as goal
use Rattle.drive.proofs.state.Drive.lift.Goals.{then-not-self-via-then-not-self, then-not-self-via-else-not-self+then-not-self-2}

pub returns-then-not-is_known_state : goal.returns-then-not-is_known_state
returns-then-not-is_known_state c =
    c.refuse.ensures ∙ sym (lift-unknown _ (sym c.is_known_state.ensures ∙ c.if-not-is_known_state.true))

pub returns-then-not-self : goal.returns-then-not-self
returns-then-not-self c =
    let d = c.args.self in
    let k = sym c.is_known_state.ensures ∙ c.if-not-is_known_state.false in
    c.refuse-then-not-self.ensures ∙ (elim c.then-not-self.branch [
      | then-not-self-via-then-not-self w ↦ sym (lift-closed d k (not-true _ w.if-not-self.true))
      | then-not-self-via-else-not-self+then-not-self-2 w ↦ sym (lift-empty d k (not-false _ w.if-not-self.false) (not-true _ w.if-not-self-2.true))
    ])

pub returns : goal.returns
returns c =
    let d = c.args.self in
    c.moves.ensures
    ∙ ap moves (c.with_deck.ensures ∙ ap (with_deck d) c.with_disc.ensures)
    ∙ sym (lift-lifts d (sym c.is_known_state.ensures ∙ c.if-not-is_known_state.false) (not-false _ c.if-not-self.false) (not-false _ c.if-not-self-2.false))
