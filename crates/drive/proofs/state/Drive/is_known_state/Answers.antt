-- `drive::state::Drive::is_known_state` meets its contract: each test is one of the definition's four, in its order.
use Rattle.std.proofs.Common.{◌≡◌, sym, ◌∙◌}
use Rattle.ground.specs.Tests.{◌and◌, and_on, and_off, and_four}
use Rattle.attention.specs.Sense.{is_known}
use Rattle.play.specs.Play.{is_play}
use Rattle.page.specs.Page.{is_setting}
use Rattle.drive.specs.State.{is_known_state}
use Rattle.drive.proofs.state.Drive.is_known_state.Goals as goal
use Rattle.drive.proofs.state.Drive.is_known_state.Goals.{then-is_known, else-is_known, then-is_play, else-is_play}

pub returns-then-is_setting : goal.returns-then-is_setting
unfolding is_known_state
returns-then-is_setting c =
    let d = c.args.self in
    let two : c.if-is_known.value ≡ is_known d.unit.sense and is_play d.deck.play = elim c.if-is_known.branch [
      | then-is_known w ↦ and_on _ _ (sym c.is_known.ensures ∙ w.if-is_known.true) (w.value-is ∙ w.is_play.ensures)
      | else-is_known w ↦ let f = w.if-is_known.false in w.value-is ∙ f ∙ and_off _ _ (sym c.is_known.ensures ∙ f)
    ] in
    let three : c.if-is_play.value ≡ c.if-is_known.value and is_setting d.deck.page.recovery = elim c.if-is_play.branch [
      | then-is_play w ↦ and_on _ _ w.if-is_play.true (w.value-is ∙ w.is_setting.ensures)
      | else-is_play w ↦ let f = w.if-is_play.false in w.value-is ∙ f ∙ and_off _ _ f
    ] in
    and_four _ _ _ _ two three (and_on _ _ c.if-is_setting.true c.is_event.ensures)

pub returns-else-is_setting : goal.returns-else-is_setting
unfolding is_known_state
returns-else-is_setting c =
    let d = c.args.self in
    let two : c.if-is_known.value ≡ is_known d.unit.sense and is_play d.deck.play = elim c.if-is_known.branch [
      | then-is_known w ↦ and_on _ _ (sym c.is_known.ensures ∙ w.if-is_known.true) (w.value-is ∙ w.is_play.ensures)
      | else-is_known w ↦ let f = w.if-is_known.false in w.value-is ∙ f ∙ and_off _ _ (sym c.is_known.ensures ∙ f)
    ] in
    let three : c.if-is_play.value ≡ c.if-is_known.value and is_setting d.deck.page.recovery = elim c.if-is_play.branch [
      | then-is_play w ↦ and_on _ _ w.if-is_play.true (w.value-is ∙ w.is_setting.ensures)
      | else-is_play w ↦ let f = w.if-is_play.false in w.value-is ∙ f ∙ and_off _ _ f
    ] in
    and_four _ _ _ _ two three (let f = c.if-is_setting.false in f ∙ and_off _ _ f)
