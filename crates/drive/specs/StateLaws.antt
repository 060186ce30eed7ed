-- The laws of the calls: what each does in each case, and that a refused one leaves the state as it was, but for the event after a refused
-- press.
use Rattle.std.specs.Prelude.{◌≡◌, Bool, ℕ, eqb}
use Rattle.std.proofs.Math.Path.{refl}
use Rattle.std.proofs.Common.{◌∙◌}
use Rattle.std.proofs.Math.Bool.{true, false}
use Rattle.ground.specs.Tests.{◌and◌, choose◌then◌else◌, and_head, and_tail, and_both, when, unless, either}
use Rattle.deck.specs.declared.Deck.{Deck}
use Rattle.drive.specs.declared.state.Drive.{Drive}
use Rattle.drive.specs.declared.state.Moved.{Moved}
use Rattle.attention.specs.Sense.{is_known}
use Rattle.play.specs.Play.{moved_on}
use Rattle.play.specs.PlayLaws.{Known, is_play_known, known-is_play}
use Rattle.page.specs.Page.{is_setting}
use Rattle.deck.specs.Deck.{pressed, is_event, is_loaded, opening, closing}
use Rattle.drive.specs.State.{unknown_state, locked, cannot_lay, cannot_lift, is_known_state, shift, holding, showing, noting, power_on_with, power_on, power_on_without_change, refuse, moves, button, lay, lift, move_on}

-- a call with a number other than 0 hands back the state as it came
abbrev pub Unmoved : Drive → Moved → Type 0
Unmoved d r = (r.number ≡ 0 → ⊥) → r.state ≡ d

-- a press with the number 5 changes the event only, and with any other number than 0 nothing
abbrev pub Pressed : Drive → Moved → Type 0
Pressed d r = (r.number ≡ 0 → ⊥) → r.state ≡ (choose eqb r.number locked then noting d pressed else d)

-- ---- refusal 2

-- what it asks of the deck
pub record KnownDeck (m : Deck) : Type 0 where
  pub play : Known m.play
  pub page : is_setting m.page.recovery ≡ true
  pub event : is_event m.event ≡ true

pub is_known_state_sense : (d : Drive) → is_known_state d ≡ true → is_known d.unit.sense ≡ true
unfolding is_known_state
is_known_state_sense d h = and_head _ _ h

pub is_known_state_deck : (d : Drive) → is_known_state d ≡ true → KnownDeck d.deck
unfolding is_known_state
is_known_state_deck d h =
    let t = and_tail _ _ h in
    let g = and_tail _ _ t in
    record { play = is_play_known _ (and_head _ _ t); page = and_head _ _ g; event = and_tail _ _ g }

pub known-is_known_state : (d : Drive) → is_known d.unit.sense ≡ true → KnownDeck d.deck → is_known_state d ≡ true
unfolding is_known_state
known-is_known_state d h k = and_both _ _ h (and_both _ _ (known-is_play k.play) (and_both _ _ k.page k.event))

-- ---- the two ways in which a call ends

went : (d e : Drive) → Unmoved d (moves e)
went d e n = absurd (n refl)

stood : (d : Drive) (n : ℕ) → Unmoved d (refuse n d)
stood d n h = refl

module _ (d : Drive) where
  -- ---- the two forms of power-on: the same but for the change attention

  pub power_on-with : power_on d ≡ power_on_with d (is_loaded d.deck)
  unfolding power_on
  power_on-with = refl

  pub power_on_without_change-with : power_on_without_change d ≡ power_on_with d false
  unfolding power_on_without_change
  power_on_without_change-with = refl

  -- ---- each case of the other calls

  pub button-unknown : is_known_state d ≡ false → button d ≡ refuse unknown_state d
  unfolding button
  button-unknown h = unless _ _ _ h

  pub lay-unknown : is_known_state d ≡ false → lay d ≡ refuse unknown_state d
  unfolding lay
  lay-unknown h = unless _ _ _ h

  pub lift-unknown : is_known_state d ≡ false → lift d ≡ refuse unknown_state d
  unfolding lift
  lift-unknown h = unless _ _ _ h

  pub move_on-unknown : (n : ℕ) → is_known_state d ≡ false → move_on n d ≡ refuse unknown_state d
  unfolding move_on
  move_on-unknown n h = unless _ _ _ h

  module _ (k : is_known_state d ≡ true) where
    pub move_on-moves : (n : ℕ) → move_on n d ≡ moves (showing d (moved_on n d.deck.play))
    unfolding move_on
    move_on-moves n = when _ _ _ k

    pub button-closes : d.deck.tray_open ≡ true → button d ≡ moves (shift d (closing d.deck))
    unfolding button
    button-closes t = when _ _ _ k ∙ when _ _ _ t

    pub button-locked : d.deck.tray_open ≡ false → d.deck.lock ≡ true → button d ≡ refuse locked (noting d pressed)
    unfolding button
    button-locked t l = when _ _ _ k ∙ unless _ _ _ t ∙ when _ _ _ l

    pub button-opens : d.deck.tray_open ≡ false → d.deck.lock ≡ false → button d ≡ moves (shift d (opening d.deck))
    unfolding button
    button-opens t l = when _ _ _ k ∙ unless _ _ _ t ∙ unless _ _ _ l

    pub lay-closed : d.deck.tray_open ≡ false → lay d ≡ refuse cannot_lay d
    unfolding lay ◌and◌
    lay-closed t = when _ _ _ k ∙ unless _ _ _ (rw t)

    pub lay-full : d.deck.tray_open ≡ true → d.deck.disc_in ≡ true → lay d ≡ refuse cannot_lay d
    unfolding lay ◌and◌
    lay-full t i = when _ _ _ k ∙ unless _ _ _ (rw (t, i))

    pub lay-lays : d.deck.tray_open ≡ true → d.deck.disc_in ≡ false → lay d ≡ moves (holding d true)
    unfolding lay ◌and◌
    lay-lays t i = when _ _ _ k ∙ when _ _ _ (rw (t, i))

    pub lift-closed : d.deck.tray_open ≡ false → lift d ≡ refuse cannot_lift d
    unfolding lift ◌and◌
    lift-closed t = when _ _ _ k ∙ unless _ _ _ (rw t)

    pub lift-empty : d.deck.tray_open ≡ true → d.deck.disc_in ≡ false → lift d ≡ refuse cannot_lift d
    unfolding lift ◌and◌
    lift-empty t i = when _ _ _ k ∙ unless _ _ _ (rw (t, i))

    pub lift-lifts : d.deck.tray_open ≡ true → d.deck.disc_in ≡ true → lift d ≡ moves (holding d false)
    unfolding lift ◌and◌
    lift-lifts t i = when _ _ _ k ∙ when _ _ _ (rw (t, i))

  -- ---- a refused call leaves the state as it was; a press under refusal 5 changes the event

  pub button-refused : Pressed d (button d)
  unfolding choose◌then◌else◌
  button-refused = go (is_known_state d) d.deck.tray_open d.deck.lock refl refl refl
    where
      go : (k t l : Bool) → is_known_state d ≡ k → d.deck.tray_open ≡ t → d.deck.lock ≡ l → Pressed d (button d)
      go false t l h i j = rw (button-unknown h) (λ n. refl)
      go true true l h i j = rw (button-closes h i) (λ n. absurd (n refl))
      go true false true h i j = rw (button-locked h i j) (λ n. refl)
      go true false false h i j = rw (button-opens h i j) (λ n. absurd (n refl))

  pub lay-refused : Unmoved d (lay d)
  unfolding lay
  lay-refused = either (Unmoved d) _ (λ k. either (Unmoved d) _ (λ t. went d _) (λ t. stood d _)) (λ k. stood d _)

  pub lift-refused : Unmoved d (lift d)
  unfolding lift
  lift-refused = either (Unmoved d) _ (λ k. either (Unmoved d) _ (λ t. went d _) (λ t. stood d _)) (λ k. stood d _)

  pub move_on-refused : (n : ℕ) → Unmoved d (move_on n d)
  unfolding move_on
  move_on-refused n = either (Unmoved d) _ (λ k. went d _) (λ k. stood d _)
