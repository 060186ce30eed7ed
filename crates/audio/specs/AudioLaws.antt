-- The laws of PLAY and PAUSE/RESUME: each way out.
use Rattle.std.specs.Prelude.{◌≡◌, Bool, true, false, ℕ, ◌+◌}
use Rattle.std.proofs.Common.{◌∙◌, eq-eqb, ne_eqb}
use Rattle.ground.specs.Tests.{when, unless, or_left, or_right, or_else}
use Rattle.deck.specs.declared.Deck.{Deck}
use Rattle.play.specs.Play.{playing, completed, none, play_of, with_status}
use Rattle.deck.specs.Deck.{with_play}
use Rattle.gate.specs.declared.fault.Fault.TheVariants.{BadField}
use Rattle.gate.specs.Gate.{fails}
use Rattle.command.specs.Done.{done}
use Rattle.audio.specs.Audio.{started, is_over, resumed, pause_resume}

module _ (a n : ℕ) (m : Deck) where
  pub started_none : n ≡ 0 → started a n m ≡ m
  unfolding started
  started_none h = when _ _ _ (eq-eqb _ _ h)

  pub started-some : (n ≡ 0 → ⊥) → started a n m ≡ with_play m (play_of playing a (a + n))
  unfolding started
  started-some h = unless _ _ _ (ne_eqb _ _ h)

pub is_over-completed : (s : ℕ) → s ≡ completed → is_over s ≡ true
unfolding is_over
is_over-completed s h = or_left _ _ (eq-eqb _ _ h)

pub is_over-none : (s : ℕ) → s ≡ none → is_over s ≡ true
unfolding is_over
is_over-none s h = or_right _ _ (eq-eqb _ _ h)

pub is_over_not : (s : ℕ) → (s ≡ completed → ⊥) → (s ≡ none → ⊥) → is_over s ≡ false
unfolding is_over
is_over_not s h k = or_else _ _ (ne_eqb _ _ h) ∙ ne_eqb _ _ k

module _ (resume : Bool) (m : Deck) where
  pub pause_resume-over : is_over m.play.status ≡ true → pause_resume resume m ≡ fails BadField
  unfolding pause_resume
  pause_resume-over h = when _ _ _ h

  pub pause_resume-goes : is_over m.play.status ≡ false → pause_resume resume m ≡ done (with_play m (with_status m.play (resumed resume)))
  unfolding pause_resume
  pause_resume-goes h = unless _ _ _ h
