-- `play::Play::is_play` meets its contract: each test is one of the definition's three, in its order.
use Rattle.std.proofs.Common.{◌≡◌, false, leb, refl, sym, ◌∙◌, inl, inr, le-leb}
use Rattle.std.proofs.lemmas.Bool.{lt-leb}
use Rattle.ground.specs.Tests.{and_on, and_off, and_late}
use Rattle.play.specs.Play.{is_play}
use Rattle.play.proofs.Play.is_play.Goals as goal
use Rattle.play.proofs.Play.is_play.Goals.{then-is_status, else-is_status}

pub returns-then-self : goal.returns-then-self
unfolding is_play
returns-then-self c = and_on _ _ (sym c.is_status.ensures ∙ c.if-self.true.0) (and_on _ _ (le-leb _ _ c.if-self.true.1) refl)

pub returns-else-self : goal.returns-else-self
unfolding is_play
returns-else-self c =
    let r = c.args.self in
    elim c.if-is_status.branch [
      | then-is_status w ↦ elim c.if-self.either [
        | inl h ↦ (let f : leb r.position r.end ≡ false = lt-leb _ _ h.1 in let g : false ≡ is_play r = and_late _ _ (and_off _ _ f) in cc)
        | inr h ↦ cc
      ]
      | else-is_status w ↦ (let g : false ≡ is_play r = and_off _ _ (sym c.is_status.ensures ∙ w.if-is_status.false) in cc)
    ]
