-- Over any calls: what a cause puts up, and what a power-on or another event takes away, is up exactly when it stands in the history.
use Rattle.std.specs.Prelude.{◌≡◌, refl, Bool, true, false, not, List, [], ◌∷◌, ◌⊎◌, ◌↔◌}
use Rattle.std.proofs.Common.{sym, ap, ◌∙◌, true≢false, inl, inr, ⊎_elim}
use Rattle.std.proofs.lemmas.Bool.{not-true}
use Rattle.ground.specs.Tests.{◌and◌, ◌or◌, and_head, and_tail, and_both, or_left, or_right}
use Rattle.claims.specs.History.{Event, event, history, final, None, end, but, Standing, standing_here, standing-later, standing-cases, standing-none}

pub or_cases : (a b : Bool) → a or b ≡ true → (a ≡ true) ⊎ (b ≡ true)
unfolding ◌or◌
or_cases true b h = inl refl
or_cases false b h = inr h

-- `up` says of a state that it is up; an event may be a power-on, a cause, or take it away
module _ {C S A : Type 0} (answer : C → S → A) (next : C → S → S) (up : S → Bool) (on cause takes : Event C S A → Bool) where
  abbrev made : C → S → Event C S A
  made = event answer next

  abbrev past : S → List C → List (Event C S A)
  past = history answer next

  abbrev after : S → List C → S
  after = final answer next

  -- one step: it is up after it where the step is a cause, or where it was up and nothing took it away
  abbrev pub Turns : Type 0
  Turns = (c : C) (s : S) → up (next c s) ≡ cause (made c s) or (not (on (made c s)) and (not (takes (made c s)) and up s))

  abbrev StandingIn : List (Event C S A) → Type 0
  StandingIn h = Standing on cause takes h

  -- it was up, and there was no power-on and nothing that took it away
  abbrev Kept : S → List (Event C S A) → Type 0
  Kept s h = (up s ≡ true) × None on h × None takes h

  module _ (turns : Turns) where
    turned : (c : C) (s : S) → up (next c s) ≡ true
        → (cause (made c s) ≡ true)
        ⊎ ((on (made c s) ≡ false) × (takes (made c s) ≡ false) × (up s ≡ true))
    turned c s h = ⊎_elim inl (λ w. let v = and_tail _ _ w in inr (not-true _ (and_head _ _ w), not-true _ (and_head _ _ v), and_tail _ _ v))
        (or_cases _ _ (sym (turns c s) ∙ h))

    -- up at the end: it stands in the history, or it was up at the start and nothing took it away
    up-stands : (cs : List C) (s : S) → up (after s cs) ≡ true → StandingIn (past s cs) ⊎ Kept s (past s cs)
    up-stands [] s h = inr (h, end, end)
    up-stands (c ∷ cs) s h = ⊎_elim
        (λ w. inl (standing-later _ _ _ w))
        (λ w. ⊎_elim
        (λ v. inl (standing_here _ _ _ v w.1 w.2))
        (λ v. inr (v.2, but v.0 w.1, but v.1 w.2))
        (turned c s w.0))
        (up-stands cs (next c s) h)

    stands_up : (cs : List C) (s : S) → StandingIn (past s cs) ⊎ Kept s (past s cs) → up (after s cs) ≡ true
    stands_up [] s (inl w) = absurd (standing-none _ _ _ w)
    stands_up [] s (inr w) = w.0
    stands_up (c ∷ cs) s (inl w) = stands_up cs (next c s)
        (⊎_elim (λ v. inr (turns c s ∙ or_left _ _ v.0, v.1, v.2)) inl (standing-cases _ _ _ w))
    stands_up (c ∷ cs) s (inr (p, but n ns, but t ts)) = stands_up cs (next c s)
        (inr (turns c s ∙ or_right _ _ (and_both _ _ (ap not n) (and_both _ _ (ap not t) p)), ns, ts))

    -- from a power-on on: up exactly when it stands in the history
    pub stands : (c : C) (s : S) (cs : List C) → on (made c s) ≡ true → (up (after s (c ∷ cs)) ≡ true) ↔ StandingIn (past s (c ∷ cs))
    stands c s cs o = (λ h. ⊎_elim (λ w. w) (λ w. absurd (never w.1)) (up-stands (c ∷ cs) s h), λ w. stands_up (c ∷ cs) s (inl w))
      where
        never : None on (past s (c ∷ cs)) → ⊥
        never (but n ns) = true≢false (sym o ∙ n)
