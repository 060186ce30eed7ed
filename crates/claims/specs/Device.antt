-- Any device with the two attentions: the laws of one step, and what follows for every history.
use Rattle.std.specs.Prelude.{◌≡◌, refl, Bool, true, not, List, [], ◌∷◌, ◌++◌, ◌↔◌, ℕ, ◌<◌, length}
use Rattle.std.proofs.Common.{sym, ◌∙◌}
use Rattle.std.proofs.Math.Bool.{false}
use Rattle.ground.specs.Tests.{◌and◌, ◌or◌, and_late, or_left, or_right}
use Rattle.claims.specs.Telling.{Attention, power, change}
use Rattle.claims.specs.History.{Event, event, history, final, history-append, At, Standing, standing-told}
use Rattle.claims.specs.Stands.{stands}
use Rattle.claims.specs.Runs.{Pairwise, Same, agree_after}

pub record Device (C S A : Type 0) : Type 1 where
  pub answer : C → S → A
  pub next : C → S → S
  -- the attention is pending in the state
  pub pend : Attention → S → Bool
  -- the event is a power-on; a cause of the attention; an answer that tells it; a success that needs a disc
  pub on : Event C S A → Bool
  pub cause : Attention → Event C S A → Bool
  pub tells : Attention → Event C S A → Bool
  pub served : Event C S A → Bool
  -- two calls that differ only in what may not be told while an attention is pending
  pub Alike : C → C → Type 0
  pub turns : (k : Attention) (c : C) (s : S)
      → pend k (next c s)
      ≡ cause k (event answer next c s) or (not (on (event answer next c s)) and (not (tells k (event answer next c s)) and pend k s))
  pub blocks : (k : Attention) (c : C) (s : S) → pend k s ≡ true → served (event answer next c s) ≡ false
  pub blind : (c d : C) (s : S) → Alike c d → pend power s or pend change s ≡ true → (answer c s ≡ answer d s) × (next c s ≡ next d s)

module _ {C S A : Type 0} (D : Device C S A) where
  abbrev made : C → S → Event C S A
  made = event D.answer D.next

  abbrev past : S → List C → List (Event C S A)
  past = history D.answer D.next

  abbrev after : S → List C → S
  after = final D.answer D.next

  -- an attention is pending
  abbrev live : S → Bool
  live s = D.pend power s or D.pend change s

  abbrev StandingIn : Attention → List (Event C S A) → Type 0
  StandingIn k h = Standing D.on (D.cause k) (D.tells k) h

  -- from a power-on on: pending exactly when it stands in the history
  pub pends : (k : Attention) (c : C) (s : S) (cs : List C) → D.on (made c s) ≡ true
      → (D.pend k (after s (c ∷ cs)) ≡ true) ↔ StandingIn k (past s (c ∷ cs))
  pends k = stands D.answer D.next (D.pend k) D.on (D.cause k) (D.tells k) (D.turns k)

  -- no success that needs a disc while it stands
  pub blocked : (k : Attention) (c : C) (s : S) (cs : List C) (d : C) → D.on (made c s) ≡ true → StandingIn k (past s (c ∷ cs))
      → D.served (made d (after s (c ∷ cs))) ≡ false
  blocked k c s cs d o w = D.blocks k d (after s (c ∷ cs)) ((pends k c s cs o).1 w)

  -- causes before one telling count as one: after an answer that tells and is no cause itself nothing stands
  pub told-once : (k : Attention) (s : S) (cs : List C) (c : C) → D.tells k (made c (after s cs)) ≡ true → D.cause k (made c (after s cs)) ≡ false
      → StandingIn k (past s (cs ++ c ∷ [])) → ⊥
  told-once k s cs c t n w =
      standing-told D.on (D.cause k) (D.tells k) (past s cs) (made c (after s cs)) t n
      (rw (history-append D.answer D.next s cs (c ∷ [])) at w)

  -- an answer that tells an attention: it was pending, the answer is no cause of it, and it no longer is
  pub record Told (k : Attention) (c : C) (s : S) : Type 0 where
    pub due : D.pend k s ≡ true
    pub apart : D.cause k (made c s) ≡ false
    pub gone : D.pend k (D.next c s) ≡ false

  pub told : (k : Attention) (c : C) (s : S) → D.tells k (made c s) ≡ true → D.pend k s ≡ true → D.cause k (made c s) ≡ false → Told k c s
  unfolding ◌and◌ ◌or◌
  told k c s t d n = record { due = d; apart = n; gone = D.turns k c s ∙ rw (n, t) (sym (and_late (not (D.on (made c s))) false refl)) }

  -- a cause leaves an attention pending
  pub cause-lives : (k : Attention) (c : C) (s : S) → D.cause k (made c s) ≡ true → live (D.next c s) ≡ true
  cause-lives power c s h = or_left _ _ (D.turns power c s ∙ or_left _ _ h)
  cause-lives change c s h = or_right _ _ (D.turns change c s ∙ or_left _ _ h)

  -- two runs: calls in common, a cause, and then calls that are alike
  pub runs :
      (s : S) (common : List C) (c : C) {cs ds : List C} → live (D.next c (after s common)) ≡ true → Pairwise D.Alike cs ds
      → (i : ℕ) {e f : Event C S A} → At (past s (common ++ c ∷ cs)) i e → At (past s (common ++ c ∷ ds)) i f
      → ((j : ℕ) (g : Event C S A) → length common < j → j < i → At (past s (common ++ c ∷ cs)) j g → live g.new ≡ true)
      → Same e f
  runs = agree_after D.answer D.next live D.Alike D.blind
