-- Two runs of any device: where alike calls are told apart by a call alone that looks at what differs, they agree until one does.
use Rattle.std.specs.Prelude.{ℕ, zero, suc, ◌≤◌, ◌<◌, ◌≡◌, refl, Bool, true, false, List, [], ◌∷◌, ◌++◌, length}
use Rattle.std.proofs.Common.{arith}
use Rattle.claims.specs.History.{Event, history, At, here, there}
use Rattle.claims.specs.Runs.{Pairwise, cons, Same}

module _ {C S A : Type 0} (answer : C → S → A) (next : C → S → S) where
  -- after calls in common and c, the calls cs and ds: the events at place i have the same answer and the same state after it, where each call after c
  -- and before that place leaves the device live
  abbrev pub AgreeWhile : (S → Bool) → S → List C → C → List C → List C → Type 0
  AgreeWhile live s common c cs ds =
      (i : ℕ) (e f : Event C S A) → At (history answer next s (common ++ c ∷ cs)) i e → At (history answer next s (common ++ c ∷ ds)) i f
      → ((j : ℕ) (g : Event C S A) → length common < j → j < i → At (history answer next s (common ++ c ∷ cs)) j g → live g.new ≡ true)
      → (e.answer ≡ f.answer) × (e.new ≡ f.new)

  -- after calls in common, the calls cs and ds: the same, where no call after those and up to that place looks at what differs
  abbrev pub AgreeUntil : (C → S → Bool) → S → List C → List C → List C → Type 0
  AgreeUntil looks s common cs ds =
      (i : ℕ) (e f : Event C S A) → At (history answer next s (common ++ cs)) i e → At (history answer next s (common ++ ds)) i f
      → ((j : ℕ) (g : Event C S A) → length common ≤ j → j ≤ i → At (history answer next s (common ++ cs)) j g → looks g.call g.old ≡ false)
      → (e.answer ≡ f.answer) × (e.new ≡ f.new)

module _ {C S A : Type 0} (answer : C → S → A) (next : C → S → S) (looks : C → S → Bool) (Alike : C → C → Type 0)
    (blind : (c d : C) (s : S) → Alike c d → looks c s ≡ false → (answer c s ≡ answer d s) × (next c s ≡ next d s)) where
  abbrev past : S → List C → List (Event C S A)
  past = history answer next

  -- alike calls from one state agree up to and including each place up to which no call looks
  agree-from : (s : S) {cs ds : List C} → Pairwise Alike cs ds → (i : ℕ) {e f : Event C S A} → At (past s cs) i e → At (past s ds) i f
      → ((j : ℕ) (g : Event C S A) → j ≤ i → At (past s cs) j g → looks g.call g.old ≡ false)
      → Same e f
  agree-from s Pairwise.nil i a _ w = elim a [ ]
  agree-from s (cons {c} {d} a p) zero here here w = blind c d s a (w zero _ (omega arith) here)
  agree-from s (cons {c} {d} {cs} {ds} a p) (suc i) {e} {f} (there x) (there y) w =
      let b = blind c d s a (w zero _ (omega arith) here) in
      let z : At (past (next c s) ds) i f = rw b.1 y in
      agree-from (next c s) p i x z (λ j g q at. w (suc j) g (omega arith) (there at))

  pub agree-until : (s : S) (common : List C) {cs ds : List C} → Pairwise Alike cs ds → AgreeUntil answer next looks s common cs ds
  agree-until s [] p i e f x y w = agree-from s p i x y (λ j g q at. w j g (omega arith) q at)
  agree-until s (c ∷ common) p zero e f here here w = (refl, refl)
  agree-until s (c ∷ common) p (suc i) e f (there x) (there y) w =
      agree-until (next c s) common p i e f x y (λ j g m q at. w (suc j) g (omega arith) (omega arith) (there at))
