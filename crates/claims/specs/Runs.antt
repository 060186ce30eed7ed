-- Two runs of any device whose answers, while it is live, do not tell alike calls apart; or never do.
use Rattle.std.specs.Prelude.{◌≡◌, refl, Bool, true, List, [], ◌∷◌, ◌++◌, map, ℕ, zero, suc, ◌+◌, ◌<◌, length}
use Rattle.std.proofs.Common.{sym, ap, ◌∙◌, arith, length-append}
use Rattle.claims.specs.History.{Event, history, final, At, here, there}

-- the calls of one list are like those of the other, one by one
pub data Pairwise {C : Type 0} (Alike : C → C → Type 0) : List C → List C → Type 0 where
  nil : Pairwise Alike [] []
  cons : {c d : C} {cs ds : List C} → Alike c d → Pairwise Alike cs ds → Pairwise Alike (c ∷ cs) (d ∷ ds)

-- calls that are like one another in one way, and so in another
pub pairwise_map : {C : Type 0} {A B : C → C → Type 0} {cs ds : List C} → ((c d : C) → A c d → B c d) → Pairwise A cs ds → Pairwise B cs ds
pairwise_map f nil = nil
pairwise_map f (cons {c} {d} a p) = cons (f c d a) (pairwise_map f p)

-- so they are as many
pairwise-length : {C : Type 0} {Alike : C → C → Type 0} {cs ds : List C} → Pairwise Alike cs ds → length cs ≡ length ds
pairwise-length nil = refl
pairwise-length (cons a p) = ap suc (pairwise-length p)

history-length : {C S A : Type 0} (answer : C → S → A) (next : C → S → S) (s : S) (cs : List C) → length (history answer next s cs) ≡ length cs
history-length answer next s [] = refl
history-length answer next s (c ∷ cs) = ap suc (history-length answer next (next c s) cs)

-- two runs have an event at the same places
pub runs_long :
    {C S A : Type 0} {Alike : C → C → Type 0} (answer : C → S → A) (next : C → S → S) (s : S) (common : List C) (c : C) {cs ds : List C}
    → Pairwise Alike cs ds → length (history answer next s (common ++ c ∷ cs)) ≡ length (history answer next s (common ++ c ∷ ds))
runs_long answer next s common c {cs} {ds} p =
    history-length answer next s (common ++ c ∷ cs)
    ∙ length-append common (c ∷ cs)
    ∙ ap (λ (n : ℕ). length common + suc n) (pairwise-length p)
    ∙ sym (length-append common (c ∷ ds))
    ∙ sym (history-length answer next s (common ++ c ∷ ds))

-- two events with the same answer and the same state after it
abbrev pub Same : {C S A : Type 0} → Event C S A → Event C S A → Type 0
Same e f = (e.answer ≡ f.answer) × (e.new ≡ f.new)

-- two histories agree up to and including the first answer that leaves the device not live
pub data Agree {C S A : Type 0} (live : S → Bool) : List (Event C S A) → List (Event C S A) → Type 0 where
  nil : Agree live [] []
  cons : {e f : Event C S A} {h k : List (Event C S A)} → Same e f → (live e.new ≡ true → Agree live h k) → Agree live (e ∷ h) (f ∷ k)

module _ {C S A : Type 0} (live : S → Bool) where
  -- where two histories agree, so do their events at each place before which every answer leaves the device live
  pub agree_at :
      {h k : List (Event C S A)} → Agree live h k → (i : ℕ) {e f : Event C S A} → At h i e → At k i f
      → ((j : ℕ) (g : Event C S A) → j < i → At h j g → live g.new ≡ true)
      → Same e f
  agree_at nil i a _ l = elim a [ ]
  agree_at (cons s r) zero here here l = s
  agree_at (cons s r) (suc i) (there a) (there b) l =
      agree_at (r (l zero _ (omega arith) here)) i a b (λ j g q at. l (suc j) g (omega arith) (there at))

module _ {C S A : Type 0} (answer : C → S → A) (next : C → S → S) (live : S → Bool) (Alike : C → C → Type 0)
    (blind : (c d : C) (s : S) → Alike c d → live s ≡ true → (answer c s ≡ answer d s) × (next c s ≡ next d s)) where
  -- alike calls from one live state agree
  pub agree : {cs ds : List C} → Pairwise Alike cs ds → (s : S) → live s ≡ true → Agree live (history answer next s cs) (history answer next s ds)
  agree nil s l = nil
  agree (cons {c} {d} {cs} {ds} a more) s l =
      let b = blind c d s a l in
      let rest : live (next c s) ≡ true → Agree live (history answer next (next c s) cs) (history answer next (next d s) ds) =
      λ m. rw (sym b.1) (agree more (next c s) m) in
      cons b rest

  -- the same, by place, after calls in common and one more that leaves the device live
  pub agree_after :
      (s : S) (common : List C) (c : C) {cs ds : List C} → live (next c (final answer next s common)) ≡ true → Pairwise Alike cs ds
      → (i : ℕ) {e f : Event C S A} → At (history answer next s (common ++ c ∷ cs)) i e → At (history answer next s (common ++ c ∷ ds)) i f
      → ((j : ℕ) (g : Event C S A) → length common < j → j < i → At (history answer next s (common ++ c ∷ cs)) j g → live g.new ≡ true)
      → Same e f
  agree_after s [] c l p zero here here w = (refl, refl)
  agree_after s [] c l p (suc i) (there a) (there b) w =
      agree_at live (agree p (next c s) l) i a b (λ j g q at. w (suc j) g (omega arith) (omega arith) (there at))
  agree_after s (x ∷ common) c l p zero here here w = (refl, refl)
  agree_after s (x ∷ common) c l p (suc i) (there a) (there b) w =
      agree_after (next x s) common c l p i a b (λ j g m q at. w (suc j) g (omega arith) (omega arith) (there at))

-- an event's answer, and the state after it
abbrev pub result_of : {C S A : Type 0} → Event C S A → A × S
result_of e = (e.answer, e.new)

module _ {C S A : Type 0} (answer : C → S → A) (next : C → S → S) (Alike : C → C → Type 0)
    (blind : (c d : C) (s : S) → Alike c d → (answer c s ≡ answer d s) × (next c s ≡ next d s)) where
  -- calls that are alike in every state agree throughout
  pub agree-throughout : {cs ds : List C} → Pairwise Alike cs ds → (s : S)
      → map result_of (history answer next s cs) ≡ map result_of (history answer next s ds)
  agree-throughout nil s = refl
  agree-throughout (cons {c} {d} {cs} {ds} a more) s =
      let b = blind c d s a in
      let r = agree-throughout more (next c s) ∙ ap (λ (x : S). map result_of (history answer next x ds)) b.1 in
      λ i. (b.0 i, b.1 i) ∷ r i
