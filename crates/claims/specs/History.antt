-- Histories of calls on any device: what stands in one, and where two agree.
use Rattle.std.specs.Prelude.{◌≡◌, refl, Bool, true, false, ◌⊎◌, ℕ, zero, suc}
use Rattle.std.proofs.Common.{sym, ap, ◌∙◌, true≢false, inl, inr, ⊎_elim}
use mathlib.Core.List.{List, [], ◌∷◌, ◌++◌, head-eq_of_cons-eq, tail-eq_of_cons-eq, nil≢cons}

-- a call that was made: the state before it, its answer, and the state after it
pub record Event (C S A : Type 0) : Type 0 where
  pub call : C
  pub old : S
  pub answer : A
  pub new : S

module _ {C S A : Type 0} (answer : C → S → A) (next : C → S → S) where
  abbrev pub event : C → S → Event C S A
  event c s = record { call = c; old = s; answer = answer c s; new = next c s }

  -- the calls made one after the other, from a state on
  abbrev pub history : S → List C → List (Event C S A)
  history s [] = []
  history s (c ∷ cs) = event c s ∷ history (next c s) cs

  -- the state after them
  abbrev pub final : S → List C → S
  final s [] = s
  final s (c ∷ cs) = final (next c s) cs

  pub history-append : (s : S) (cs ds : List C) → history s (cs ++ ds) ≡ history s cs ++ history (final s cs) ds
  history-append s [] ds = refl
  history-append s (c ∷ cs) ds = ap (λ (h : List (Event C S A)). event c s ∷ h) (history-append (next c s) cs ds)

-- no event of the list is one
pub data None {E : Type 0} (is : E → Bool) : List E → Type 0 where
  end : None is []
  but : {e : E} {h : List E} → is e ≡ false → None is h → None is (e ∷ h)

-- something stands in a history: its cause happened, and later there was no power-on and nothing that took it away; an attention's telling
-- does that
pub record Standing {E : Type 0} (on cause tells : E → Bool) (h : List E) : Type 0 where
  pub earlier : List E
  pub origin : E
  pub later : List E
  pub split : h ≡ earlier ++ origin ∷ later
  pub caused : cause origin ≡ true
  pub since : None on later
  pub untold : None tells later

-- the event at place i of a history
pub data At {E : Type 0} : List E → ℕ → E → Type 0 where
  here : {e : E} {h : List E} → At (e ∷ h) zero e
  there : {e f : E} {h : List E} {i : ℕ} → At h i f → At (e ∷ h) (suc i) f

-- ---- None

module _ {E : Type 0} (is : E → Bool) where
  pub none_last : (h : List E) (e : E) → None is (h ++ e ∷ []) → is e ≡ false
  none_last [] e (but q n) = q
  none_last (x ∷ h) e (but q n) = none_last h e n

-- ---- Standing

module _ {E : Type 0} (on cause tells : E → Bool) where
  pub standing_here : {e : E} {h : List E} → cause e ≡ true → None on h → None tells h → Standing on cause tells (e ∷ h)
  standing_here {e} {h} c n t =
      record { earlier = []; origin = e; later = h; split = refl; caused = c; since = n; untold = t }

  pub standing-later : {e : E} {h : List E} → Standing on cause tells h → Standing on cause tells (e ∷ h)
  standing-later {e} s = record {
    earlier = e ∷ s.earlier;
    origin = s.origin;
    later = s.later;
    split = ap (λ (l : List E). e ∷ l) s.split;
    caused = s.caused;
    since = s.since;
    untold = s.untold;
  }

  -- what stands in a history was caused by its first event or stands in the rest
  pub standing-cases :
      {e : E} {h : List E} → Standing on cause tells (e ∷ h)
      → ((cause e ≡ true) × None on h × None tells h) ⊎ Standing on cause tells h
  standing-cases {e} {h} s = go s.earlier s.split
    where
      go : (l : List E) → e ∷ h ≡ l ++ s.origin ∷ s.later → ((cause e ≡ true) × None on h × None tells h) ⊎ Standing on cause tells h
      go [] p =
          let q = head-eq_of_cons-eq p in
          let r = tail-eq_of_cons-eq p in
          inl (rw q s.caused, rw r s.since, rw r s.untold)
      go (x ∷ l) p = inr (record {
        earlier = l;
        origin = s.origin;
        later = s.later;
        split = tail-eq_of_cons-eq p;
        caused = s.caused;
        since = s.since;
        untold = s.untold;
      })

  -- nothing stands in no history
  pub standing-none : Standing on cause tells [] → ⊥
  standing-none s = go s.earlier s.split
    where
      go : (l : List E) → [] ≡ l ++ s.origin ∷ s.later → ⊥
      go [] p = nil≢cons p
      go (x ∷ l) p = nil≢cons p

  -- causes before one telling count as one: after it nothing stands, however many there were
  pub standing-told : (h : List E) (e : E) → tells e ≡ true → cause e ≡ false → Standing on cause tells (h ++ e ∷ []) → ⊥
  standing-told [] e t c s = ⊎_elim
      (λ w. true≢false (sym w.0 ∙ c))
      standing-none
      (standing-cases s)
  standing-told (x ∷ h) e t c s = ⊎_elim
      (λ w. true≢false (sym t ∙ none_last tells h e w.2))
      (standing-told h e t c)
      (standing-cases s)
