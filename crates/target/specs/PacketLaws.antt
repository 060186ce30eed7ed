-- How the code's outcomes meet an answer.
use Rattle.std.specs.Prelude.{◌≡◌, refl, Bool, List, ℕ, ◌≤◌, ◌<◌, min, length, take}
use Rattle.std.proofs.Math.Path.{sym, ap}
use Rattle.std.proofs.Common.{◌∙◌, arith, length-take, eq-eqb, ne_eqb, lt-ltb, le-ltb}
use Rattle.std.proofs.Math.Bool.{true, false, not}
use Rattle.ground.specs.Tests.{◌and◌, when, unless, and_both, and_off, and_late}
use Rattle.ground.specs.Memory.{Laid, fill, fill_none}
use Rattle.attention.specs.declared.sense.Sense.{Sense}
use Rattle.attention.specs.declared.Unit.{Unit}
use Rattle.deck.specs.declared.Deck.{Deck}
use Rattle.drive.specs.declared.state.Drive.{Drive}
use Rattle.deck.specs.Deck.{is_loaded}
use Rattle.drive.specs.State.{is_known_state, unknown_state}
use Rattle.table.specs.Layout.{bound}
use Rattle.disc.specs.Rules.{fault, is_fit}
use Rattle.disc.specs.Part.{unfit, rule_with}
use Rattle.disc.specs.PartLaws.{rule_with-none, rule_with-fault}
use Rattle.disc.specs.declared.disc.Disc.{Disc}
use Rattle.gate.specs.Unit.{clear}
use Rattle.gate.specs.Gate.{Result, fails, goes, Reply, refuse, check, good, settle, pass}
use Rattle.outcome.specs.declared.Outcome.{Outcome}
use Rattle.outcome.specs.Outcome.{outcome_of, bytes_of, Answered, refused, checked, granted, finished}
use Rattle.command.specs.Done.{Done, done_of}
use Rattle.target.specs.Perform.{written, Performed}
use Rattle.command.specs.Command.{code_of, decode}
use Rattle.target.specs.Packet.{steps, answer, refusal_of, not_twelve, short_memory}

-- no disc was read
abbrev pub unread : Disc
unread = record { first = 0; last = 0; sessions = 0; lead_out = 0; lead_flags = 0; last_first = 0; last_first_flags = 0; last_first_start = 0 }

-- the steps for the drive's packet
abbrev pub steps_of : Drive → List ℕ → List ℕ → List ℕ → Reply Deck
steps_of d p t l = steps (decode (code_of p)) d.unit d.deck p t l

-- what is finished is what is settled, or passed
pub finished-settle : (u : Unit) (m : Deck) (r : Result Deck) → finished u (clear u) m (done_of r) ≡ outcome_of (settle u m r)
finished-settle u m (fails f) = refl
finished-settle u m (goes next loading full limit start count) = refl

pub finished-pass : (u : Unit) (m : Deck) (r : Result Deck) → finished u u m (done_of r) ≡ outcome_of (pass u m r)
finished-pass u m (fails f) = refl
finished-pass u m (goes next loading full limit start count) = refl

-- what is written is the answer's bytes
pub written-settle : (u : Unit) (m : Deck) (r : Result Deck) → written r ≡ bytes_of (settle u m r)
written-settle u m (fails f) = refl
written-settle u m (goes next loading full limit start count) = refl

pub written-pass : (u : Unit) (m : Deck) (r : Result Deck) → written r ≡ bytes_of (pass u m r)
written-pass u m (fails f) = refl
written-pass u m (goes next loading full limit start count) = refl

-- ---- Answered

pub answered-refused : (n r : ℕ) (d : Drive) (m : List ℕ) → Answered (refuse n r d.unit d.deck) m (refused n r d) m
answered-refused n r d m = record { outcome = refl; memory = sym (fill_none m) }

pub answered-check : (s : Sense) (u : Unit) (k : Deck) {o : Outcome Drive} (m : List ℕ) → o ≡ checked s u k → Answered (check s u k) m o m
answered-check s u k m e = record { outcome = e; memory = sym (fill_none m) }

pub answered-settle :
    (u : Unit) (k : Deck) (r : Result Deck) {done : Done} {o : Outcome Drive} {m m' : List ℕ}
    → Performed r m done m' → o ≡ finished u (clear u) k done → Answered (settle u k r) m o m'
answered-settle u k r {m = m} f e = record {
  outcome = e ∙ ap (finished u (clear u) k) f.outcome ∙ finished-settle u k r;
  memory = f.memory ∙ ap (fill m) (written-settle u k r);
}

pub answered-pass :
    (u : Unit) (k : Deck) (r : Result Deck) {done : Done} {o : Outcome Drive} {m m' : List ℕ}
    → Performed r m done m' → o ≡ finished u u k done → Answered (pass u k r) m o m'
answered-pass u k r {m = m} f e = record {
  outcome = e ∙ ap (finished u u k) f.outcome ∙ finished-pass u k r;
  memory = f.memory ∙ ap (fill m) (written-pass u k r);
}

-- an answer with an allocation length, laid into a memory that holds it whole
pub answered-good :
    (full : List ℕ) (u : Unit) (k : Deck) {limit n : ℕ} {m m' : List ℕ} → length full ≤ length m → Laid m (take limit full) n m'
    → Answered (good full limit 0 0 u k) m (granted n 0 0 u k) m'
answered-good full u k {limit} {n} h l =
    let e : n ≡ min limit (length full) = let a = l.count in let b = length-take limit full in omega arith in
    record { outcome = rw e; memory = l.bytes }

-- ---- the refusals in order

module _ (d : Drive) (p t l : List ℕ) (n : ℕ) where
  -- by k with the rule r beside it, and with none
  refused-by :
      (k : ℕ) {r : ℕ} → refusal_of d p t n ≡ k → (k ≡ 0 → ⊥) → r ≡ rule_with k t → answer d p t l n ≡ refuse k r d.unit d.deck
  unfolding answer
  refused-by k e z h =
      unless _ _ _ (ne_eqb _ 0 (λ w. z (sym e ∙ w)))
      ∙ ap (λ (x : ℕ). refuse x (rule_with x t) d.unit d.deck) e
      ∙ ap (λ (x : ℕ). refuse k x d.unit d.deck) (sym h)

  refused-plainly : (k : ℕ) → refusal_of d p t n ≡ k → (k ≡ 0 → ⊥) → (k ≡ unfit → ⊥) → answer d p t l n ≡ refuse k 0 d.unit d.deck
  refused-plainly k e z w = refused-by k e z (rule_with-none k t w)

  pub answer-1 : (length p ≡ 12 → ⊥) → answer d p t l n ≡ refuse not_twelve 0 d.unit d.deck
  unfolding refusal_of
  answer-1 h = refused-plainly not_twelve (when _ _ _ (ap not (ne_eqb _ _ h))) (λ z. omega arith) (λ z. omega arith)

  module _ (a : length p ≡ 12) where
    pub answer-2 : is_known_state d ≡ false → answer d p t l n ≡ refuse unknown_state 0 d.unit d.deck
    unfolding refusal_of
    answer-2 h =
        refused-plainly unknown_state (unless _ _ _ (ap not (eq-eqb _ _ a)) ∙ when _ _ _ (ap not h)) (λ z. omega arith) (λ z. omega arith)

    module _ (b : is_known_state d ≡ true) where
      pub answer-3 : n < bound → answer d p t l n ≡ refuse short_memory 0 d.unit d.deck
      unfolding refusal_of
      answer-3 h =
          refused-plainly short_memory (unless _ _ _ (ap not (eq-eqb _ _ a)) ∙ unless _ _ _ (ap not b) ∙ when _ _ _ (lt-ltb _ _ h))
          (λ z. omega arith) (λ z. omega arith)

      module _ (c : bound ≤ n) where
        pub answer-4 : is_loaded d.deck ≡ true → is_fit t ≡ false → answer d p t l n ≡ refuse unfit (fault t) d.unit d.deck
        unfolding refusal_of
        answer-4 h k =
            refused-by unfit
            (unless _ _ _ (ap not (eq-eqb _ _ a)) ∙ unless _ _ _ (ap not b) ∙ unless _ _ _ (le-ltb _ _ c) ∙ when _ _ _ (and_both _ _ h (ap not k)))
            (λ z. omega arith) (rule_with-fault t)

        -- none of them: the steps
        pub answer-steps : (is_loaded d.deck ≡ true → is_fit t ≡ true) → answer d p t l n ≡ steps_of d p t l
        unfolding answer refusal_of
        answer-steps f =
            when _ _ _ (eq-eqb _ _
            (unless _ _ _ (ap not (eq-eqb _ _ a)) ∙ unless _ _ _ (ap not b) ∙ unless _ _ _ (le-ltb _ _ c) ∙ unless _ _ _ (fits (is_loaded d.deck) refl)))
          where
            fits : (b : Bool) → is_loaded d.deck ≡ b → is_loaded d.deck and not (is_fit t) ≡ false
            fits true e = sym (and_late _ _ (sym (ap not (f e))))
            fits false e = sym (and_off _ _ e)
