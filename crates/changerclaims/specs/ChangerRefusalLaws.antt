-- Which number a packet to the changer gives, which rule stands beside it, and what a refused one leaves.
use Rattle.std.specs.Prelude.{◌≡◌, Bool, List, length, ltb, leb}
use Rattle.std.proofs.Math.Path.{refl}
use Rattle.std.proofs.Common.{sym, ap, ◌∙◌, arith, lt_of_not-le, eq-eqb, ne_eqb, le-leb, lt-ltb, le-ltb}
use Rattle.std.proofs.Math.Bool.{true, false, not}
use Prim.Native.Nat.{ℕ, zero, suc}
use Rattle.std.proofs.Math.Decide.{dec_le}
use Rattle.std.proofs.lemmas.Bool.{lt-leb, not-true}
use Rattle.std.proofs.Math.Dec.{eqb}
use Rattle.ground.specs.Tests.{◌and◌, ◌or◌, choose◌then◌else◌, when, and_head, and_tail, and_assoc}
use Rattle.ground.specs.Memory.{fill, fill_none}
use Rattle.deck.specs.Deck.{is_loaded}
use Rattle.drive.specs.State.{is_known_state}
use Rattle.drive.specs.StateLaws.{move_on-refused}
use Rattle.table.specs.Layout.{bound}
use Rattle.disc.specs.Rules.{fault, is_fit}
use Rattle.disc.specs.Part.{rule_with}
use Rattle.gate.specs.Gate.{Reply}
use Rattle.claims.proofs.UnitLaws.{Kind, meets}
use Rattle.claims.proofs.RefusalLaws.{Numbered, meets-numbered, Beside, rule_with-beside, TestedAlone, move-tested}
use Rattle.changer.specs.declared.Slot.{Slot}
use Rattle.changer.specs.declared.Changer.{Changer}
use Rattle.outcome.specs.declared.Outcome.{Outcome}
use Rattle.changer.specs.Slot.{slot_at}
use Rattle.changer.specs.Mechanism.{Mechanism}
use Rattle.changer.specs.Changer.{is_in_order, with_drive, moves_on}
use Rattle.changer.specs.ChangerPacket.{mechanism_of, refusal_of, answer, outcome_of, bytes_of, Answered}
use Rattle.changerclaims.specs.ChangerKind.{kind_on, rule_of, reply-kind}

-- ---- the numbers, in the order of their tests

-- n is the number of a packet with those tests
pub record Ordered (twelve known short order unfit : Bool) (n : ℕ) : Type 0 where
  pub zero : eqb n 0 ≡ twelve and known and not short and order and not unfit
  pub one : eqb n 1 ≡ not twelve
  pub two : eqb n 2 ≡ twelve and not known
  pub three : eqb n 3 ≡ twelve and known and short
  pub eleven : eqb n 11 ≡ twelve and known and not short and not order
  pub four : eqb n 4 ≡ twelve and known and not short and order and unfit
  pub most : leb n 4 or eqb n 11 ≡ true

module _ (c : Changer) (s : List Slot) (p t : List ℕ) (n : ℕ) where
  pub refusal-ordered :
      Ordered (eqb (length p) 12) (is_known_state c.drive) (ltb n bound) (is_in_order c s) (is_loaded c.drive.deck and not (is_fit t))
      (refusal_of c s p t n)
  unfolding refusal_of choose◌then◌else◌ ◌and◌ ◌or◌
  refusal-ordered =
      by_tests (eqb (length p) 12) (is_known_state c.drive) (ltb n bound) (is_in_order c s) (is_loaded c.drive.deck and not (is_fit t))
    where
      by_tests : (twelve known short order unfit : Bool)
          → Ordered twelve known short order unfit
          (choose not twelve then 1 else (choose not known then 2 else (choose short then 3 else (choose not order then 11 else (choose unfit then 4 else 0)))))
      by_tests false known short order unfit =
          record { zero = refl; one = refl; two = refl; three = refl; eleven = refl; four = refl; most = refl }
      by_tests true false short order unfit =
          record { zero = refl; one = refl; two = refl; three = refl; eleven = refl; four = refl; most = refl }
      by_tests true true true order unfit =
          record { zero = refl; one = refl; two = refl; three = refl; eleven = refl; four = refl; most = refl }
      by_tests true true false false unfit =
          record { zero = refl; one = refl; two = refl; three = refl; eleven = refl; four = refl; most = refl }
      by_tests true true false true true =
          record { zero = refl; one = refl; two = refl; three = refl; eleven = refl; four = refl; most = refl }
      by_tests true true false true false =
          record { zero = refl; one = refl; two = refl; three = refl; eleven = refl; four = refl; most = refl }

  -- what is not refused is in order, and its disc's table is fit
  pub order-unrefused : refusal_of c s p t n ≡ 0 → is_in_order c s ≡ true
  order-unrefused z =
      and_head _ _ (and_tail _ _ (and_tail _ _ (and_tail _ _ (sym refusal-ordered.zero ∙ eq-eqb _ _ z))))

  pub fit-unrefused : refusal_of c s p t n ≡ 0 → is_loaded c.drive.deck and not (is_fit t) ≡ false
  fit-unrefused z =
      not-true _ (and_tail _ _ (and_tail _ _ (and_tail _ _ (and_tail _ _ (sym refusal-ordered.zero ∙ eq-eqb _ _ z)))))

  -- the packet's table is looked at
  abbrev pub looked : Bool
  looked = eqb (length p) 12 and is_known_state c.drive and not (ltb n bound) and is_in_order c s and is_loaded c.drive.deck

  refusal-unfit : eqb (refusal_of c s p t n) 4 ≡ looked and not (is_fit t)
  refusal-unfit = refusal-ordered.four ∙ sym (simp and_assoc)

  module _ (l : List ℕ) where
    -- the answer's number is that of the refusal, and the rule that beside it, with any list
    pub answer-refusal : Numbered (refusal_of c s p t n) (rule_of c s p t n) (answer c s p t l n)
    answer-refusal =
        rw (reply-kind c s p t l n)
        (meets-numbered (refusal_of c s p t n) t (kind_on p (mechanism_of c s) t l) c.drive.unit (mechanism_of c s))

    pub answer-ordered :
        Ordered (eqb (length p) 12) (is_known_state c.drive) (ltb n bound) (is_in_order c s) (is_loaded c.drive.deck and not (is_fit t))
        (answer c s p t l n).number
    answer-ordered = rw answer-refusal.0 refusal-ordered

    pub answer-beside : Beside (eqb (answer c s p t l n).number 4) (answer c s p t l n).rule
    answer-beside = rw (answer-refusal.0, answer-refusal.1) (rule_with-beside (refusal_of c s p t n) t looked refusal-unfit)

    -- with 4 it is the table's first broken rule
    pub answer-fault : eqb (answer c s p t l n).number 4 ≡ true → (answer c s p t l n).rule ≡ fault t
    unfolding rule_with
    answer-fault h = answer-refusal.1 ∙ when _ _ _ (ap (λ (j : ℕ). eqb j 4) (sym answer-refusal.0) ∙ h)

-- ---- 11

-- "no slots" as the test that is made, and "more than" and "beyond"
none_few : (n : ℕ) → eqb n 0 ≡ not (leb 1 n)
none_few n = elim (dec_le 1 n) [
  | yes h ↦ ne_eqb n 0 (λ e. omega arith) ∙ sym (ap not (le-leb 1 n h))
  | no h ↦ let g = lt_of_not-le h in eq-eqb n 0 (omega arith) ∙ sym (ap not (lt-leb 1 n g))
]

over_many : (n i : ℕ) → ltb i n ≡ not (leb n i)
over_many n i = elim (dec_le n i) [
  | yes h ↦ le-ltb i n h ∙ sym (ap not (le-leb n i h))
  | no h ↦ let g = lt_of_not-le h in lt-ltb i n g ∙ sym (ap not (lt-leb n i g))
]

pub order_not : (c : Changer) (s : List Slot)
    → not (is_in_order c s)
    ≡ eqb (length s) 0
    or ltb 31 (length s)
    or c.drive.deck.tray_open
    or c.drive.deck.disc_in and ((slot_at s c.home).present or leb (length s) c.home)
unfolding is_in_order ◌and◌ ◌or◌
order_not c s =
    rw (none_few (length s), over_many (length s) 31, over_many (length s) c.home)
    (by_tests (leb 1 (length s)) (leb (length s) 31) c.drive.deck.tray_open c.drive.deck.disc_in (leb (length s) c.home)
    (slot_at s c.home).present)
  where
    by_tests : (some few tray disc beyond present : Bool)
        → not (some and few and not tray and (not disc or not beyond and not present))
        ≡ not some or not few or tray or disc and (present or beyond)
    by_tests false few tray disc beyond present = refl
    by_tests true false tray disc beyond present = refl
    by_tests true true true disc beyond present = refl
    by_tests true true false false beyond present = refl
    by_tests true true false true true true = refl
    by_tests true true false true true false = refl
    by_tests true true false true false true = refl
    by_tests true true false true false false = refl

-- ---- a refused packet

-- what is handed back of it
abbrev refused_by : ℕ → ℕ → Changer → Outcome Changer
refused_by n rule c = record { number = n; rule = rule; status = 0; len = 0; start = 0; count = 0; state = c }

abbrev Unchanged : Changer → List Slot → List ℕ → Reply Mechanism → Type 0
Unchanged c s m r =
    (r.number ≡ 0 → ⊥)
    → (outcome_of r ≡ refused_by r.number r.rule c)
    × (r.deck.slots ≡ s)
    × (fill m (bytes_of r) ≡ m)

meets_unchanged : (j : ℕ) (t : List ℕ) (k : Kind Mechanism) (c : Changer) (s : List Slot) (m : List ℕ)
    → Unchanged c s m (meets j (rule_with j t) k c.drive.unit (mechanism_of c s))
meets_unchanged zero t k c s m n = absurd (n (meets-numbered 0 t k c.drive.unit (mechanism_of c s)).0)
meets_unchanged (suc j) t k c s m n = (refl, refl, fill_none m)

pub answer_unchanged : (c : Changer) (s : List Slot) (p t l m : List ℕ) (n : ℕ) → Unchanged c s m (answer c s p t l n)
answer_unchanged c s p t l m n =
    rw (reply-kind c s p t l n) (meets_unchanged (refusal_of c s p t n) t (kind_on p (mechanism_of c s) t l) c s m)

-- of whatever meets the promise
pub answered_unchanged : (c : Changer) (s : List Slot) (p t l m : List ℕ) {r : Outcome Changer} {m' : List ℕ} {s' : List Slot}
    → Answered (answer c s p t l (length m)) m r m' s'
    → (r.number ≡ 0 → ⊥)
    → (r ≡ refused_by r.number r.rule c) × (m' ≡ m) × (s' ≡ s)
answered_unchanged c s p t l m a n =
    let e = a.outcome in
    let u = answer_unchanged c s p t l m (length m) (λ z. n (ap (λ (o : Outcome Changer). o.number) e ∙ z)) in
    (e ∙ u.0 ∙ ap (λ (o : Outcome Changer). refused_by o.number o.rule c) (sym e), a.memory ∙ u.2, a.slots ∙ u.1)

-- ---- K2's outside call

pub moves-tested : (c : Changer) (k : ℕ) → TestedAlone (is_known_state c.drive) (moves_on k c).number
unfolding moves_on
moves-tested c k = move-tested c.drive k

pub moves_unchanged : (c : Changer) (k : ℕ) → ((moves_on k c).number ≡ 0 → ⊥) → (moves_on k c).state ≡ c
unfolding moves_on
moves_unchanged c k n = ap (with_drive c) (move_on-refused c.drive k n)
