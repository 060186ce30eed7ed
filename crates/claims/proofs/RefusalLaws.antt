-- Which number a call gives, which rule stands beside it, and what a refused call leaves.
use Rattle.std.specs.Prelude.{◌≡◌, Bool, List, [], length, ltb, leb}
use Rattle.std.proofs.Math.Path.{refl, sym, ap}
use Rattle.std.proofs.Common.{◌∙◌, lt_of_not-le, eq-eqb, ne_eqb, le-leb, le-ltb, lt-ltb}
use Rattle.std.proofs.Math.Bool.{true, false, not}
use Rattle.std.proofs.lemmas.Bool.{false≢true}
use Prim.Native.Nat.{ℕ, zero, suc, ◌≤◌, ◌<◌}
use native.Mathlib.Omega.{arith}
use Rattle.std.proofs.Math.Decide.{dec_le}
use Rattle.std.proofs.Math.Dec.{eqb, eqb-suc-zero}
use Rattle.ground.specs.Tests.{◌and◌, ◌or◌, choose◌then◌else◌, unless, either, and_tail, and_both, and_assoc}
use Rattle.ground.specs.Memory.{fill_none}
use Rattle.attention.specs.declared.Unit.{Unit}
use Rattle.deck.specs.declared.Deck.{Deck}
use Rattle.drive.specs.declared.state.Drive.{Drive}
use Rattle.drive.specs.declared.state.Moved.{Moved}
use Rattle.attention.specs.declared.sense.Sense.{Sense}
use Rattle.deck.specs.Deck.{pressed, is_loaded}
use Rattle.drive.specs.State.{locked, is_known_state, noting, button, lay, lift, move_on}
use Rattle.drive.specs.StateLaws.{button-unknown, button-closes, button-locked, button-opens, button-refused, lay-unknown, lay-closed, lay-full, lay-lays, lay-refused, lift-unknown, lift-closed, lift-empty, lift-lifts, lift-refused, move_on-unknown, move_on-moves, move_on-refused}
use Rattle.table.specs.Layout.{bound, last_session}
use Rattle.disc.specs.Rules.{fault, is_fit}
use Rattle.disc.specs.RulesLaws.{fault-first}
use Rattle.disc.specs.Part.{part_refusal, rule_with, part_refused}
use Rattle.disc.specs.PartLaws.{rule_with-none}
use Rattle.address.specs.Address.{MsfAnswer, BlockAnswer, last, address_of, is_msf, block_at, block_refused, to_msf, to_block}
use Rattle.address.specs.Laws.{to_msf-at, to_msf-refused}
use Rattle.gate.specs.Unit.{pending_of}
use Rattle.gate.specs.Gate.{Result, fails, goes, Reply, gate}
use Rattle.outcome.specs.Outcome.{state_of}
use Rattle.target.specs.Packet.{refusal_of, answer as reply_to}
use Rattle.claims.specs.Telling.{Attention, Answer, answer_of, tells_to}
use Rattle.claims.proofs.UnitLaws.{Kind, asks, frees, orders, reply, meets, only_none}
use Rattle.claims.specs.Call.{Call, powering, pressing, laying, lifting, moving_on, packet, memory_of, answer, next, event, is_powering, closed, is_loading, causes, is_request_sense, tells}
use Rattle.claims.specs.MediaEvent.{is_pressed}
use Rattle.claims.proofs.PacketLaws.{closed_still, kind, rule_of, reply-kind}
use Rattle.claims.proofs.DriveDevice.{causes-only}

-- ---- what is not refused has the number 0, and no rule beside it

abbrev pub Numbered : {M : Type 0} → ℕ → ℕ → Reply M → Type 0
Numbered n rule r = (r.number ≡ n) × (r.rule ≡ rule)

gate-numbered : {M : Type 0} (p c : Bool) (h : Sense) (m : M) (r : Result M) →
    let u : Unit = record { power = p; change = c; sense = h } in
    Numbered 0 0 (gate u m r)
unfolding gate pending_of choose◌then◌else◌
gate-numbered true c h m r = (refl, refl)
gate-numbered false true h m r = (refl, refl)
gate-numbered false false h m (fails f) = (refl, refl)
gate-numbered false false h m (goes next loading full limit start count) = (refl, refl)

reply-numbered : {M : Type 0} (k : Kind M) (u : Unit) (m : M) → Numbered 0 0 (reply k u m)
reply-numbered (asks limit) u m = (refl, refl)
reply-numbered (frees (fails f)) u m = (refl, refl)
reply-numbered (frees (goes next loading full limit start count)) u m = (refl, refl)
reply-numbered (orders r) u m = gate-numbered u.power u.change u.sense m r

pub meets-numbered : {M : Type 0} (j : ℕ) (t : List ℕ) (k : Kind M) (u : Unit) (m : M)
    → Numbered j (rule_with j t) (meets j (rule_with j t) k u m)
meets-numbered zero t k u m =
    let r = reply-numbered k u m in
    (r.0, r.1 ∙ rule_with-none 0 t (λ e. omega arith))
meets-numbered (suc j) t k u m = (refl, refl)

-- ---- a refused call

-- a refusal's answer: the number and the rule alone, and the memory as it was
abbrev pub refusing : ℕ → ℕ → List ℕ → Answer
refusing n rule m = record { number = n; rule = rule; status = 0; full = []; limit = 0; start = 0; count = 0; memory = m }

abbrev Unchanged : Drive → List ℕ → Reply Deck → Type 0
Unchanged d m r = (r.number ≡ 0 → ⊥) → (state_of r ≡ d) × (answer_of m r ≡ refusing r.number r.rule m)

meets_unchanged : (j rule : ℕ) (k : Kind Deck) (d : Drive) (m : List ℕ) → Unchanged d m (meets j rule k d.unit d.deck)
meets_unchanged zero rule k d m n = absurd (n (reply-numbered k d.unit d.deck).0)
meets_unchanged (suc j) rule k d m n = (refl, ap (λ (l : List ℕ). refusing (suc j) rule l) (fill_none m))

-- what a refused call leaves of the state: a press under refusal 5 changes the event
abbrev leaves : Call → Drive → Drive
leaves c d = choose is_pressed (event c d) then noting d pressed else d

pub call_unchanged : (c : Call) (d : Drive) → ((answer c d).number ≡ 0 → ⊥)
    → (next c d ≡ leaves c d) × (answer c d ≡ refusing (answer c d).number (answer c d).rule (memory_of c))
unfolding ◌and◌ choose◌then◌else◌
call_unchanged (powering f) d n = absurd (n refl)
call_unchanged pressing d n = (button-refused d n, refl)
call_unchanged laying d n = (lay-refused d n, refl)
call_unchanged lifting d n = (lift-refused d n, refl)
call_unchanged (moving_on k) d n = (move_on-refused d k n, refl)
call_unchanged (packet p t l m) d n =
    let e = meets_unchanged (refusal_of d p t (length m)) (rule_of d p t (length m)) (kind p d.deck t l) d m in
    let u : Unchanged d m (reply_to d p t l (length m)) = rw (reply-kind d p t l (length m)) e in
    u n

-- a refused call is no cause and tells nothing
pub refused_untold : (k : Attention) (b : Bool) (old new : Unit) (a : Answer) → eqb a.number 0 ≡ false → tells_to k b old a new ≡ false
unfolding ◌and◌ ◌or◌
refused_untold k true old new a h = rw h
refused_untold k false old new a h = rw h

refused_unloaded : (c : Call) (d : Drive) → next c d ≡ leaves c d → is_loading (event c d) ≡ false
unfolding ◌and◌
refused_unloaded (powering f) d h = refl
refused_unloaded pressing d h =
    rw h (either (λ (e : Drive). closed d.deck e.deck ≡ false) (eqb (button d).number locked) (λ k. closed_still d.deck) (λ k. closed_still d.deck))
refused_unloaded laying d h = refl
refused_unloaded lifting d h = refl
refused_unloaded (moving_on k) d h = refl
refused_unloaded (packet p t l m) d h = ap (λ (e : Drive). closed d.deck e.deck) (h ∙ unless false _ _ refl) ∙ closed_still d.deck

refused_on : (c : Call) (d : Drive) → ((answer c d).number ≡ 0 → ⊥) → is_powering c ≡ false
refused_on (powering f) d n = absurd (n refl)
refused_on pressing d n = refl
refused_on laying d n = refl
refused_on lifting d n = refl
refused_on (moving_on k) d n = refl
refused_on (packet p t l m) d n = refl

refused-causes : (k : Attention) (c : Call) (d : Drive) → ((answer c d).number ≡ 0 → ⊥) → causes k (event c d) ≡ false
refused-causes k c d n = causes-only k c d (refused_on c d n) ∙ only_none k _ (refused_unloaded c d (call_unchanged c d n).0)

refused-tells : (k : Attention) (c : Call) (d : Drive) → ((answer c d).number ≡ 0 → ⊥) → tells k (event c d) ≡ false
refused-tells k (powering f) d n = refl
refused-tells k pressing d n = refl
refused-tells k laying d n = refl
refused-tells k lifting d n = refl
refused-tells k (moving_on j) d n = refl
refused-tells k (packet p t l m) d n =
    refused_untold k (is_request_sense p) d.unit (next (packet p t l m) d).unit (answer (packet p t l m) d) (ne_eqb (answer (packet p t l m) d).number 0 n)

pub refused_silent : (k : Attention) (c : Call) (d : Drive) → ((answer c d).number ≡ 0 → ⊥) → (causes k (event c d) ≡ false) × (tells k (event c d) ≡ false)
refused_silent k c d n = (refused-causes k c d n, refused-tells k c d n)

-- ---- the rule beside the number

-- the rule is one of 1 to 7 where `four` says that the number is 4, and else 0
pub record Beside (four : Bool) (rule : ℕ) : Type 0 where
  pub one : leb 1 rule and leb rule 7 ≡ four
  pub none : eqb rule 0 ≡ not four

beside_none : (four : Bool) → four ≡ false → Beside four 0
unfolding ◌and◌
beside_none four h = record { one = sym h; none = ap not (sym h) }

-- the number n is 4 where `a` holds and the table is not fit, and the rule is what stands beside n
module _ (n : ℕ) (t : List ℕ) (a : Bool) (four : eqb n 4 ≡ a and not (is_fit t)) where
  pub rule_with-beside : Beside (eqb n 4) (rule_with n t)
  unfolding rule_with is_fit choose◌then◌else◌ ◌and◌
  rule_with-beside = go (eqb n 4) (fault t) four (fault-first t).most
    where
      go : (b : Bool) (f : ℕ) → b ≡ a and not (eqb f 0) → f ≤ 7 → Beside b (choose b then f else 0)
      go false f e l = record { one = refl; none = refl }
      go true zero e l = absurd (false≢true (and_tail a false (sym e)))
      go true (suc f) e l = record {
        one = and_both (leb 1 (suc f)) (leb (suc f) 7) (le-leb 1 (suc f) (omega arith)) (le-leb (suc f) 7 (omega arith));
        none = eqb-suc-zero f;
      }

  -- it is i, one of 1 to 7, where the first broken rule is
  rule_with-broken : (i : ℕ) {b : Bool} → eqb 0 i ≡ false → eqb (fault t) i ≡ b → eqb n 4 and eqb (rule_with n t) i ≡ a and b
  unfolding rule_with is_fit choose◌then◌else◌ ◌and◌
  rule_with-broken i z e = go (eqb n 4) a (fault t) four ∙ ap (λ (x : Bool). a and x) e
    where
      go : (b a : Bool) (f : ℕ) → b ≡ a and not (eqb f 0) → b and eqb (choose b then f else 0) i ≡ a and eqb f i
      go false false f h = refl
      go false true zero h = sym z
      go false true (suc f) h = absurd (false≢true (h ∙ ap not (eqb-suc-zero f)))
      go true false f h = absurd (false≢true (sym h))
      go true true f h = refl

-- ---- the numbers, in the order of their tests

-- n is the number of a packet with those tests
pub record Ordered (twelve known short unfit : Bool) (n : ℕ) : Type 0 where
  pub zero : eqb n 0 ≡ twelve and known and not short and not unfit
  pub one : eqb n 1 ≡ not twelve
  pub two : eqb n 2 ≡ twelve and not known
  pub three : eqb n 3 ≡ twelve and known and short
  pub four : eqb n 4 ≡ twelve and known and not short and unfit
  pub most : n ≤ 4

module _ (d : Drive) (p t : List ℕ) (n : ℕ) where
  pub refusal-ordered : Ordered (eqb (length p) 12) (is_known_state d) (ltb n bound) (is_loaded d.deck and not (is_fit t)) (refusal_of d p t n)
  unfolding refusal_of choose◌then◌else◌ ◌and◌
  refusal-ordered = by_tests (eqb (length p) 12) (is_known_state d) (ltb n bound) (is_loaded d.deck and not (is_fit t))
    where
      by_tests : (twelve known short unfit : Bool)
          → Ordered twelve known short unfit (choose not twelve then 1 else (choose not known then 2 else (choose short then 3 else (choose unfit then 4 else 0))))
      by_tests false known short unfit = record { zero = refl; one = refl; two = refl; three = refl; four = refl; most = omega arith }
      by_tests true false short unfit = record { zero = refl; one = refl; two = refl; three = refl; four = refl; most = omega arith }
      by_tests true true true unfit = record { zero = refl; one = refl; two = refl; three = refl; four = refl; most = omega arith }
      by_tests true true false true = record { zero = refl; one = refl; two = refl; three = refl; four = refl; most = omega arith }
      by_tests true true false false = record { zero = refl; one = refl; two = refl; three = refl; four = refl; most = omega arith }

  -- the packet's table is looked at
  abbrev looked : Bool
  looked = eqb (length p) 12 and is_known_state d and not (ltb n bound) and is_loaded d.deck

  refusal-unfit : eqb (refusal_of d p t n) 4 ≡ looked and not (is_fit t)
  refusal-unfit = refusal-ordered.four ∙ sym (simp and_assoc)

  module _ (l : List ℕ) where
    -- the answer's number is that of the refusal, and the rule that beside it, with any list
    reply-refusal : Numbered (refusal_of d p t n) (rule_of d p t n) (reply_to d p t l n)
    reply-refusal = rw (reply-kind d p t l n) (meets-numbered (refusal_of d p t n) t (kind p d.deck t l) d.unit d.deck)

    pub reply-ordered : Ordered (eqb (length p) 12) (is_known_state d) (ltb n bound) (is_loaded d.deck and not (is_fit t)) (reply_to d p t l n).number
    reply-ordered = rw reply-refusal.0 refusal-ordered

    pub reply-beside : Beside (eqb (reply_to d p t l n).number 4) (reply_to d p t l n).rule
    reply-beside = rw (reply-refusal.0, reply-refusal.1) (rule_with-beside (refusal_of d p t n) t looked refusal-unfit)

    pub reply-broken : (i : ℕ) {b : Bool} → eqb 0 i ≡ false → eqb (fault t) i ≡ b
        → eqb (reply_to d p t l n).number 4 and eqb (reply_to d p t l n).rule i ≡ looked and b
    reply-broken i z e = rw (reply-refusal.0, reply-refusal.1) (rule_with-broken (refusal_of d p t n) t looked refusal-unfit i z e)

-- ---- the other calls

-- n is the number of a call that tests 2 and then whether it can be done: 2, its own or 0, and so never 4
pub record Tested (known able : Bool) (own n : ℕ) : Type 0 where
  pub zero : eqb n 0 ≡ known and able
  pub two : eqb n 2 ≡ not known
  pub next : eqb n own ≡ known and not able
  pub four : eqb n 4 ≡ false

abbrev number_for : Bool → Bool → ℕ → ℕ
number_for false able own = 2
number_for true true own = 0
number_for true false own = own

number-tested : (known able : Bool) (own : ℕ) → 4 < own → Tested known able own (number_for known able own)
unfolding ◌and◌
number-tested false able own h = record { zero = refl; two = refl; next = ne_eqb 2 own (λ e. omega arith); four = refl }
number-tested true true own h = record { zero = refl; two = refl; next = ne_eqb 0 own (λ e. omega arith); four = refl }
number-tested true false own h = record {
  zero = ne_eqb own 0 (λ e. omega arith);
  two = ne_eqb own 2 (λ e. omega arith);
  next = eq-eqb own own refl;
  four = ne_eqb own 4 (λ e. omega arith);
}

abbrev number_in : Moved → ℕ
number_in r = r.number

abbrev number_of : BlockAnswer → ℕ
number_of r = r.number

neither : (t l : Bool) → not (t or not l) ≡ not t and l
unfolding ◌or◌ ◌and◌
neither true l = refl
neither false true = refl
neither false false = refl

module _ (d : Drive) where
  press-number : (k t l : Bool) → is_known_state d ≡ k → d.deck.tray_open ≡ t → d.deck.lock ≡ l
      → (button d).number ≡ number_for k (t or not l) 5
  unfolding ◌or◌
  press-number false t l h i j = ap number_in (button-unknown d h)
  press-number true true l h i j = ap number_in (button-closes d h i)
  press-number true false true h i j = ap number_in (button-locked d h i j)
  press-number true false false h i j = ap number_in (button-opens d h i j)

  lay-number : (k t i : Bool) → is_known_state d ≡ k → d.deck.tray_open ≡ t → d.deck.disc_in ≡ i
      → (lay d).number ≡ number_for k (t and not i) 6
  unfolding ◌and◌
  lay-number false t i h j l = ap number_in (lay-unknown d h)
  lay-number true false i h j l = ap number_in (lay-closed d h j)
  lay-number true true true h j l = ap number_in (lay-full d h j l)
  lay-number true true false h j l = ap number_in (lay-lays d h j l)

  lift-number : (k t i : Bool) → is_known_state d ≡ k → d.deck.tray_open ≡ t → d.deck.disc_in ≡ i
      → (lift d).number ≡ number_for k (t and i) 7
  unfolding ◌and◌
  lift-number false t i h j l = ap number_in (lift-unknown d h)
  lift-number true false i h j l = ap number_in (lift-closed d h j)
  lift-number true true true h j l = ap number_in (lift-lifts d h j l)
  lift-number true true false h j l = ap number_in (lift-empty d h j l)

  pub press-tested : Tested (is_known_state d) (d.deck.tray_open or not d.deck.lock) 5 (button d).number
  press-tested = rw (press-number _ _ _ refl refl refl) (number-tested _ _ 5 (omega arith))

  -- a closed tray that is locked
  pub press-locked : eqb (button d).number 5 ≡ is_known_state d and not d.deck.tray_open and d.deck.lock
  press-locked = press-tested.next ∙ ap (λ (b : Bool). is_known_state d and b) (neither d.deck.tray_open d.deck.lock)

  pub lay-tested : Tested (is_known_state d) (d.deck.tray_open and not d.deck.disc_in) 6 (lay d).number
  lay-tested = rw (lay-number _ _ _ refl refl refl) (number-tested _ _ 6 (omega arith))

  pub lift-tested : Tested (is_known_state d) (d.deck.tray_open and d.deck.disc_in) 7 (lift d).number
  lift-tested = rw (lift-number _ _ _ refl refl refl) (number-tested _ _ 7 (omega arith))

-- n is the number of a call that tests 2 alone
pub record TestedAlone (known : Bool) (n : ℕ) : Type 0 where
  pub zero : eqb n 0 ≡ known
  pub two : eqb n 2 ≡ not known
  pub four : eqb n 4 ≡ false

pub move-tested : (d : Drive) (k : ℕ) → TestedAlone (is_known_state d) (move_on k d).number
move-tested d k = go (is_known_state d) refl
  where
    go : (b : Bool) → is_known_state d ≡ b → TestedAlone b (move_on k d).number
    go true h = rw (move_on-moves d h k) (record { zero = refl; two = refl; four = refl })
    go false h = rw (move_on-unknown d k h) (record { zero = refl; two = refl; four = refl })

-- the rule of every call
pub call_beside : (c : Call) (d : Drive) → Beside (eqb (answer c d).number 4) (answer c d).rule
call_beside (powering f) d = beside_none _ refl
call_beside pressing d = beside_none _ (press-tested d).four
call_beside laying d = beside_none _ (lay-tested d).four
call_beside lifting d = beside_none _ (lift-tested d).four
call_beside (moving_on k) d = beside_none _ (move-tested d k).four
call_beside (packet p t l m) d = reply-beside d p t (length m) l

-- ---- the session part and the addresses

-- n is the number of a session part: 4 before 10
pub record Parted (fit there : Bool) (n : ℕ) : Type 0 where
  pub zero : eqb n 0 ≡ fit and there
  pub four : eqb n 4 ≡ not fit
  pub ten : eqb n 10 ≡ fit and not there

pub part_parted : (t : List ℕ) (k : ℕ) → Parted (is_fit t) (leb 1 k and leb k (last_session t)) (part_refused t k).number
unfolding part_refused part_refusal choose◌then◌else◌ ◌and◌
part_parted t k = go (is_fit t) (leb 1 k and leb k (last_session t))
  where
    go : (fit there : Bool) → Parted fit there (choose fit then (choose there then 0 else 10) else 4)
    go false there = record { zero = refl; four = refl; ten = refl }
    go true true = record { zero = refl; four = refl; ten = refl }
    go true false = record { zero = refl; four = refl; ten = refl }

pub part_beside : (t : List ℕ) (k : ℕ) → Beside (eqb (part_refused t k).number 4) (part_refused t k).rule
unfolding part_refused ◌and◌
part_beside t k = rule_with-beside (part_refusal t k) t true (part_parted t k).four

pub part_broken : (t : List ℕ) (k i : ℕ) {b : Bool} → eqb 0 i ≡ false → eqb (fault t) i ≡ b
    → eqb (part_refused t k).number 4 and eqb (part_refused t k).rule i ≡ b
unfolding part_refused ◌and◌
part_broken t k i z e = rule_with-broken (part_refusal t k) t true (part_parted t k).four i z e

pub to_msf_number : (a : ℕ) → eqb (to_msf a).number 8 ≡ ltb last a
to_msf_number a = elim (dec_le a last) [
  | yes h ↦ ap eight (to_msf-at a h) ∙ sym (le-ltb last a h)
  | no h ↦ ap eight (to_msf-refused a (lt_of_not-le h)) ∙ sym (lt-ltb last a (lt_of_not-le h))
]
  where
    eight : MsfAnswer → Bool
    eight r = eqb r.number 8

pub to_block_number : (m s f : ℕ) → eqb (to_block m s f).number 8 ≡ not (is_msf m s f)
unfolding to_block choose◌then◌else◌
to_block_number m s f = go (is_msf m s f)
  where
    go : (b : Bool) → eqb (number_of (choose b then block_at (address_of m s f) else block_refused)) 8 ≡ not b
    go true = refl
    go false = refl
