-- How the code's outcomes meet an answer.
use Rattle.std.specs.Prelude.{ℕ, ◌≤◌, ◌<◌, min, ◌≡◌, Bool, Option, None, List, ◌++◌, length, take, drop, eqb, ltb}
use Rattle.std.proofs.Math.Path.{refl, sym, ap}
use Rattle.std.proofs.Common.{◌∙◌, lt_of_not-le, length-take, drop_of_length-le, take_all, eq-eqb, ne_eqb, lt-ltb, le-ltb, ltb-true, leb-true}
use Rattle.std.proofs.Math.Bool.{true, false, not}
use Rattle.std.proofs.lemmas.Bool.{false≢true, lt-leb}
use Rattle.std.proofs.Math.Decide.{dec_le}
use native.Mathlib.Omega.{arith}
use Rattle.ground.specs.Tests.{◌and◌, choose◌then◌else◌, when, unless, and_head, and_tail, and_both, and_off, and_late, or_else}
use Rattle.ground.specs.Memory.{fill, fill_none}
use Rattle.attention.specs.declared.Unit.{Unit}
use Rattle.deck.specs.declared.Deck.{Deck}
use Rattle.deck.specs.Deck.{is_loaded}
use Rattle.drive.specs.declared.state.Drive.{Drive}
use Rattle.drive.specs.State.{is_known_state, unknown_state}
use Rattle.table.specs.Layout.{bound}
use Rattle.disc.specs.Rules.{fault, is_fit}
use Rattle.disc.specs.Part.{unfit, rule_with}
use Rattle.disc.specs.PartLaws.{rule_with-none, rule_with-fault}
use Rattle.gate.specs.declared.fault.Fault.TheVariants.{BadField}
use Rattle.gate.specs.declared.unit.Pending.{Pending}
use Rattle.gate.specs.Unit.{clear, pending_of, attention_sense, told}
use Rattle.gate.specs.Gate.{Result, fails, goes, Reply, refuse, settle, gate}
use Rattle.gate.specs.GateLaws.{gate-tells, gate-settles}
use Rattle.command.specs.Command.{code_of}
use Rattle.command.specs.Done.{done_of}
use Rattle.outcome.specs.declared.Outcome.{Outcome}
use Rattle.outcome.specs.Outcome as drive
use Rattle.outcome.specs.Outcome.{with_state, refused, checked, finished}
use Rattle.target.specs.Perform.{written}
use Rattle.target.specs.Packet.{not_twelve, short_memory}
use Rattle.target.specs.Packet as target
use Rattle.target.specs.PacketLaws.{answer-4, answer-steps}
use Rattle.changer.specs.declared.Slot.{Slot}
use Rattle.changer.specs.declared.Changer.{Changer}
use Rattle.changer.specs.declared.Moves.{Moves}
use Rattle.changer.specs.declared.Met.{Met}
use Rattle.changer.specs.declared.Lent.{Lent}
use Rattle.changer.specs.declared.load.Act.{Act}
use Rattle.changer.specs.Slot.{most}
use Rattle.changer.specs.Mechanism.{Mechanism, lo_unlo, starts, named_slot, load_unload}
use Rattle.changer.specs.Status.{status_length, mechanism_status}
use Rattle.changer.specs.MechanismLaws.{deck_of, after, Homed, ActedOn}
use Rattle.changer.specs.Changer.{out_of_order, has_home, is_in_order}
use Rattle.changer.specs.Moves.{settled, Within, staying, within-staying, within-more, settled_still}
use Rattle.changer.specs.SlotLaws.{room}
use Rattle.changer.specs.ChangerPacket.{mechanism_of, is_own, own, carried, steps, refusal_of, answer, outcome_of, bytes_of, Answered, AnsweredOn}

-- what is handed back and the memory are what the answer says, and what becomes of the slots s makes them the answer's; where it is refused
-- nothing becomes of them
pub record AnsweredBy (a : Reply Mechanism) (s : List Slot) (m : List ℕ) (d : Met) (m' : List ℕ) : Type 0 where
  pub outcome : d.outcome ≡ outcome_of a
  pub memory : m' ≡ fill m (bytes_of a)
  pub slots : settled s d.moves ≡ a.deck.slots
  pub within : Within d.moves (length s)
  pub still : (a.number ≡ 0 → ⊥) → d.moves ≡ None

-- none of 1, 2, 3 and 11
pub record Passed (c : Changer) (s : List Slot) (p : List ℕ) (n : ℕ) : Type 0 where
  pub twelve : length p ≡ 12
  pub known : is_known_state c.drive ≡ true
  pub room : bound ≤ n
  pub order : is_in_order c s ≡ true

abbrev pub refused_with : ℕ → ℕ → Changer → Met
refused_with n r c = record { outcome = refused n r c; moves = staying }

-- what the drive hands back, with the home and what becomes of the slots
abbrev pub outcome_with : Outcome Drive → ℕ → Option Moves → Met
outcome_with o home moves = record { outcome = with_state o (record { drive = o.state; home = home }); moves = moves }

-- ---- the changer's own packets

module _ (p : List ℕ) (m : Mechanism) where
  pub own-load : code_of p ≡ 0xA6 → own p m ≡ load_unload (lo_unlo p) (starts p) (named_slot p) m
  unfolding own
  own-load e = when _ _ _ (eq-eqb _ _ e)

  module _ (a : code_of p ≡ 0xA6 → ⊥) where
    pub own-status : code_of p ≡ 0xBD → own p m ≡ mechanism_status (status_length p) m
    unfolding own
    own-status e = unless _ _ _ (ne_eqb _ _ a) ∙ when _ _ _ (eq-eqb _ _ e)

    pub own-tray : (code_of p ≡ 0xBD → ⊥) → own p m ≡ fails BadField
    unfolding own
    own-tray b = unless _ _ _ (ne_eqb _ _ a) ∙ unless _ _ _ (ne_eqb _ _ b)

-- ---- AnsweredBy

pub answered_by-refused : (k r : ℕ) (c : Changer) (s : List Slot) (b : List ℕ) → AnsweredBy (refuse k r c.drive.unit (mechanism_of c s)) s b (refused_with k r c) b
answered_by-refused k r c s b = record {
  outcome = refl;
  memory = sym (fill_none b);
  slots = settled_still s staying refl;
  within = within-staying (length s);
  still = λ h. refl;
}

-- the drive's own answer, home and slots as they were
pub answered_by-carried : (m : Mechanism) {a : Reply Deck} {o : Outcome Drive} {b b' : List ℕ} → drive.Answered a b o b'
    → AnsweredBy (carried m a) m.slots b (outcome_with o m.home staying) b'
answered_by-carried m {a} x = record {
  outcome = ap (λ (o : Outcome Drive). (outcome_with o m.home staying).outcome) x.outcome;
  memory = x.memory;
  slots = settled_still m.slots staying refl;
  within = within-staying (length m.slots);
  still = λ h. refl;
}

-- an attention is told
pub answered_by-tells : (a : Option Pending) (u : Unit) (m : Mechanism) (r : Result Mechanism) {o : Outcome Drive} (b : List ℕ)
    → pending_of u ≡ a → (a ≡ None → ⊥) → o ≡ checked (attention_sense a) (told a u) m.deck
    → AnsweredBy (gate u m r) m.slots b (outcome_with o m.home staying) b
answered_by-tells a u m r b e n x = rw (gate-tells a u m r e n) (record {
  outcome = ap (λ (o : Outcome Drive). (outcome_with o m.home staying).outcome) x;
  memory = sym (fill_none b);
  slots = settled_still m.slots staying refl;
  within = within-staying (length m.slots);
  still = λ h. refl;
})

-- what is performed is settled
module _ (u : Unit) (m : Mechanism) where
  settled-outcome : (r : Result Mechanism) (x : Option Moves)
      → (outcome_with (finished u (clear u) m.deck (done_of (deck_of r))) (after m r).home x).outcome ≡ outcome_of (settle u m r)
  settled-outcome (fails f) x = refl
  settled-outcome (goes next loading full limit start count) x = refl

  settled-bytes : (r : Result Mechanism) → written (deck_of r) ≡ bytes_of (settle u m r)
  settled-bytes (fails f) = refl
  settled-bytes (goes next loading full limit start count) = refl

  settled-slots : (r : Result Mechanism) → (after m r).slots ≡ (settle u m r).deck.slots
  settled-slots (fails f) = refl
  settled-slots (goes next loading full limit start count) = refl

  settled-number : (r : Result Mechanism) → (settle u m r).number ≡ 0
  settled-number (fails f) = refl
  settled-number (goes next loading full limit start count) = refl

  pub answered_by-settles : (r : Result Mechanism) {a : Act} {o : Outcome Drive} {b b' : List ℕ}
      → pending_of u ≡ None → ActedOn r m b a b' → o ≡ finished u (clear u) m.deck a.done
      → AnsweredBy (gate u m r) m.slots b (outcome_with o a.home a.moves) b'
  answered_by-settles r {a} {o} {b} e x f =
      let y = x.acted in
      let g : o ≡ finished u (clear u) m.deck (done_of (deck_of r)) = f ∙ ap (finished u (clear u) m.deck) y.done in
      rw (gate-settles u m r e) (record {
        outcome =
            ap (λ (z : Outcome Drive). (outcome_with z a.home a.moves).outcome) g
            ∙ ap (λ (h : ℕ). (outcome_with (finished u (clear u) m.deck (done_of (deck_of r))) h a.moves).outcome) y.home
            ∙ settled-outcome r a.moves;
        memory = x.memory ∙ ap (fill b) (settled-bytes r);
        slots = y.slots ∙ settled-slots r;
        within = y.within;
        still = λ n. absurd (n (settled-number r));
      })

-- ---- the refusals in order

module _ (c : Changer) (s : List Slot) (p t l : List ℕ) (n : ℕ) where
  abbrev Refused : ℕ → ℕ → Type 0
  Refused k r = answer c s p t l n ≡ refuse k r c.drive.unit (mechanism_of c s)

  -- by k with the rule r beside it, and with none
  refused-by : (k : ℕ) {r : ℕ} → refusal_of c s p t n ≡ k → (k ≡ 0 → ⊥) → r ≡ rule_with k t → Refused k r
  unfolding answer
  refused-by k e z h =
      unless _ _ _ (ne_eqb _ 0 (λ w. z (sym e ∙ w)))
      ∙ ap (λ (x : ℕ). refuse x (rule_with x t) c.drive.unit (mechanism_of c s)) e
      ∙ ap (λ (x : ℕ). refuse k x c.drive.unit (mechanism_of c s)) (sym h)

  refused-plainly : (k : ℕ) → refusal_of c s p t n ≡ k → (k ≡ 0 → ⊥) → (k ≡ unfit → ⊥) → Refused k 0
  refused-plainly k e z w = refused-by k e z (rule_with-none k t w)

  pub changer-1 : (length p ≡ 12 → ⊥) → Refused not_twelve 0
  unfolding refusal_of
  changer-1 h = refused-plainly not_twelve (when _ _ _ (ap not (ne_eqb _ _ h))) (λ z. omega arith) (λ z. omega arith)

  module _ (a : length p ≡ 12) where
    pub changer-2 : is_known_state c.drive ≡ false → Refused unknown_state 0
    unfolding refusal_of
    changer-2 h =
        refused-plainly unknown_state (unless _ _ _ (ap not (eq-eqb _ _ a)) ∙ when _ _ _ (ap not h)) (λ z. omega arith) (λ z. omega arith)

    module _ (b : is_known_state c.drive ≡ true) where
      pub changer-3 : n < bound → Refused short_memory 0
      unfolding refusal_of
      changer-3 h =
          refused-plainly short_memory (unless _ _ _ (ap not (eq-eqb _ _ a)) ∙ unless _ _ _ (ap not b) ∙ when _ _ _ (lt-ltb _ _ h))
          (λ z. omega arith) (λ z. omega arith)

      pub changer-11 : bound ≤ n → is_in_order c s ≡ false → Refused out_of_order 0
      unfolding refusal_of
      changer-11 h k =
          refused-plainly out_of_order
          (unless _ _ _ (ap not (eq-eqb _ _ a)) ∙ unless _ _ _ (ap not b) ∙ unless _ _ _ (le-ltb _ _ h) ∙ when _ _ _ (ap not k))
          (λ z. omega arith) (λ z. omega arith)

  -- past 1, 2, 3 and 11
  module _ (x : Passed c s p n) where
    refusal_of-passed : refusal_of c s p t n ≡ (choose is_loaded c.drive.deck and not (is_fit t) then unfit else 0)
    unfolding refusal_of
    refusal_of-passed =
        unless _ _ _ (ap not (eq-eqb _ _ x.twelve))
        ∙ unless _ _ _ (ap not x.known)
        ∙ unless _ _ _ (le-ltb _ _ x.room)
        ∙ unless _ _ _ (ap not x.order)

    pub changer-4 : is_loaded c.drive.deck ≡ true → is_fit t ≡ false → Refused unfit (fault t)
    changer-4 h k = refused-by unfit (refusal_of-passed ∙ when _ _ _ (and_both _ _ h (ap not k))) (λ z. omega arith) (rule_with-fault t)

    -- none of them: the steps
    pub changer-steps : (is_loaded c.drive.deck ≡ true → is_fit t ≡ true) → answer c s p t l n ≡ steps c.drive.unit (mechanism_of c s) p t l
    unfolding answer
    changer-steps f = when _ _ _ (eq-eqb _ _ (refusal_of-passed ∙ unless _ _ _ (fits (is_loaded c.drive.deck) refl)))
      where
        fits : (b : Bool) → is_loaded c.drive.deck ≡ b → is_loaded c.drive.deck and not (is_fit t) ≡ false
        fits true e = sym (and_late _ _ (sym (ap not (f e))))
        fits false e = sym (and_off _ _ e)

    pub changer-own : is_own p ≡ true → (is_loaded c.drive.deck ≡ true → is_fit t ≡ true)
        → answer c s p t l n ≡ gate c.drive.unit (mechanism_of c s) (own p (mechanism_of c s))
    unfolding steps
    changer-own h f = changer-steps f ∙ when _ _ _ h

    -- any other packet is the drive's
    pub changer-carried : is_own p ≡ false → answer c s p t l n ≡ carried (mechanism_of c s) (target.answer c.drive p t l n)
    unfolding steps
    changer-carried h = by-disc (is_loaded c.drive.deck) refl
      where
        -- the table is fit, or not looked at
        by-steps : (is_loaded c.drive.deck ≡ true → is_fit t ≡ true) → answer c s p t l n ≡ carried (mechanism_of c s) (target.answer c.drive p t l n)
        by-steps f = changer-steps f ∙ unless _ _ _ h ∙ ap (carried (mechanism_of c s)) (sym (answer-steps c.drive p t l n x.twelve x.known x.room f))

        by-fit : is_loaded c.drive.deck ≡ true → (b : Bool) → is_fit t ≡ b → answer c s p t l n ≡ carried (mechanism_of c s) (target.answer c.drive p t l n)
        by-fit e true g = by-steps (λ i. g)
        by-fit e false g = changer-4 e g ∙ ap (carried (mechanism_of c s)) (sym (answer-4 c.drive p t l n x.twelve x.known x.room e g))

        by-disc : (b : Bool) → is_loaded c.drive.deck ≡ b → answer c s p t l n ≡ carried (mechanism_of c s) (target.answer c.drive p t l n)
        by-disc true e = by-fit e (is_fit t) refl
        by-disc false e = by-steps (λ i. absurd (false≢true (sym e ∙ i)))

-- ---- refusal 11

-- a disc in the drive has a home
pub in_order_homed : (c : Changer) (s : List Slot) → is_in_order c s ≡ true → Homed (mechanism_of c s)
unfolding is_in_order
in_order_homed c s h d =
    let o = and_tail _ _ (and_tail _ _ (and_tail _ _ h)) in
    ltb-true _ _ (and_head _ _ (sym (or_else _ (has_home c.home s) (ap not d)) ∙ o))

-- more than 31 slots
pub in_order_many : (c : Changer) (s : List Slot) → most < length s → is_in_order c s ≡ false
unfolding is_in_order
in_order_many c s h = sym (and_late _ _ (and_off _ _ (lt-leb _ _ h)))

-- there are no more than 31 slots
pub in_order_most : (c : Changer) (s : List Slot) → is_in_order c s ≡ true → length s ≤ most
unfolding is_in_order
in_order_most c s h = leb-true _ _ (and_head _ _ (and_tail _ _ h))

-- ---- the slots that are lent

-- the first 32 decide the refusal as all of them do
module _ (c : Changer) (p t l : List ℕ) (n : ℕ) where
  refusal_of-many : (s : List Slot) → most < length s
      → refusal_of c s p t n ≡ (choose not (eqb (length p) 12) then not_twelve else (choose not (is_known_state c.drive) then unknown_state else (choose ltb n bound then short_memory else out_of_order)))
  unfolding refusal_of
  refusal_of-many s h = rw (in_order_many c s h, when {A = ℕ} true out_of_order (choose is_loaded c.drive.deck and not (is_fit t) then unfit else 0) refl) refl

  refusal_of-refused : (s : List Slot) → most < length s → refusal_of c s p t n ≡ 0 → ⊥
  unfolding choose◌then◌else◌
  refusal_of-refused s h e = go (not (eqb (length p) 12)) (not (is_known_state c.drive)) (ltb n bound) (sym (refusal_of-many s h) ∙ e)
    where
      go : (x y z : Bool) → (choose x then not_twelve else (choose y then unknown_state else (choose z then short_memory else out_of_order))) ≡ 0 → ⊥
      go true y z w = omega arith
      go false true z w = omega arith
      go false false true w = omega arith
      go false false false w = omega arith

  refused-many : (s : List Slot) → most < length s
      → answer c s p t l n ≡ refuse (refusal_of c s p t n) (rule_with (refusal_of c s p t n) t) c.drive.unit (mechanism_of c s)
  unfolding answer
  refused-many s h = unless _ _ _ (ne_eqb _ 0 (refusal_of-refused s h))

-- what the first 32 come to is what the lent slots come to: they are the same, or too many
module _ (c : Changer) (ys : List Slot) (p t l m : List ℕ) where
  pub edge-within : {d : Met} {m' : List ℕ} → AnsweredBy (answer c (take room ys) p t l (length m)) (take room ys) m d m' → Within d.moves (length ys)
  edge-within {d} x =
      let e = length-take room ys in within-more d.moves {n = length (take room ys)} {k = length ys} (omega arith) x.within

  pub edge-answered : {d : Met} {m' : List ℕ} {s' : List Slot} → AnsweredBy (answer c (take room ys) p t l (length m)) (take room ys) m d m'
      → s' ≡ settled ys d.moves → Answered (answer c ys p t l (length m)) m d.outcome m' s'
  edge-answered {d} {m'} {s'} x e = elim (dec_le (length ys) room) [
    | yes h ↦ same (take_all room ys h)
    | no h ↦ many (lt_of_not-le h)
  ]
    where
      same : take room ys ≡ ys → Answered (answer c ys p t l (length m)) m d.outcome m' s'
      same q =
          let y : AnsweredBy (answer c ys p t l (length m)) ys m d m' = rw q at x in
          record { outcome = y.outcome; memory = y.memory; slots = e ∙ y.slots }

      -- the refusal k, of the slots that are lent
      told : ℕ → Reply Mechanism
      told k = refuse k (rule_with k t) c.drive.unit (mechanism_of c ys)

      many : room < length ys → Answered (answer c ys p t l (length m)) m d.outcome m' s'
      many g =
          let n = length m in
          let f : most < length (take room ys) = let w = length-take room ys in omega arith in
          let g' : most < length ys = omega arith in
          let k : refusal_of c (take room ys) p t n ≡ refusal_of c ys p t n = refusal_of-many c p t l n (take room ys) f ∙ sym (refusal_of-many c p t l n ys g') in
          let a = refused-many c p t l n (take room ys) f in
          let b = refused-many c p t l n ys g' in
          let z : d.moves ≡ None = x.still (λ w. refusal_of-refused c p t l n (take room ys) f (sym (ap (λ (r : Reply Mechanism). r.number) a) ∙ w)) in
          record {
            outcome = x.outcome ∙ ap outcome_of a ∙ ap (λ (j : ℕ). outcome_of (told j)) k ∙ sym (ap outcome_of b);
            memory = x.memory ∙ ap (λ (r : Reply Mechanism). fill m (bytes_of r)) a ∙ sym (ap (λ (r : Reply Mechanism). fill m (bytes_of r)) b);
            slots = e ∙ settled_still ys d.moves z ∙ sym (ap (λ (r : Reply Mechanism). r.deck.slots) b);
          }

-- ---- the first slots of an array

-- the first k are lent, and come back before the others
pub answered_on-first : (c : Changer) (s : List Slot) (k : ℕ) (p t l m : List ℕ) {o : Outcome Changer} {m' : List ℕ} {s' : List Slot}
    → Answered (answer c (take k s) p t l (length m)) m o m' s' → AnsweredOn c s k p t l m (record { slots = s' ++ drop k s; outcome = o }) m'
answered_on-first c s k p t l m x =
    record { outcome = x.outcome; memory = x.memory; slots = ap (λ (z : List Slot). z ++ drop k s) x.slots }

-- where there are no more than b, the smaller of n and b of them are the first n
module _ {A : Type 0} (s : List A) (n b : ℕ) (h : length s ≤ b) where
  take-smaller : take (min n b) s ≡ take n s
  take-smaller = elim (dec_le n b) [
    | yes w ↦ let e : min n b ≡ n = omega arith in ap (λ (k : ℕ). take k s) e
    | no w ↦ let v = lt_of_not-le w in take_all (min n b) s (omega arith) ∙ sym (take_all n s (omega arith))
  ]

  drop-smaller : drop (min n b) s ≡ drop n s
  drop-smaller = elim (dec_le n b) [
    | yes w ↦ let e : min n b ≡ n = omega arith in ap (λ (k : ℕ). drop k s) e
    | no w ↦ let v = lt_of_not-le w in drop_of_length-le s {i = min n b} (omega arith) ∙ sym (drop_of_length-le s {i = n} (omega arith))
  ]

pub answered_on_smaller : (c : Changer) (s : List Slot) (n b : ℕ) (p t l m : List ℕ) {r : Lent} {m' : List ℕ} → length s ≤ b → AnsweredOn c s (min n b) p t l m r m' → AnsweredOn c s n p t l m r m'
answered_on_smaller c s n b p t l m h x =
    let e = take-smaller s n b h in
    let told : List Slot → Reply Mechanism = λ z. answer c z p t l (length m) in
    record {
      outcome = x.outcome ∙ ap (λ (z : List Slot). outcome_of (told z)) e;
      memory = x.memory ∙ ap (λ (z : List Slot). fill m (bytes_of (told z))) e;
      slots = x.slots ∙ ap (λ (z : List Slot). (told z).deck.slots ++ drop (min n b) s) e ∙ ap (λ (z : List Slot). (told (take n s)).deck.slots ++ z) (drop-smaller s n b h);
    }
