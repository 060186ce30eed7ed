-- The attention unit beside any deck: how each kind of packet turns the attentions, and what it may tell.
use Rattle.std.specs.Prelude.{◌≡◌, Bool, not, List, [], eqb}
use Rattle.std.proofs.Math.Path.{refl}
use Rattle.std.proofs.Common.{sym, ◌∙◌}
use Rattle.std.proofs.Math.Bool.{true, false}
use Rattle.std.proofs.lemmas.Bool.{false≢true}
use Prim.Native.Nat.{ℕ, zero, suc}
use Rattle.std.proofs.Math.Dec.{eqb-suc-zero}
use Rattle.ground.specs.Tests.{◌and◌, ◌or◌, choose◌then◌else◌, when, unless}
use Rattle.attention.specs.declared.sense.Sense.{Sense}
use Rattle.attention.specs.declared.Unit.{Unit}
use Rattle.attention.specs.Sense.{sense_at, no_sense, changed, powered, same_sense}
use Rattle.attention.specs.Unit.{attend}
use Rattle.gate.specs.declared.fault.Fault.{Fault}
use Rattle.gate.specs.declared.fault.Fault.TheVariants.{NoMediumClosed, NoMediumOpen, UnknownCode, OutOfRange, BadField, RemovalPrevented, IllegalMode, ListLength, ListField, NoSaving}
use Rattle.gate.specs.Fault.{sense_of}
use Rattle.gate.specs.Unit.{hold, pending_of, attention_sense, told, give}
use Rattle.gate.specs.Gate.{Result, fails, goes, Reply, refuse, good, gate, pass, request_sense}
use Rattle.claims.specs.Telling.{Attention, power, change, pending, any_pending, triple_of, answer_of, is_good, tells_to}

-- what a packet comes to, by the steps: REQUEST SENSE, INQUIRY or 4Ah, or any other
pub data Kind (M : Type 0) : Type 0 where
  asks : (limit : ℕ) → Kind M
  frees : Result M → Kind M
  orders : Result M → Kind M

-- of the change attention alone
abbrev pub only : Attention → Bool → Bool
only power b = false
only change b = b

module _ {M : Type 0} where
  abbrev pub is_asking : Kind M → Bool
  is_asking (asks limit) = true
  is_asking (frees r) = false
  is_asking (orders r) = false

  abbrev pub reply : Kind M → Unit → M → Reply M
  reply (asks limit) u m = request_sense limit u m
  reply (frees r) u m = pass u m r
  reply (orders r) u m = gate u m r

  -- the reply, or a refusal with its rule where the number is not 0
  abbrev pub meets : ℕ → ℕ → Kind M → Unit → M → Reply M
  meets zero rule k u m = reply k u m
  meets (suc n) rule k u m = refuse (suc n) rule u m

  -- the deck after a result, and whether it was a loading
  abbrev pub next_of : M → Result M → M
  next_of m (fails f) = m
  next_of m (goes next loading full limit start count) = next

  abbrev pub loading_of : Result M → Bool
  loading_of (fails f) = false
  loading_of (goes next loading full limit start count) = loading

  -- and whether it went well
  abbrev pub is_done : Result M → Bool
  is_done (fails f) = false
  is_done (goes next loading full limit start count) = true

  -- `loads` reads a loading off whether the answer is GOOD and off the deck after it: the packet's result says the same, and where nothing is
  -- done there is none
  abbrev pub Honest : (Bool → M → Bool) → M → Kind M → Type 0
  Honest loads m (asks limit) = (loads true m ≡ false) × (loads false m ≡ false)
  Honest loads m (frees r) = (loads (is_done r) (next_of m r) ≡ loading_of r) × (loads false m ≡ false)
  Honest loads m (orders r) = (loads (is_done r) (next_of m r) ≡ loading_of r) × (loads false m ≡ false)

-- the answer to a packet that is refused by n where n is not 0
pub meets_by : {M : Type 0} (n rule : ℕ) (k : Kind M) (u : Unit) (m : M) {r : Reply M} → r ≡ reply k u m
    → (choose eqb n 0 then r else refuse n rule u m) ≡ meets n rule k u m
meets_by zero rule k u m e = when _ _ _ refl ∙ e
meets_by (suc n) rule k u m e = unless _ _ _ (eqb-suc-zero n)

-- ---- `or` with false, and `only` of false

pub or-none : (b : Bool) → b or false ≡ b
unfolding ◌or◌
or-none true = refl
or-none false = refl

pub only_none : (k : Attention) (b : Bool) → b ≡ false → only k b ≡ false
only_none power b h = refl
only_none change b h = h

-- a fault's key is not the attentions'
fault_key : (f : Fault) → eqb (sense_of f).key 0x06 ≡ false
unfolding sense_at
fault_key NoMediumClosed = refl
fault_key NoMediumOpen = refl
fault_key UnknownCode = refl
fault_key OutOfRange = refl
fault_key BadField = refl
fault_key RemovalPrevented = refl
fault_key IllegalMode = refl
fault_key ListLength = refl
fault_key ListField = refl
fault_key NoSaving = refl

-- so its triple is no attention's
fault_untold : (a : Attention) (f : Fault) → same_sense (sense_of f) (triple_of a) ≡ false
unfolding same_sense ◌and◌
fault_untold power f = rw (fault_key f)
fault_untold change f = rw (fault_key f)

-- what an answer does to the attention, where it told it or not and was a loading or not:
-- pending after is caused by the loading, or was pending and is not told; only what is pending is told; what tells is no loading
pub record Turn (a : Attention) (old : Unit) (tells loads : Bool) (new : Unit) : Type 0 where
  pub turns : pending a new ≡ only a loads or (not tells and pending a old)
  pub due : tells ≡ true → pending a old ≡ true
  pub apart : tells ≡ true → loads ≡ false

-- nothing told, no loading, the attentions as they were
pub unmoved : (a : Attention) (u : Unit) (s : Sense) → Turn a u false false (record { power = u.power; change = u.change; sense = s })
unfolding ◌and◌ ◌or◌
unmoved power u s = record { turns = refl; due = λ h. absurd (false≢true h); apart = λ h. refl }
unmoved change u s = record { turns = refl; due = λ h. absurd (false≢true h); apart = λ h. refl }

-- nothing told, perhaps a loading
pub attended : (a : Attention) (u : Unit) (s : Sense) (b : Bool) → Turn a u false b (attend b (record { power = u.power; change = u.change; sense = s }))
unfolding ◌and◌ ◌or◌ attend choose◌then◌else◌
attended power u s true = record { turns = refl; due = λ h. absurd (false≢true h); apart = λ h. absurd (false≢true h) }
attended power u s false = record { turns = refl; due = λ h. absurd (false≢true h); apart = λ h. refl }
attended change u s true = record { turns = refl; due = λ h. absurd (false≢true h); apart = λ h. absurd (false≢true h) }
attended change u s false = record { turns = refl; due = λ h. absurd (false≢true h); apart = λ h. refl }

-- the pending attention is told, power first, or none is pending
tells_first : (a : Attention) (p c : Bool) (h s : Sense) →
    let u : Unit = record { power = p; change = c; sense = h } in
    Turn a u (same_sense (attention_sense (pending_of u)) (triple_of a)) false
    (record { power = (told (pending_of u) u).power; change = (told (pending_of u) u).change; sense = s })
unfolding ◌and◌ ◌or◌ choose◌then◌else◌ pending_of same_sense sense_at
tells_first power true c h s = record { turns = refl; due = λ q. refl; apart = λ q. refl }
tells_first power false true h s = record { turns = refl; due = λ q. q; apart = λ q. refl }
tells_first power false false h s = record { turns = refl; due = λ q. q; apart = λ q. refl }
tells_first change true c h s = record { turns = refl; due = λ q. absurd (false≢true q); apart = λ q. refl }
tells_first change false true h s = record { turns = refl; due = λ q. refl; apart = λ q. refl }
tells_first change false false h s = record { turns = refl; due = λ q. q; apart = λ q. refl }

-- REQUEST SENSE
give-turn : (a : Attention) (u : Unit) (b : Bool) → same_sense u.sense no_sense ≡ b
    → Turn a u (same_sense u.sense no_sense and same_sense (give u).sense (triple_of a)) false (give u).unit
unfolding ◌and◌ choose◌then◌else◌ give
give-turn a u true e = rw e (tells_first a u.power u.change u.sense no_sense)
give-turn a u false e = rw e (unmoved a u no_sense)

module _ {M : Type 0} (loads : Bool → M → Bool) (a : Attention) (memory : List ℕ) (m : M) where
  -- how the answer r to a packet turns the attention
  abbrev Turns : Bool → Unit → Reply M → Type 0
  Turns asking u r = Turn a u (tells_to a asking u (answer_of memory r) r.unit) (loads (is_good (answer_of memory r)) r.deck) r.unit

  asks-turn : (limit : ℕ) (u : Unit) → loads true m ≡ false → Turns true u (request_sense limit u m)
  unfolding ◌and◌ ◌or◌ sense_at
  asks-turn limit u q = rw q (give-turn a u _ refl)

  -- CHECK CONDITION with a fault's triple
  fails-turn : (f : Fault) (u : Unit) → loads false m ≡ false → Turns false u (pass u m (fails f))
  unfolding ◌and◌ ◌or◌
  fails-turn f u q = rw (q, fault_untold a f) (unmoved a u (sense_of f))

  -- GOOD, the sense left or cleared
  goes-turn : (s : Sense) (u : Unit) (next : M) (loading : Bool) (full : List ℕ) (limit start count : ℕ) → loads true next ≡ loading
      → Turns false u (good full limit start count (attend loading (hold s u)) next)
  unfolding ◌and◌ ◌or◌
  goes-turn s u next loading full limit start count q = rw q (attended a u s loading)

  -- step 2, and the steps after it where nothing is pending
  meet-turn : (p c : Bool) (h : Sense) (r : Result M) → loads (is_done r) (next_of m r) ≡ loading_of r → loads false m ≡ false →
      let u : Unit = record { power = p; change = c; sense = h } in
      Turns false u (gate u m r)
  unfolding ◌and◌ ◌or◌ choose◌then◌else◌ gate pending_of
  meet-turn true c h r q z = rw (z, or-none) (tells_first a true c h powered)
  meet-turn false true h r q z = rw (z, or-none) (tells_first a false true h changed)
  meet-turn false false h (fails f) q z = fails-turn f _ z
  meet-turn false false h (goes next loading full limit start count) q z = goes-turn no_sense _ next loading full limit start count q

  -- each kind of packet, refused or not
  pub meets-turn : (n rule : ℕ) (k : Kind M) (u : Unit) → Honest loads m k → Turns (is_asking k) u (meets n rule k u m)
  unfolding ◌and◌ ◌or◌
  meets-turn zero rule (asks limit) u q = asks-turn limit u q.0
  meets-turn zero rule (frees (fails f)) u q = fails-turn f u q.1
  meets-turn zero rule (frees (goes next loading full limit start count)) u q =
      goes-turn u.sense u next loading full limit start count q.0
  meets-turn zero rule (orders r) u q = meet-turn u.power u.change u.sense r q.0 q.1
  meets-turn (suc n) rule (asks limit) u q = rw (eqb-suc-zero n, q.1) (unmoved a u u.sense)
  meets-turn (suc n) rule (frees r) u q = rw (eqb-suc-zero n, q.1) (unmoved a u u.sense)
  meets-turn (suc n) rule (orders r) u q = rw (eqb-suc-zero n, q.1) (unmoved a u u.sense)

-- ---- while an attention is pending

module _ {M : Type 0} where
  -- what is met by an attention does not depend on what the packet comes to
  meet-blind : (p c : Bool) (h : Sense) (m : M) (r s : Result M) → p or c ≡ true →
      let u : Unit = record { power = p; change = c; sense = h } in
      gate u m r ≡ gate u m s
  unfolding ◌or◌ choose◌then◌else◌ gate pending_of
  meet-blind true c h m r s l = refl
  meet-blind false true h m r s l = refl
  meet-blind false false h m r s l = absurd (false≢true l)

  pub gate-blind : (u : Unit) (m : M) (r s : Result M) → any_pending u ≡ true → gate u m r ≡ gate u m s
  gate-blind u m r s l = meet-blind u.power u.change u.sense m r s l

  -- and is not GOOD
  meet-blocks : (p c : Bool) (h : Sense) (m : M) (r : Result M) (memory : List ℕ) → p or c ≡ true →
      let u : Unit = record { power = p; change = c; sense = h } in
      is_good (answer_of memory (gate u m r)) ≡ false
  unfolding ◌or◌ ◌and◌ choose◌then◌else◌ gate pending_of
  meet-blocks true c h m r memory l = refl
  meet-blocks false true h m r memory l = refl
  meet-blocks false false h m r memory l = absurd (false≢true l)

  pub orders-blocks : (n rule : ℕ) (r : Result M) (u : Unit) (m : M) (memory : List ℕ) → any_pending u ≡ true
      → is_good (answer_of memory (meets n rule (orders r) u m)) ≡ false
  unfolding ◌and◌
  orders-blocks zero rule r u m memory l = meet-blocks u.power u.change u.sense m r memory l
  orders-blocks (suc n) rule r u m memory l = rw (eqb-suc-zero n)

-- one of the two is pending where one of them is
pub any-pending : (a : Attention) (u : Unit) → pending a u ≡ true → any_pending u ≡ true
unfolding ◌or◌
any-pending power u h = rw h
any-pending change u h = either_way u.power
  where
    either_way : (b : Bool) → b or u.change ≡ true
    either_way true = refl
    either_way false = h

-- where neither is pending, each is not
pub none-pending : (a : Attention) (u : Unit) → any_pending u ≡ false → pending a u ≡ false
none-pending a u h = decided (pending a u) refl
  where
    decided : (b : Bool) → pending a u ≡ b → pending a u ≡ false
    decided true e = absurd (false≢true (sym h ∙ any-pending a u e))
    decided false e = e

-- ---- the deck: what holds of it and of what a packet comes to holds of the answer's, be it GOOD or not

module _ {M : Type 0} where
  -- what a packet comes to, of the deck alone, and whether it went well
  abbrev pub comes_to : M → Kind M → M
  comes_to m (asks limit) = m
  comes_to m (frees r) = next_of m r
  comes_to m (orders r) = next_of m r

  abbrev pub comes_well : Kind M → Bool
  comes_well (asks limit) = true
  comes_well (frees r) = is_done r
  comes_well (orders r) = is_done r

  module _ (P : Bool → M → Type 0) (memory : List ℕ) where
    -- P of the answer: whether it is GOOD, and its deck
    abbrev Says : Reply M → Type 0
    Says r = P (is_good (answer_of memory r)) r.deck

    gate-says : (p c : Bool) (h : Sense) (m : M) (r : Result M) → P false m → P (is_done r) (next_of m r) →
        let u : Unit = record { power = p; change = c; sense = h } in
        Says (gate u m r)
    unfolding gate pending_of choose◌then◌else◌ ◌and◌
    gate-says true c h m r a b = a
    gate-says false true h m r a b = a
    gate-says false false h m (fails f) a b = a
    gate-says false false h m (goes next loading full limit start count) a b = b

    reply-says : (k : Kind M) (u : Unit) (m : M) → P false m → P (comes_well k) (comes_to m k) → Says (reply k u m)
    unfolding ◌and◌
    reply-says (asks limit) u m a b = b
    reply-says (frees (fails f)) u m a b = a
    reply-says (frees (goes next loading full limit start count)) u m a b = b
    reply-says (orders r) u m a b = gate-says u.power u.change u.sense m r a b

    -- refused or not
    pub meets-says : (n rule : ℕ) (k : Kind M) (u : Unit) (m : M) → P false m → (n ≡ 0 → P (comes_well k) (comes_to m k)) → Says (meets n rule k u m)
    unfolding ◌and◌
    meets-says zero rule k u m a b = reply-says k u m a (b refl)
    meets-says (suc n) rule k u m a b = rw (eqb-suc-zero n) a

  -- of the deck alone
  pub meets-keeps : (P : M → Type 0) (n rule : ℕ) (k : Kind M) (u : Unit) (m : M) → P m → (n ≡ 0 → P (comes_to m k)) → P (meets n rule k u m).deck
  meets-keeps P = meets-says (λ good. P) []
