-- What a packet leaves of deck, home and slots: as they were, the drive's deck after its own packet, the disc returned, or the named slot's
-- disc taken after that.
use Rattle.std.specs.Prelude.{◌≡◌, refl, Bool, true, false, not, List, [], ◌∷◌, ℕ, zero, suc, ◌+◌, ◌≤◌, ◌<◌, length, set}
use Rattle.std.proofs.Common.{sym, ap, ◌∙◌, arith, length-set, get_or-set_other}
use Rattle.std.proofs.lemmas.Bool.{false≢true}
use borrow.Author.Tests.{ltb-true, leb-true, le-leb, lt-ltb, not-true, not-false, eqb-true}
use Rattle.std.proofs.Math.Dec.{eqb}
use Rattle.ground.specs.Tests.{◌or◌, choose◌then◌else◌, when, unless, either, and_head, and_tail, and_both, or_left, or_right}
use Rattle.attention.specs.declared.sense.Sense.{Sense}
use Rattle.attention.specs.declared.Unit.{Unit}
use Rattle.deck.specs.declared.Deck.{Deck}
use Rattle.gate.specs.declared.fault.Fault.TheVariants.{BadField}
use Rattle.gate.specs.Unit.{pending_of}
use Rattle.gate.specs.Gate.{Result, fails, goes, refuse, gate, settle}
use Rattle.command.specs.declared.decode.Command.{Command}
use Rattle.command.specs.Command.{code_of, decode}
use Rattle.target.specs.Perform.{perform}
use Rattle.target.specs.Packet as drive
use Rattle.disc.specs.Part.{rule_with}
use Rattle.claims.specs.Telling.{any_pending}
use Rattle.claims.proofs.UnitLaws.{Kind, asks, frees, orders, reply, meets, next_of, comes_to, meets-keeps}
use Rattle.claims.proofs.PacketLaws.{Seen, asking, freeing, ordering, seen, kind_of, kind, Does, failing, keeping, closing-it, opening-it, clearing, is_traying, perform_does}
use Rattle.changer.specs.declared.Slot.{Slot}
use Rattle.changer.specs.declared.Changer.{Changer}
use Rattle.changer.specs.Slot.{slot, empty_slot, slot_at, put_back, take_out}
use Rattle.changer.specs.Mechanism.{Mechanism, returned_deck, returned, taken_deck, takes, lo_unlo, starts, named_slot, load_unload}
use Rattle.changer.specs.Status.{status_length, mechanism_status}
use Rattle.changer.specs.Changer.{is_in_order}
use Rattle.changer.specs.ChangerPacket.{mechanism_of, is_load_unload, is_status, is_tray, is_own, own, carried, steps, refusal_of, answer}
use Rattle.changerclaims.specs.ChangerKind.{with_deck, carried_kind, kind_on, rule_of, reply-kind, drive_tray}
use Rattle.changerclaims.specs.ChangerRefusalLaws.{order-unrefused, answer-refusal}
use Rattle.changerclaims.specs.ChangerDiscs.{one, discs_in, discs_of}

-- ---- what refusal 11 asks for

pub record Order (m : Mechanism) : Type 0 where
  pub some : 1 ≤ length m.slots
  pub few : length m.slots ≤ 31
  pub tray : m.deck.tray_open ≡ false
  pub place : m.deck.disc_in ≡ true → m.home < length m.slots
  pub free : m.deck.disc_in ≡ true → (slot_at m.slots m.home).present ≡ false

-- where the first of two holds, so does the second
or_then : (a b : Bool) → not a or b ≡ true → a ≡ true → b ≡ true
unfolding ◌or◌
or_then true b h e = h
or_then false b h e = absurd (false≢true e)

then_or : (a b : Bool) → (a ≡ true → b ≡ true) → not a or b ≡ true
unfolding ◌or◌
then_or true b f = f refl
then_or false b f = refl

pub is_in_order_order : (c : Changer) (s : List Slot) → is_in_order c s ≡ true → Order (mechanism_of c s)
unfolding is_in_order
is_in_order_order c s h =
    let g = and_tail _ _ h in
    let k = and_tail _ _ g in
    let o = or_then _ _ (and_tail _ _ k) in
    record {
      some = leb-true _ _ (and_head _ _ h);
      few = leb-true _ _ (and_head _ _ g);
      tray = not-true _ (and_head _ _ k);
      place = λ d. ltb-true _ _ (and_head _ _ (o d));
      free = λ d. not-true _ (and_tail _ _ (o d));
    }

pub order-is_in_order : (c : Changer) (s : List Slot) → Order (mechanism_of c s) → is_in_order c s ≡ true
unfolding is_in_order
order-is_in_order c s o =
    and_both _ _ (le-leb _ _ o.some) (and_both _ _ (le-leb _ _ o.few) (and_both _ _ (ap not o.tray)
    (then_or _ _ (λ d. and_both _ _ (lt-ltb _ _ (o.place d)) (ap not (o.free d))))))

-- ---- what moves between the slots and the drive

-- the disc of slot i in the drive
abbrev pub taken : ℕ → Mechanism → Mechanism
taken i m = record { deck = taken_deck m.deck; home = i; slots = take_out m.slots i }

-- the drive's disc in its home
abbrev pub back : Mechanism → Mechanism
back m = record { deck = returned_deck m.deck; home = 0; slots = put_back m.slots m.home }

module _ (P : Mechanism → Type 0) (m : Mechanism) where
  pub returned-ways : (m.deck.disc_in ≡ false → P m) → (m.deck.disc_in ≡ true → P (back m)) → P (returned m)
  unfolding returned
  returned-ways f g = either P _ g f

  -- what a packet of the changer's own leaves
  pub own-ways : (p : List ℕ) → P m
      → (is_load_unload p ≡ true → P (returned m))
      → (is_load_unload p ≡ true → named_slot p < length m.slots → (slot_at (returned m).slots (named_slot p)).present ≡ true
      → P (taken (named_slot p) (returned m)))
      → P (next_of m (own p m))
  unfolding own load_unload takes
  own-ways p a b f =
      either Q (is_load_unload p)
      (λ e. either Q _ (λ z. a)
      (λ z. either Q _ (λ z. a)
      (λ i. either Q _ (λ z. a)
      (λ z. either Q _
      (λ z. either Q _ (λ w. f e (ltb-true _ _ (not-false _ i)) w) (λ w. b e))
      (λ z. b e)))))
      (λ z. either Q _ (λ z. a) (λ z. a))
    where
      Q : Result Mechanism → Type 0
      Q r = P (next_of m r)

  -- and any packet
  module _ (p t l : List ℕ) where
    kind-ways :
        (is_own p ≡ false → P (with_deck m (comes_to m.deck (kind p m.deck t l))))
        → P (next_of m (own p m))
        → P (comes_to m (kind_on p m t l))
    kind-ways f g = either (λ (k : Kind Mechanism). P (comes_to m k)) (is_own p) (λ z. g) (λ z. carried-comes (kind p m.deck t l) (f z))
      where
        carried-comes : (k : Kind Deck) → P (with_deck m (comes_to m.deck k)) → P (comes_to m (carried_kind m k))
        carried-comes (asks limit) h = h
        carried-comes (frees (fails f)) h = h
        carried-comes (frees (goes next loading full limit start count)) h = h
        carried-comes (orders (fails f)) h = h
        carried-comes (orders (goes next loading full limit start count)) h = h

-- refused or not
pub answer_ways : (P : Mechanism → Type 0) (c : Changer) (s : List Slot) (p t l : List ℕ) (n : ℕ) →
    let m : Mechanism = mechanism_of c s in
    P m
    → (refusal_of c s p t n ≡ 0 → is_own p ≡ false → P (with_deck m (comes_to m.deck (kind p m.deck t l))))
    → (refusal_of c s p t n ≡ 0 → is_load_unload p ≡ true → P (returned m))
    → (refusal_of c s p t n ≡ 0 → is_load_unload p ≡ true → named_slot p < length s → (slot_at (returned m).slots (named_slot p)).present ≡ true
    → P (taken (named_slot p) (returned m)))
    → P (answer c s p t l n).deck
answer_ways P c s p t l n a f g h =
    rw (reply-kind c s p t l n)
    (meets-keeps P (refusal_of c s p t n) (rule_of c s p t n) (kind_on p (mechanism_of c s) t l) c.drive.unit (mechanism_of c s) a
    (λ z. kind-ways P (mechanism_of c s) p t l (f z) (own-ways P (mechanism_of c s) p a (g z) (h z))))

-- ---- the drive's own packets: the disc stays, and but for 1Bh with LoEj 1 the tray does

does-disc : {trays polls : Bool} {m : Deck} {r : Result Deck} → Does trays polls m r → (next_of m r).disc_in ≡ m.disc_in
does-disc failing = refl
does-disc (keeping s b) = s.disc
does-disc (closing-it w h) = refl
does-disc (opening-it w h) = refl
does-disc (clearing b) = refl

does_tray : {trays polls : Bool} {m : Deck} {r : Result Deck} → trays ≡ false → Does trays polls m r → (next_of m r).tray_open ≡ m.tray_open
does_tray e failing = refl
does_tray e (keeping s b) = s.tray
does_tray e (closing-it w h) = absurd (false≢true (sym e ∙ w))
does_tray e (opening-it w h) = absurd (false≢true (sym e ∙ w))
does_tray e (clearing b) = refl

module _ (p : List ℕ) (m : Deck) (t l : List ℕ) where
  seen-disc : {c : Command} (s : Seen c) → (comes_to m (kind_of s p (perform c p m t l))).disc_in ≡ m.disc_in
  seen-disc asking = refl
  seen-disc (freeing {c} f) = does-disc (perform_does c p m t l)
  seen-disc (ordering {c} n g) = does-disc (perform_does c p m t l)

  seen-tray : {c : Command} (s : Seen c) → is_traying c p ≡ false → (comes_to m (kind_of s p (perform c p m t l))).tray_open ≡ m.tray_open
  seen-tray asking e = refl
  seen-tray (freeing {c} f) e = does_tray e (perform_does c p m t l)
  seen-tray (ordering {c} n g) e = does_tray e (perform_does c p m t l)

  pub kind-disc : (comes_to m (kind p m t l)).disc_in ≡ m.disc_in
  kind-disc = seen-disc (seen (decode (code_of p)))

  pub kind-tray : is_own p ≡ false → (comes_to m (kind p m t l)).tray_open ≡ m.tray_open
  kind-tray h = seen-tray (seen (decode (code_of p))) (drive_tray p h)

-- ---- the discs

discs_in-set : (s : List Slot) (i : ℕ) (x : Slot) → i < length s → discs_in (set s i x) + one (slot_at s i).present ≡ discs_in s + one x.present
unfolding discs_in
discs_in-set [] i x h = absurd (omega arith)
discs_in-set (y ∷ s) zero x h = omega arith
discs_in-set (y ∷ s) (suc i) x h = let e = discs_in-set s i x (omega arith) in omega arith

back-discs : (m : Mechanism) → Order m → m.deck.disc_in ≡ true → discs_of (back m) ≡ discs_of m
unfolding choose◌then◌else◌
back-discs m o d =
    let e = discs_in-set m.slots m.home (slot true (slot_at m.slots m.home).changed) (o.place d) in
    rw d (rw (o.free d) at e)

pub returned-discs : (m : Mechanism) → Order m → discs_of (returned m) ≡ discs_of m
returned-discs m o = returned-ways (λ n. discs_of n ≡ discs_of m) m (λ d. refl) (back-discs m o)

-- the drive is empty then
pub returned_empty : (m : Mechanism) → (returned m).deck.disc_in ≡ false
returned_empty m = returned-ways (λ n. n.deck.disc_in ≡ false) m (λ d. d) (λ d. refl)

pub taken-discs : (i : ℕ) (m : Mechanism) → i < length m.slots → m.deck.disc_in ≡ false → (slot_at m.slots i).present ≡ true
    → discs_of (taken i m) ≡ discs_of m
unfolding choose◌then◌else◌
taken-discs i m h d w =
    let e = discs_in-set m.slots i empty_slot h in
    rw d (rw w at e)

-- ---- the slots

-- as many slots, and each stays that is neither the first nor the second
pub record Others (first second : ℕ → Type 0) (s s' : List Slot) : Type 0 where
  pub count : length s' ≡ length s
  pub stay : (j : ℕ) → (first j → ⊥) → (second j → ⊥) → slot_at s' j ≡ slot_at s j

others-none : {first second : ℕ → Type 0} (s : List Slot) → Others first second s s
others-none s = record { count = refl; stay = λ j a b. refl }

-- slot i, which is one of them, becomes x
others-set : {first second : ℕ → Type 0} (s : List Slot) {s' : List Slot} (i : ℕ) (x : Slot) → Others first second s s'
    → ((j : ℕ) → j ≡ i → (first j → ⊥) → (second j → ⊥) → ⊥)
    → Others first second s (set s' i x)
others-set s {s'} i x o f = record {
  count = length-set s' i x ∙ o.count;
  stay = λ j a b. get_or-set_other s' i j x empty_slot (λ e. f j e a b) ∙ o.stay j a b;
}

module _ (c : Changer) (s : List Slot) (p t l : List ℕ) (n : ℕ) where
  -- the slot that an A6h names, and the home of a disc in the drive
  abbrev pub Named : ℕ → Type 0
  Named j = (is_load_unload p ≡ true) × (j ≡ named_slot p)

  abbrev pub Home : ℕ → Type 0
  Home j = (c.drive.deck.disc_in ≡ true) × (j ≡ c.home)

  pub returned-others : Others Named Home s (returned (mechanism_of c s)).slots
  returned-others =
      returned-ways (λ k. Others Named Home s k.slots) (mechanism_of c s) (λ d. others-none s)
      (λ d. others-set s c.home _ (others-none s) (λ j e a b. b (d, e)))

  pub answer-others : Others Named Home s (answer c s p t l n).deck.slots
  answer-others =
      answer_ways (λ k. Others Named Home s k.slots) c s p t l n (others-none s) (λ z e. others-none s) (λ z e. returned-others)
      (λ z e i w. others-set s (named_slot p) empty_slot returned-others (λ j f a b. a (e, f)))

  -- a packet that is not A6h
  pub answer-slots : is_load_unload p ≡ false → ((answer c s p t l n).deck.slots ≡ s) × ((answer c s p t l n).deck.home ≡ c.home)
  answer-slots h =
      answer_ways (λ k. (k.slots ≡ s) × (k.home ≡ c.home)) c s p t l n (refl, refl) (λ z e. (refl, refl))
      (λ z e. absurd (false≢true (sym h ∙ e))) (λ z e. absurd (false≢true (sym h ∙ e)))

  pub answer-discs : discs_of (answer c s p t l n).deck ≡ discs_of (mechanism_of c s)
  answer-discs =
      let o : refusal_of c s p t n ≡ 0 → Order (mechanism_of c s) = λ z. is_in_order_order c s (order-unrefused c s p t n z) in
      answer_ways (λ k. discs_of k ≡ discs_of (mechanism_of c s)) c s p t l n refl
      (λ z e. ap (λ (b : Bool). discs_in s + one b) (kind-disc p c.drive.deck t l))
      (λ z e. returned-discs (mechanism_of c s) (o z))
      (λ z e i w.
      taken-discs (named_slot p) (returned (mechanism_of c s)) (let k = returned-others.count in omega arith) (returned_empty (mechanism_of c s)) w
      ∙ returned-discs (mechanism_of c s) (o z))

-- ---- a packet of the changer's own, past the refusals and with nothing pending

gate-none : {M : Type 0} (p c : Bool) (h : Sense) (m : M) (r : Result M) → p or c ≡ false →
    let u : Unit = record { power = p; change = c; sense = h } in
    gate u m r ≡ settle u m r
unfolding gate pending_of choose◌then◌else◌ ◌or◌
gate-none true c h m r z = absurd (false≢true (sym z))
gate-none false true h m r z = absurd (false≢true (sym z))
gate-none false false h m r z = refl

pub answer-own : (c : Changer) (s : List Slot) (p t l : List ℕ) (n : ℕ)
    → is_own p ≡ true
    → (answer c s p t l n).number ≡ 0
    → any_pending c.drive.unit ≡ false
    → answer c s p t l n ≡ settle c.drive.unit (mechanism_of c s) (own p (mechanism_of c s))
answer-own c s p t l n h z q =
    reply-kind c s p t l n
    ∙ ap (λ (j : ℕ). meets j (rule_with j t) (kind_on p (mechanism_of c s) t l) c.drive.unit (mechanism_of c s))
    (sym (answer-refusal c s p t n l).0 ∙ z)
    ∙ ap (λ (k : Kind Mechanism). reply k c.drive.unit (mechanism_of c s)) (when _ _ _ h)
    ∙ gate-none c.drive.unit.power c.drive.unit.change c.drive.unit.sense (mechanism_of c s) (own p (mechanism_of c s)) q

-- what each of the three comes to: their codes differ
module _ (p : List ℕ) (m : Mechanism) where
  pub own-load : is_load_unload p ≡ true → own p m ≡ load_unload (lo_unlo p) (starts p) (named_slot p) m
  unfolding own
  own-load h = when _ _ _ h

  pub own-status : is_status p ≡ true → own p m ≡ mechanism_status (status_length p) m
  unfolding own
  own-status h =
      let e : code_of p ≡ 0xBD = eqb-true _ _ h in
      unless _ _ _ (ap (λ (j : ℕ). eqb j 0xA6) e) ∙ when _ _ _ h

  pub own-tray : is_tray p ≡ true → own p m ≡ fails BadField
  unfolding own
  own-tray h =
      let e : code_of p ≡ 0x1B = eqb-true _ _ (and_head _ _ h) in
      unless _ _ _ (ap (λ (j : ℕ). eqb j 0xA6) e) ∙ unless _ _ _ (ap (λ (j : ℕ). eqb j 0xBD) e)

module _ (p : List ℕ) where
  pub load-own : is_load_unload p ≡ true → is_own p ≡ true
  unfolding is_own
  load-own h = or_left _ _ h

  pub status-own : is_status p ≡ true → is_own p ≡ true
  unfolding is_own
  status-own h = or_right _ _ (or_left _ _ h)

  pub tray-own : is_tray p ≡ true → is_own p ≡ true
  unfolding is_own
  tray-own h = or_right _ _ (or_right _ _ h)

-- ---- the drive's own packets

refusal-drive : (c : Changer) (s : List Slot) (p t : List ℕ) (n : ℕ) → is_in_order c s ≡ true → refusal_of c s p t n ≡ drive.refusal_of c.drive p t n
unfolding refusal_of drive.refusal_of choose◌then◌else◌
refusal-drive c s p t n h = rw h

pub answer-drive : (c : Changer) (s : List Slot) (p t l : List ℕ) (n : ℕ) → is_in_order c s ≡ true → is_own p ≡ false
    → answer c s p t l n ≡ carried (mechanism_of c s) (drive.answer c.drive p t l n)
unfolding answer drive.answer steps choose◌then◌else◌
answer-drive c s p t l n h e =
    rw (refusal-drive c s p t n h) (by-test (eqb (drive.refusal_of c.drive p t n) 0) (drive.refusal_of c.drive p t n))
  where
    by-test : (b : Bool) (j : ℕ)
        → (choose b then steps c.drive.unit (mechanism_of c s) p t l else refuse j (rule_with j t) c.drive.unit (mechanism_of c s))
        ≡ carried (mechanism_of c s)
        (choose b then drive.steps (decode (code_of p)) c.drive.unit c.drive.deck p t l
        else refuse j (rule_with j t) c.drive.unit c.drive.deck)
    by-test true j = unless _ _ _ e
    by-test false j = refl
