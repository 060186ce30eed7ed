-- The changer is a device: a packet on it is one of the three kinds, and the laws of one step hold of every call.
use Rattle.std.specs.Prelude.{◌≡◌, refl, Bool, true, false, not, List, [], ℕ, ◌<◌, length, eqb}
use Rattle.std.proofs.Math.Path.{sym}
use Rattle.std.proofs.Common.{ap, ◌∙◌, subst, subst₂, true≢false, ⊎_elim, eqb-true, eq-eqb, ne_eqb, ltb-true, get_or-set_same, get_or-set_other}
use Rattle.std.proofs.lemmas.Bool.{false≢true, not-false}
use Rattle.std.proofs.Math.Decide.{ℕ_discrete}
use Rattle.ground.specs.Tests.{◌and◌, ◌or◌, choose◌then◌else◌, when, either, and_head, and_both, and_off, and_late, or_right}
use Rattle.attention.specs.declared.Unit.{Unit}
use Rattle.deck.specs.declared.Deck.{Deck}
use Rattle.drive.specs.declared.state.Drive.{Drive}
use Rattle.drive.specs.StateLaws.{power_on-with, power_on_without_change-with}
use Rattle.disc.specs.Rules.{fault, is_fit}
use Rattle.disc.specs.Part.{unfit, rule_with}
use Rattle.gate.specs.declared.fault.Fault.{Fault}
use Rattle.gate.specs.declared.fault.Fault.TheVariants.{BadField}
use Rattle.gate.specs.Gate.{Result, fails, goes, Reply}
use Rattle.command.specs.declared.decode.Command.{Command}
use Rattle.command.specs.Command.{code_of, decode}
use Rattle.target.specs.Perform.{perform}
use Rattle.changer.specs.declared.Slot.{Slot}
use Rattle.changer.specs.declared.Changer.{Changer}
use Rattle.changer.specs.Slot.{empty_slot, slot_at, put_back}
use Rattle.changer.specs.Mechanism.{Mechanism, returned, takes, lo_unlo, starts, named_slot, load_unload}
use Rattle.changer.specs.Status.{status_length, mechanism_status}
use Rattle.changer.specs.Changer.{power_on, power_on_without_change, emptied, moves_on}
use Rattle.changer.specs.ChangerPacket.{mechanism_of, is_load_unload, is_status, is_own, own, steps, refusal_of, state_of, answer as reply_to}
use Rattle.claims.specs.Telling.{Attention, power, change, pending, is_good, answer_of, tells_to}
use Rattle.claims.proofs.UnitLaws.{Kind, asks, frees, orders, is_asking, is_done, next_of, loading_of, Honest, comes_to, comes_well, Turn, only, only_none, or-none, meets-turn, meets-says, orders-blocks, any-pending}
use Rattle.claims.proofs.PacketLaws.{Does, failing, keeping, closing-it, opening-it, clearing, is_traying, perform_does, Seen, asking, freeing, ordering, seen, kind_of, kind, steps_blind, packet_request, packet_orders}
use Rattle.claims.specs.Call.{Form, by_default, without_change, is_request_sense, is_needing}
use Rattle.claims.specs.Stands.{or_cases}
use Rattle.claims.proofs.DriveDevice.{move_on-turn}
use Rattle.claims.proofs.RefusalLaws.{refused_untold}
use Rattle.claims.specs.Device.{Device, Told, told, cause-lives}
use Rattle.changerclaims.specs.ChangerKind.{carried_result, carried_kind, kind_on, rule_of, reply-kind, drive_tray, drive-moves}
use Rattle.changerclaims.proofs.ChangerKeptLaws.{returned_empty}
use Rattle.changerclaims.specs.ChangerCall.{Call, powering, moving_on, packet, Answer, answer_with, answer, next, event, is_pending, is_attending, is_powering, is_packet, is_power_on, is_load, holds, taking, takes_disc, is_loading, is_cause, causes, tells, is_success, Alike, same, lists, tables, Lent, lend, left}

-- ---- what a packet comes to: a Load of a slot that holds a disc is a loading, and nothing else is

pub and_none : (b : Bool) → b and false ≡ false
and_none b = sym (and_late b false refl)

put_present : (s : List Slot) (h i : ℕ) → i < length s → (slot_at (put_back s h) i).present ≡ (slot_at s i).present or eqb i h
put_present s h i l = elim (ℕ_discrete i h) [
  | yes e ↦ rw e (ap is_present (get_or-set_same s h _ empty_slot (rw e at l)) ∙ sym (or_right _ _ (eq-eqb h h refl)))
  | no e ↦ ap is_present (get_or-set_other s h i _ empty_slot e) ∙ sym (ap (λ (b : Bool). (slot_at s i).present or b) (ne_eqb i h e) ∙ or-none _)
]
  where
    is_present : Slot → Bool
    is_present x = x.present

-- once the drive's disc is back, a slot holds one where it did or was the disc's home
returned-holds : (i : ℕ) (m : Mechanism) → i < length m.slots → (slot_at (returned m).slots i).present ≡ holds i m
unfolding returned ◌and◌
returned-holds i m l =
    either (λ (n : Mechanism). (slot_at n.slots i).present ≡ holds i m) m.deck.disc_in
    (λ h. rw h (put_present m.slots m.home i l))
    (λ h. rw h (sym (or-none _)))

-- what a packet of the changer's own comes to, where `load` says that it is a Load of a slot that holds a disc, and `moves` that it is A6h: it
-- fails, takes the slot's disc, only returns the drive's, or leaves all as it was; the media event 2 is K7's "loading"
pub data Acts (load moves : Bool) (m : Mechanism) : Result Mechanism → Type 0 where
  failed : {f : Fault} → Acts load moves m (fails f)
  took : {n : Mechanism} → load ≡ true → n.deck.disc_in ≡ true → n.deck.event ≡ 2 → Acts load moves m (goes n true [] 0 0 0)
  gave : load ≡ false → moves ≡ true → Acts load moves m (goes (returned m) false [] 0 0 0)
  stood : {full : List ℕ} {limit : ℕ} → load ≡ false → moves ≡ false → Acts load moves m (goes m false full limit 0 0)

load_unload_acts : (lo start : Bool) (i : ℕ) (m : Mechanism) → Acts ((lo and start) and holds i m) true m (load_unload lo start i m)
unfolding load_unload takes
load_unload_acts lo start i m =
    either A _ (λ h. failed)
    (λ h. either A _ (λ n. failed)
    (λ n. either A _ (λ k. failed)
    (λ k.
    let held : (slot_at (returned m).slots i).present ≡ holds i m = returned-holds i m (ltb-true _ _ (not-false _ n)) in
    either A start
    (λ s. either A _
    (λ d. took (and_both _ _ (and_both lo start (not-false _ h) s) (sym held ∙ d)) refl (when true _ _ refl))
    (λ d. gave (sym (and_late _ _ (sym d ∙ held))) refl))
    (λ s. gave (sym (and_off _ _ (sym (and_late lo start (sym s))))) refl))))
  where
    A : Result Mechanism → Type 0
    A = Acts ((lo and start) and holds i m) true m

pub own_acts : (p : List ℕ) (m : Mechanism) → Acts (taking p m) (is_load_unload p) m (own p m)
unfolding own ◌and◌ choose◌then◌else◌
own_acts p m = go (is_load_unload p)
  where
    -- any other packet is no Load
    go : (b : Bool) → Acts ((b and lo_unlo p and starts p) and holds (named_slot p) m) b m
        (choose b then load_unload (lo_unlo p) (starts p) (named_slot p) m else (choose is_status p then mechanism_status (status_length p) m else fails BadField))
    go true = load_unload_acts (lo_unlo p) (starts p) (named_slot p) m
    go false = either (Acts false false m) (is_status p) (λ h. stood refl refl) (λ h. failed)

-- a packet that the drive answers moves no tray
does_quiet : {polls : Bool} {m : Deck} {r : Result Deck} → Does false polls m r → loading_of r ≡ false
does_quiet failing = refl
does_quiet (keeping s b) = refl
does_quiet (closing-it w h) = absurd (false≢true w)
does_quiet (opening-it w h) = refl
does_quiet (clearing b) = refl

carried_loading : (m : Mechanism) (r : Result Deck) → loading_of (carried_result m r) ≡ loading_of r
carried_loading m (fails f) = refl
carried_loading m (goes next loading full limit start count) = refl

-- no loading, be the answer GOOD or not
abbrev Quiet : Mechanism → Kind Mechanism → Type 0
Quiet m = Honest (λ good n. false) m

perform_quiet : (c : Command) (p : List ℕ) (m : Mechanism) (t l : List ℕ) → is_traying c p ≡ false
    → false ≡ loading_of (carried_result m (perform c p m.deck t l))
perform_quiet c p m t l h = sym (carried_loading m (perform c p m.deck t l) ∙ does_quiet (rw h at (perform_does c p m.deck t l)))

kind_quiet : {c : Command} (s : Seen c) (p : List ℕ) (m : Mechanism) (t l : List ℕ) → is_traying c p ≡ false
    → Quiet m (carried_kind m (kind_of s p (perform c p m.deck t l)))
kind_quiet asking p m t l h = (refl, refl)
kind_quiet (freeing {c} f) p m t l h = (perform_quiet c p m t l h, refl)
kind_quiet (ordering {c} n g) p m t l h = (perform_quiet c p m t l h, refl)

module _ (p : List ℕ) (m : Mechanism) where
  -- a loading is read off the packet, what stood before it, and whether the answer is GOOD
  acts-fair : {load moves : Bool} {r : Result Mechanism} → Acts load moves m r → (load and is_done r ≡ loading_of r) × (load and false ≡ false)
  unfolding ◌and◌
  acts-fair {load} failed = (and_none load, and_none load)
  acts-fair (took a d e) = rw a (refl, refl)
  acts-fair (gave a b) = rw a (refl, refl)
  acts-fair (stood a b) = rw a (refl, refl)

  -- or off whether the drive has a disc after it
  acts-disc : {r : Result Mechanism} → Acts (taking p m) (is_load_unload p) m r
      → taking p m and is_done r ≡ is_load p and (is_done r and (next_of m r).deck.disc_in)
  unfolding ◌and◌
  acts-disc failed = and_none (taking p m) ∙ sym (and_none (is_load p))
  acts-disc (took a d e) = rw (a, d, and_head (is_load p) (holds (named_slot p) m) a)
  acts-disc (gave a b) = rw (a, returned_empty m) (sym (and_none (is_load p)))
  acts-disc (stood a b) = rw (a, b)

  module _ (t l : List ℕ) where
    packet_fair : Honest (λ good n. taking p m and good) m (kind_on p m t l)
    unfolding ◌and◌
    packet_fair =
        either (Honest (λ good n. taking p m and good) m) (is_own p)
        (λ o. acts-fair (own_acts p m))
        (λ o. rw (drive-moves p o) (kind_quiet (seen (decode (code_of p))) p m t l (drive_tray p o)))

    abbrev Loaded : Kind Mechanism → Type 0
    Loaded k = taking p m and comes_well k ≡ is_load p and (comes_well k and (comes_to m k).deck.disc_in)

    packet-disc : Loaded (kind_on p m t l)
    unfolding ◌and◌
    packet-disc = either Loaded (is_own p) (λ o. acts-disc (own_acts p m)) (λ o. rw (drive-moves p o))

-- ---- the packet's code

-- a packet of the changer's own has no other code
pub own_other : (p : List ℕ) (k : ℕ) → eqb 0xA6 k ≡ false → eqb 0xBD k ≡ false → eqb 0x1B k ≡ false → is_own p ≡ true → eqb (code_of p) k ≡ false
unfolding is_own
own_other p k x y z o = ⊎_elim (other 0xA6 x) (λ w. ⊎_elim (other 0xBD y) (λ v. other 0x1B z (and_head _ _ v)) (or_cases _ _ w)) (or_cases _ _ o)
  where
    other : (j : ℕ) → eqb j k ≡ false → eqb (code_of p) j ≡ true → eqb (code_of p) k ≡ false
    other j n h = ap (λ (c : ℕ). eqb c k) (eqb-true (code_of p) j h) ∙ n

carried-asking : (m : Mechanism) (k : Kind Deck) → is_asking (carried_kind m k) ≡ is_asking k
carried-asking m (asks limit) = refl
carried-asking m (frees r) = refl
carried-asking m (orders r) = refl

module _ (p : List ℕ) (m : Mechanism) (t l : List ℕ) where
  kind_request : is_asking (kind_on p m t l) ≡ is_request_sense p
  kind_request =
      either (λ (k : Kind Mechanism). is_asking k ≡ is_request_sense p) (is_own p)
      (λ o. sym (own_other p 0x03 refl refl refl o))
      (λ o. carried-asking m (kind p m.deck t l) ∙ packet_request p m.deck t l)

  -- what needs a disc meets the gate
  kind-orders : is_needing p ≡ true → (r : Result Mechanism) × (kind_on p m t l ≡ orders r)
  kind-orders h =
      either (λ (k : Kind Mechanism). (r : Result Mechanism) × (k ≡ orders r)) (is_own p)
      (λ o. (own p m, refl))
      (λ o. let w = packet_orders p m.deck t l h in (carried_result m w.0, ap (carried_kind m) w.1))

-- ---- the lent table and the parameter list

-- a fit table breaks no rule
rule_with_fit : (n : ℕ) (t : List ℕ) → is_fit t ≡ true → rule_with n t ≡ 0
unfolding rule_with is_fit
rule_with_fit n t f = either (λ (r : ℕ). r ≡ 0) (eqb n unfit) (λ h. eqb-true (fault t) 0 f) (λ h. refl)

-- the refusals look at no more of a table than whether it is fit
refusal_fit : (c : Changer) (s : List Slot) (p t u : List ℕ) (n : ℕ) → is_fit t ≡ true → is_fit u ≡ true → refusal_of c s p t n ≡ refusal_of c s p u n
unfolding refusal_of
refusal_fit c s p t u n f g = rw (f, g)

module _ (c : Changer) (s : List Slot) (p : List ℕ) (a : is_attending c ≡ true) where
  -- while an attention is pending neither the lent table nor the parameter list is looked at
  steps-unseen : (t u k l : List ℕ) → steps c.drive.unit (mechanism_of c s) p t k ≡ steps c.drive.unit (mechanism_of c s) p u l
  unfolding steps
  steps-unseen t u k l = rw (steps_blind (decode (code_of p)) c.drive.unit c.drive.deck p t u k l a)

  -- so two fit tables give one answer, with any two lists
  packet_blind : (t u k l : List ℕ) (n : ℕ) → is_fit t ≡ true → is_fit u ≡ true → reply_to c s p t k n ≡ reply_to c s p u l n
  unfolding reply_to
  packet_blind t u k l n f g =
      rw (rule_with_fit (refusal_of c s p t n) t f, rule_with_fit (refusal_of c s p u n) u g, refusal_fit c s p t u n f g, steps-unseen t u k l)

  -- and so do two lists with one table, fit or not
  packet_unlisted : (t k l : List ℕ) (n : ℕ) → reply_to c s p t k n ≡ reply_to c s p t l n
  unfolding reply_to
  packet_unlisted t k l n = rw (steps-unseen t t k l)

-- ---- how a call turns an attention

packet-turn : (k : Attention) (p t l m : List ℕ) (s : List Slot) (c : Changer) →
    let e = event (packet p t l m s) c in
    Turn k c.drive.unit (tells k e) (is_loading e) e.new.drive.unit
packet-turn k p t l m s c =
    let u : Unit = c.drive.unit in
    let x : Mechanism = mechanism_of c s in
    let T : Bool → Reply Mechanism → Type 0 =
    λ a r. Turn k u (tells_to k a u (answer_of m r) r.unit) (taking p x and is_good (answer_of m r)) r.unit in
    subst₂ T (kind_request p x t l) (sym (reply-kind c s p t l (length m)))
    (meets-turn (λ good n. taking p x and good) k m x (refusal_of c s p t (length m)) (rule_of c s p t (length m)) (kind_on p x t l) u
    (packet_fair p x t l))

-- every call but power-on
call-turn : (k : Attention) (b : Call) (c : Changer) → is_powering b ≡ false
    → Turn k c.drive.unit (tells k (event b c)) (is_loading (event b c)) (next b c).drive.unit
unfolding ◌and◌ moves_on
call-turn k (powering f) c h = absurd (true≢false h)
call-turn k (moving_on n) c h = move_on-turn k n c.drive
call-turn k (packet p t l m s) c h = packet-turn k p t l m s c

-- the causes of a call that is no power-on
pub causes-only : (k : Attention) (b : Call) (c : Changer) → is_powering b ≡ false → causes k (event b c) ≡ only k (is_loading (event b c))
causes-only power b c h = h
causes-only change b c h = refl

-- ---- the four laws

abbrev Turning : Attention → Call → Changer → Type 0
Turning k b c = is_pending k (next b c) ≡ causes k (event b c) or (not (is_power_on (event b c)) and (not (tells k (event b c)) and is_pending k c))

call_turns : (k : Attention) (b : Call) (c : Changer) → is_powering b ≡ false → Turning k b c
unfolding ◌and◌
call_turns k b c h = rw (h, causes-only k b c h) (call-turn k b c h).turns

-- power-on: the power attention alone is pending, since the drive is empty
abbrev driven : Attention → Drive → Bool
driven k d = pending k d.unit

power_turns : (k : Attention) (f : Form) (c : Changer) → Turning k (powering f) c
unfolding ◌and◌ ◌or◌ power_on power_on_without_change
power_turns power by_default c = ap (driven power) (power_on-with (emptied c.drive))
power_turns power without_change c = ap (driven power) (power_on_without_change-with (emptied c.drive))
power_turns change by_default c = ap (driven change) (power_on-with (emptied c.drive))
power_turns change without_change c = ap (driven change) (power_on_without_change-with (emptied c.drive))

pub power_alone : (f : Form) (c : Changer) → is_pending change (next (powering f) c) ≡ false
unfolding ◌and◌ ◌or◌
power_alone f c = power_turns change f c

pub changer_turns : (k : Attention) (b : Call) (c : Changer) → Turning k b c
changer_turns k (powering f) c = power_turns k f c
changer_turns k (moving_on n) c = call_turns k (moving_on n) c refl
changer_turns k (packet p t l m s) c = call_turns k (packet p t l m s) c refl

-- a packet that meets the gate is not answered GOOD while an attention is pending
orders_blocked : (k : Attention) (c : Changer) (p t l m : List ℕ) (s : List Slot) {r : Result Mechanism} → is_pending k c ≡ true
    → kind_on p (mechanism_of c s) t l ≡ orders r → is_good (answer (packet p t l m s) c).given ≡ false
orders_blocked k c p t l m s {r} h e =
    rw (reply-kind c s p t l (length m), e)
    (orders-blocks (refusal_of c s p t (length m)) (rule_of c s p t (length m)) r c.drive.unit (mechanism_of c s) m
    (any-pending k c.drive.unit h))

pub packet_blocked : (k : Attention) (c : Changer) (p t l m : List ℕ) (s : List Slot) → is_pending k c ≡ true → is_needing p ≡ true
    → is_good (answer (packet p t l m s) c).given ≡ false
packet_blocked k c p t l m s h n = orders_blocked k c p t l m s h (kind-orders p (mechanism_of c s) t l n).1

pub own_blocked : (k : Attention) (c : Changer) (p t l m : List ℕ) (s : List Slot) → is_pending k c ≡ true → is_own p ≡ true
    → is_good (answer (packet p t l m s) c).given ≡ false
own_blocked k c p t l m s h n = orders_blocked k c p t l m s h (when _ _ _ n)

pub changer-blocks : (k : Attention) (b : Call) (c : Changer) → is_pending k c ≡ true → is_success (event b c) ≡ false
unfolding ◌and◌
changer-blocks k (powering f) c h = refl
changer-blocks k (moving_on n) c h = refl
changer-blocks k (packet p t l m s) c h = go (is_needing p) refl
  where
    go : (b : Bool) → is_needing p ≡ b → b and is_good (answer (packet p t l m s) c).given ≡ false
    go false n = refl
    go true n = packet_blocked k c p t l m s h n

pub changer_blind : (b e : Call) (c : Changer) → Alike b e → is_attending c ≡ true → (answer b c ≡ answer e c) × (next b c ≡ next e c)
changer_blind b e c (same d) a = (refl, refl)
changer_blind b e c (lists p t m s {k} {l}) a =
    let q = packet_unlisted c s p a t k l (length m) in
    (ap (answer_with m) q, ap state_of q)
changer_blind b e c (tables p m s {t} {u} {k} {l} f g) a =
    let q = packet_blind c s p a t u k l (length m) f g in
    (ap (answer_with m) q, ap state_of q)

-- ---- the device

abbrev pub changer : Device Call Changer Answer
changer = record {
  answer = answer;
  next = next;
  pend = is_pending;
  on = is_power_on;
  cause = causes;
  tells = tells;
  served = is_success;
  Alike = Alike;
  turns = changer_turns;
  blocks = changer-blocks;
  blind = changer_blind;
}

-- ---- what tells

call-told : (k : Attention) (b : Call) (c : Changer) → is_powering b ≡ false → tells k (event b c) ≡ true → Told changer k b c
call-told k b c h t =
    let w = call-turn k b c h in
    told changer k b c t (w.due t) (causes-only k b c h ∙ only_none k _ (w.apart t))

pub changer-told : (k : Attention) (b : Call) (c : Changer) → tells k (event b c) ≡ true → Told changer k b c
changer-told k (powering f) c t = absurd (false≢true t)
changer-told k (moving_on n) c t = absurd (false≢true t)
changer-told k (packet p q l m s) c t = call-told k (packet p q l m s) c refl t

-- ---- what causes

-- a power-on, in either form, or a loading leaves an attention pending
pub cause_attends : (b : Call) (c : Changer) → is_cause (event b c) ≡ true → is_attending (next b c) ≡ true
cause_attends b c h = ⊎_elim (cause-lives changer power b c) (cause-lives changer change b c) (or_cases _ _ h)

-- a loading is the same as: a Load was answered GOOD, and a disc is in the drive afterwards
pub loading-disc : (b : Call) (c : Changer)
    → is_loading (event b c) ≡ is_packet is_load b and (is_good (answer b c).given and (next b c).drive.deck.disc_in)
unfolding ◌and◌
loading-disc (powering f) c = refl
loading-disc (moving_on k) c = refl
loading-disc (packet p t l m s) c =
    let x : Mechanism = mechanism_of c s in
    let P : Bool → Mechanism → Type 0 = λ good n. taking p x and good ≡ is_load p and (good and n.deck.disc_in) in
    let S : Reply Mechanism → Type 0 = λ r. P (is_good (answer_of m r)) r.deck in
    subst S (sym (reply-kind c s p t l (length m)))
    (meets-says P m (refusal_of c s p t (length m)) (rule_of c s p t (length m)) (kind_on p x t l) c.drive.unit x
    (and_none (taking p x) ∙ sym (and_none (is_load p))) (λ z. packet-disc p x t l))

-- a refused call is no cause and tells nothing
pub refused_silent : (k : Attention) (b : Call) (c : Changer) → ((answer b c).given.number ≡ 0 → ⊥)
    → (causes k (event b c) ≡ false) × (tells k (event b c) ≡ false)
unfolding ◌and◌
refused_silent k (powering f) c n = absurd (n refl)
refused_silent k (moving_on i) c n = (causes-only k (moving_on i) c refl ∙ only_none k false refl, refl)
refused_silent k (packet p t l m s) c n =
    let e = event (packet p t l m s) c in
    let z : eqb e.answer.given.number 0 ≡ false = ne_eqb e.answer.given.number 0 n in
    let g : is_loading e ≡ false = rw z (and_none (takes_disc e.call c)) in
    let w = refused_untold k (is_request_sense p) c.drive.unit e.new.drive.unit e.answer.given z in
    (causes-only k e.call c refl ∙ only_none k (is_loading e) g, w)

-- ---- what is lent to alike calls

pub lend_alike : (b e : Call) (m : Lent) → Alike b e → Alike (lend m b) (lend m e)
lend_alike b e m (same d) = same (lend m b)
lend_alike b e m (lists p t n s) = lists p t m.response m.slots
lend_alike b e m (tables p n s f g) = tables p m.response m.slots f g

pub left_alike : (b e : Call) (a : Answer) (m : Lent) → Alike b e → left b a m ≡ left e a m
left_alike b e a m (same d) = refl
left_alike b e a m (lists p t n s) = refl
left_alike b e a m (tables p n s f g) = refl
