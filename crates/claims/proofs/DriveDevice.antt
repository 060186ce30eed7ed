-- The drive is a device: the laws of one step, for every call.
use Rattle.std.specs.Prelude.{◌≡◌, refl, Bool, true, false, not, List, ℕ, length}
use Rattle.std.proofs.Common.{sym, ap, ◌∙◌, subst₂, true≢false, ⊎_elim}
use Rattle.std.proofs.lemmas.Bool.{false≢true}
use Rattle.ground.specs.Tests.{◌and◌, ◌or◌, or_left, either}
use Rattle.drive.specs.declared.state.Drive.{Drive}
use Rattle.drive.specs.declared.state.Moved.{Moved}
use Rattle.deck.specs.Deck.{is_loaded}
use Rattle.drive.specs.State.{button, lay, lift, move_on}
use Rattle.drive.specs.StateLaws.{power_on-with, power_on_without_change-with}
use Rattle.gate.specs.Gate.{Reply}
use Rattle.deck.specs.declared.Deck.{Deck}
use Rattle.outcome.specs.Outcome.{state_of}
use Rattle.target.specs.Packet.{refusal_of}
use Rattle.claims.specs.Telling.{Attention, power, change, Answer, answer_of, is_good, tells_to}
use Rattle.claims.proofs.UnitLaws.{Turn, only, or-none, only_none, unmoved, attended, meets-turn, orders-blocks, any-pending}
use Rattle.claims.specs.Call.{Form, by_default, without_change, Call, powering, pressing, laying, lifting, moving_on, packet, answer, next, event, is_pending, is_attending, is_powering, is_power_on, closed, is_loading, is_cause, causes, tells, is_needing, is_success, Alike, same, lists, tables, lend, left}
use Rattle.claims.proofs.PacketLaws.{kind, rule_of, reply-kind, closed_still, packet_fair, packet_request, packet_orders, packet_blind, packet_unlisted}
use Rattle.claims.specs.Stands.{or_cases}
use Rattle.claims.specs.Device.{Device, Told, told, cause-lives}

-- ---- how a call turns an attention

press-turn : (k : Attention) (d : Drive) → Turn k d.unit false (closed d.deck (button d).state.deck) (button d).state.unit
unfolding button ◌and◌
press-turn k d =
    either P _
    (λ h. either P _
    (λ t. rw t (attended k d.unit d.unit.sense d.deck.disc_in))
    (λ t. either P _ (λ l. here) (λ l. rw t (attended k d.unit d.unit.sense false))))
    (λ h. here)
  where
    P : Moved → Type 0
    P r = Turn k d.unit false (closed d.deck r.state.deck) r.state.unit

    here : Turn k d.unit false (closed d.deck d.deck) d.unit
    here = rw (closed_still d.deck) (unmoved k d.unit d.unit.sense)

lay-turn : (k : Attention) (d : Drive) → Turn k d.unit false false (lay d).state.unit
unfolding lay
lay-turn k d = either P _ (λ h. either P _ (λ t. here) (λ t. here)) (λ h. here)
  where
    P : Moved → Type 0
    P r = Turn k d.unit false false r.state.unit

    here : Turn k d.unit false false d.unit
    here = unmoved k d.unit d.unit.sense

lift-turn : (k : Attention) (d : Drive) → Turn k d.unit false false (lift d).state.unit
unfolding lift
lift-turn k d = either P _ (λ h. either P _ (λ t. here) (λ t. here)) (λ h. here)
  where
    P : Moved → Type 0
    P r = Turn k d.unit false false r.state.unit

    here : Turn k d.unit false false d.unit
    here = unmoved k d.unit d.unit.sense

pub move_on-turn : (k : Attention) (n : ℕ) (d : Drive) → Turn k d.unit false false (move_on n d).state.unit
unfolding move_on
move_on-turn k n d = either P _ (λ h. here) (λ h. here)
  where
    P : Moved → Type 0
    P r = Turn k d.unit false false r.state.unit

    here : Turn k d.unit false false d.unit
    here = unmoved k d.unit d.unit.sense

packet-turn : (k : Attention) (p t l m : List ℕ) (d : Drive)
    → Turn k d.unit (tells k (event (packet p t l m) d)) (is_loading (event (packet p t l m) d)) (next (packet p t l m) d).unit
unfolding ◌and◌
packet-turn k p t l m d =
    let T : Bool → Reply Deck → Type 0 =
    λ a r. Turn k d.unit (tells_to k a d.unit (answer_of m r) r.unit) (closed d.deck r.deck) r.unit in
    subst₂ T (packet_request p d.deck t l) (sym (reply-kind d p t l (length m)))
    (meets-turn (λ good n. closed d.deck n) k m d.deck (refusal_of d p t (length m)) (rule_of d p t (length m)) (kind p d.deck t l) d.unit
    (packet_fair p d.deck t l))

-- every call but power-on
call-turn : (k : Attention) (c : Call) (d : Drive) → is_powering c ≡ false → Turn k d.unit (tells k (event c d)) (is_loading (event c d)) (next c d).unit
unfolding ◌and◌
call-turn k (powering f) d h = absurd (true≢false h)
call-turn k pressing d h = press-turn k d
call-turn k laying d h = lay-turn k d
call-turn k lifting d h = lift-turn k d
call-turn k (moving_on n) d h = move_on-turn k n d
call-turn k (packet p t l m) d h = packet-turn k p t l m d

-- the causes of a call that is no power-on
pub causes-only : (k : Attention) (c : Call) (d : Drive) → is_powering c ≡ false → causes k (event c d) ≡ only k (is_loading (event c d))
unfolding ◌and◌
causes-only power c d h = h
causes-only change (powering f) d h = absurd (true≢false h)
causes-only change pressing d h = or-none _
causes-only change laying d h = or-none _
causes-only change lifting d h = or-none _
causes-only change (moving_on n) d h = or-none _
causes-only change (packet p t l m) d h = or-none _

-- ---- the four laws

abbrev Turning : Attention → Call → Drive → Type 0
Turning k c d = is_pending k (next c d) ≡ causes k (event c d) or (not (is_power_on (event c d)) and (not (tells k (event c d)) and is_pending k d))

call_turns : (k : Attention) (c : Call) (d : Drive) → is_powering c ≡ false → Turning k c d
unfolding ◌and◌
call_turns k c d h = rw (h, causes-only k c d h) (call-turn k c d h).turns

-- power-on: the power attention is pending in both forms, the change attention by default and with a loaded disc
power_turns : (k : Attention) (f : Form) (d : Drive) → Turning k (powering f) d
unfolding ◌and◌ ◌or◌
power_turns power by_default d = ap (is_pending power) (power_on-with d)
power_turns power without_change d = ap (is_pending power) (power_on_without_change-with d)
power_turns change by_default d = ap (is_pending change) (power_on-with d) ∙ sym (or-none _)
power_turns change without_change d = ap (is_pending change) (power_on_without_change-with d)

pub drive_turns : (k : Attention) (c : Call) (d : Drive) → Turning k c d
drive_turns k (powering f) d = power_turns k f d
drive_turns k pressing d = call_turns k pressing d refl
drive_turns k laying d = call_turns k laying d refl
drive_turns k lifting d = call_turns k lifting d refl
drive_turns k (moving_on n) d = call_turns k (moving_on n) d refl
drive_turns k (packet p t l m) d = call_turns k (packet p t l m) d refl

pub packet_blocked : (k : Attention) (d : Drive) (p t l m : List ℕ) → is_pending k d ≡ true → is_needing p ≡ true → is_good (answer (packet p t l m) d) ≡ false
packet_blocked k d p t l m h n =
    let o = packet_orders p d.deck t l n in
    rw (reply-kind d p t l (length m), o.1)
    (orders-blocks (refusal_of d p t (length m)) (rule_of d p t (length m)) o.0 d.unit d.deck m (any-pending k d.unit h))

pub drive-blocks : (k : Attention) (c : Call) (d : Drive) → is_pending k d ≡ true → is_success (event c d) ≡ false
unfolding ◌and◌
drive-blocks k (powering f) d h = refl
drive-blocks k pressing d h = refl
drive-blocks k laying d h = refl
drive-blocks k lifting d h = refl
drive-blocks k (moving_on n) d h = refl
drive-blocks k (packet p t l m) d h = go (is_needing p) refl
  where
    go : (b : Bool) → is_needing p ≡ b → b and is_good (answer (packet p t l m) d) ≡ false
    go false n = refl
    go true n = packet_blocked k d p t l m h n

pub drive_blind : (c e : Call) (d : Drive) → Alike c e → is_attending d ≡ true → (answer c d ≡ answer e d) × (next c d ≡ next e d)
drive_blind c e d (same b) a = (refl, refl)
drive_blind c e d (lists p t m {k} {l}) a =
    let q = packet_unlisted d p t k l (length m) a in
    (ap (answer_of m) q, ap state_of q)
drive_blind c e d (tables p m {t} {u} {k} {l} f g) a =
    let q = packet_blind d p t u k l (length m) f g a in
    (ap (answer_of m) q, ap state_of q)

-- ---- the device

abbrev pub drive : Device Call Drive Answer
drive = record {
  answer = answer;
  next = next;
  pend = is_pending;
  on = is_power_on;
  cause = causes;
  tells = tells;
  served = is_success;
  Alike = Alike;
  turns = drive_turns;
  blocks = drive-blocks;
  blind = drive_blind;
}

-- ---- what tells

call-told : (k : Attention) (c : Call) (d : Drive) → is_powering c ≡ false → tells k (event c d) ≡ true → Told drive k c d
call-told k c d h t =
    let w = call-turn k c d h in
    told drive k c d t (w.due t) (causes-only k c d h ∙ only_none k _ (w.apart t))

pub drive-told : (k : Attention) (c : Call) (d : Drive) → tells k (event c d) ≡ true → Told drive k c d
drive-told k (powering f) d t = absurd (false≢true t)
drive-told k pressing d t = absurd (false≢true t)
drive-told k laying d t = absurd (false≢true t)
drive-told k lifting d t = absurd (false≢true t)
drive-told k (moving_on n) d t = absurd (false≢true t)
drive-told k (packet p q l m) d t = call-told k (packet p q l m) d refl t

-- ---- what causes

-- a power-on, in either form, or a loading leaves an attention pending
pub cause_attends : (c : Call) (d : Drive) → is_cause (event c d) ≡ true → is_attending (next c d) ≡ true
cause_attends c d h = ⊎_elim (cause-lives drive power c d) (λ l. cause-lives drive change c d (or_left _ _ l)) (or_cases _ _ h)

-- K3: power-on by default with a loaded disc is a cause of both attentions
pub greeting-causes : (k : Attention) (d : Drive) → is_loaded d.deck ≡ true → causes k (event (powering by_default) d) ≡ true
unfolding ◌and◌ ◌or◌
greeting-causes power d l = refl
greeting-causes change d l = l

-- ---- the response memory lent to alike calls

pub lend_alike : (c e : Call) (m : List ℕ) → Alike c e → Alike (lend m c) (lend m e)
lend_alike c e m (same b) = same (lend m c)
lend_alike c e m (lists p t n) = lists p t m
lend_alike c e m (tables p n f g) = tables p m f g

pub left_alike : (c e : Call) (a : Answer) (m : List ℕ) → Alike c e → left c a m ≡ left e a m
left_alike c e a m (same b) = refl
left_alike c e a m (lists p t n) = refl
left_alike c e a m (tables p n f g) = refl
