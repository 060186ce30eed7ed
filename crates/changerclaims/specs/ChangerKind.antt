-- A packet met by the changer is one of three kinds, refused or not: the changer's own meet the gate, and any other is of the drive's kind.
use Rattle.std.specs.Prelude.{◌≡◌, refl, Bool, true, false, List, ℕ}
use Rattle.std.proofs.Common.{sym, ap, ◌∙◌}
use Rattle.std.proofs.lemmas.Bool.{false≢true}
use Rattle.ground.specs.Tests.{◌and◌, ◌or◌, choose◌then◌else◌}
use Rattle.attention.specs.declared.sense.Sense.{Sense}
use Rattle.attention.specs.declared.Unit.{Unit}
use Rattle.deck.specs.declared.Deck.{Deck}
use Rattle.disc.specs.Part.{rule_with}
use Rattle.gate.specs.Unit.{pending_of}
use Rattle.gate.specs.Gate.{Result, fails, goes, gate}
use Rattle.command.specs.declared.decode.Command.TheVariants.{StartStop}
use Rattle.command.specs.Command.{code_of, decode, lo_ej}
use Rattle.command.specs.Class.{class_of}
use Rattle.command.specs.ClassLaws.{decode_is}
use Rattle.target.specs.PacketLaws.{steps_of}
use Rattle.claims.proofs.UnitLaws.{Kind, asks, frees, orders, reply, meets, meets_by}
use Rattle.claims.proofs.PacketLaws.{kind, steps_of-kind, is_traying}
use Rattle.changer.specs.declared.Slot.{Slot}
use Rattle.changer.specs.declared.Changer.{Changer}
use Rattle.changer.specs.Mechanism.{Mechanism}
use Rattle.changer.specs.ChangerPacket.{mechanism_of, is_load_unload, is_status, is_tray, is_own, own, carried, steps, refusal_of, answer}

-- ---- a packet that the drive answers, carried over

-- that deck, home and slots as they were
abbrev pub with_deck : Mechanism → Deck → Mechanism
with_deck m d = record { deck = d; home = m.home; slots = m.slots }

abbrev pub carried_result : Mechanism → Result Deck → Result Mechanism
carried_result m (fails f) = fails f
carried_result m (goes next loading full limit start count) = goes (with_deck m next) loading full limit start count

abbrev pub carried_kind : Mechanism → Kind Deck → Kind Mechanism
carried_kind m (asks limit) = asks limit
carried_kind m (frees r) = frees (carried_result m r)
carried_kind m (orders r) = orders (carried_result m r)

carried-gate : (p c : Bool) (h : Sense) (m : Mechanism) (r : Result Deck) →
    let u : Unit = record { power = p; change = c; sense = h } in
    carried m (gate u m.deck r) ≡ gate u m (carried_result m r)
unfolding gate pending_of choose◌then◌else◌
carried-gate true c h m r = refl
carried-gate false true h m r = refl
carried-gate false false h m (fails f) = refl
carried-gate false false h m (goes next loading full limit start count) = refl

-- the answer carried over is that of the kind carried over
pub carried-reply : (m : Mechanism) (k : Kind Deck) (u : Unit) → carried m (reply k u m.deck) ≡ reply (carried_kind m k) u m
carried-reply m (asks limit) u = refl
carried-reply m (frees (fails f)) u = refl
carried-reply m (frees (goes next loading full limit start count)) u = refl
carried-reply m (orders r) u = carried-gate u.power u.change u.sense m r

-- ---- the kind of a packet, refused or not

-- A6h, BDh and 1Bh with LoEj 1 meet the gate; any other packet is of the drive's kind
abbrev pub kind_on : List ℕ → Mechanism → List ℕ → List ℕ → Kind Mechanism
kind_on p m t l = choose is_own p then orders (own p m) else carried_kind m (kind p m.deck t l)

steps-kind : (u : Unit) (m : Mechanism) (p t l : List ℕ) → steps u m p t l ≡ reply (kind_on p m t l) u m
unfolding steps choose◌then◌else◌
steps-kind u m p t l = go (is_own p)
  where
    go : (b : Bool)
        → (choose b then gate u m (own p m) else carried m (steps_of (record { unit = u; deck = m.deck }) p t l))
        ≡ reply (choose b then orders (own p m) else carried_kind m (kind p m.deck t l)) u m
    go true = refl
    go false = ap (carried m) (steps_of-kind (record { unit = u; deck = m.deck }) p t l) ∙ carried-reply m (kind p m.deck t l) u

-- the rule beside a packet's number
abbrev pub rule_of : Changer → List Slot → List ℕ → List ℕ → ℕ → ℕ
rule_of c s p t n = rule_with (refusal_of c s p t n) t

-- the answer is that of the packet's kind, or the refusal
pub reply-kind : (c : Changer) (s : List Slot) (p t l : List ℕ) (n : ℕ)
    → answer c s p t l n ≡ meets (refusal_of c s p t n) (rule_of c s p t n) (kind_on p (mechanism_of c s) t l) c.drive.unit (mechanism_of c s)
unfolding answer
reply-kind c s p t l n =
    meets_by (refusal_of c s p t n) (rule_of c s p t n) (kind_on p (mechanism_of c s) t l) c.drive.unit (mechanism_of c s)
    (steps-kind c.drive.unit (mechanism_of c s) p t l)

-- ---- a packet of the drive's is neither A6h nor 1Bh with LoEj 1

or_neither : (a b : Bool) → a or b ≡ false → (a ≡ false) × (b ≡ false)
unfolding ◌or◌
or_neither true b h = absurd (false≢true (sym h))
or_neither false b h = (refl, h)

pub drive-moves : (p : List ℕ) → is_own p ≡ false → is_load_unload p ≡ false
unfolding is_own
drive-moves p h = (or_neither (is_load_unload p) (is_status p or is_tray p) h).0

pub drive_tray : (p : List ℕ) → is_own p ≡ false → is_traying (decode (code_of p)) p ≡ false
unfolding is_own class_of
drive_tray p h =
    ap (λ (b : Bool). b and lo_ej p) (sym (decode_is StartStop refl (code_of p)))
    ∙ (or_neither (is_status p) (is_tray p) (or_neither (is_load_unload p) (is_status p or is_tray p) h).1).1
