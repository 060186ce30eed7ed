-- Laying and lifting write the disc alone; power-on reads tray and disc alone; of the packets 1Bh with LoEj 1 alone moves the tray.
use Rattle.std.specs.Prelude.{◌≡◌, refl, Bool, true, false, List, ℕ, length}
use Rattle.std.proofs.Common.{sym, ap, subst, ◌∙◌, eq-eqb}
use Rattle.std.proofs.lemmas.Bool.{false≢true, not-true}
use Rattle.ground.specs.Tests.{◌and◌, and_head, and_tail}
use Rattle.deck.specs.declared.Deck.{Deck}
use Rattle.drive.specs.declared.state.Drive.{Drive}
use Rattle.drive.specs.declared.state.Moved.{Moved}
use Rattle.deck.specs.Deck.{is_loaded, opening, closing}
use Rattle.drive.specs.State.{is_known_state, with_deck, shift, holding, power_on_with, moves, button, lay, lift}
use Rattle.drive.specs.StateLaws.{power_on-with, power_on_without_change-with, button-opens, button-closes, lay-lays, lift-lifts}
use Rattle.gate.specs.Gate.{Result}
use Rattle.command.specs.declared.decode.Command.{Command}
use Rattle.command.specs.declared.decode.Command.TheVariants.{StartStop}
use Rattle.command.specs.Command.{decode, code_of, lo_ej}
use Rattle.command.specs.Class.{class_of}
use Rattle.command.specs.ClassLaws.{decode_is}
use Rattle.target.specs.Perform.{perform}
use Rattle.target.specs.Packet.{refusal_of}
use Rattle.claims.specs.Call.{Form, by_default, without_change, powering, pressing, packet, next, is_eject_or_load}
use Rattle.claims.proofs.UnitLaws.{next_of, comes_to, meets-keeps}
use Rattle.claims.proofs.PacketLaws.{Does, failing, keeping, closing-it, opening-it, clearing, is_traying, is_polling, perform_does, Seen, asking, freeing, ordering, seen, kind_of, kind, rule_of, reply-kind}
use Rattle.claims.proofs.RefusalLaws.{lay-tested, lift-tested}
use Rattle.claims.proofs.KnownLaws.{call_state}

-- the deck n has the tray and the disc of m
abbrev Same : Deck → Deck → Type 0
Same m n = (n.tray_open ≡ m.tray_open) × (n.disc_in ≡ m.disc_in)

-- ---- laying and lifting

-- what was laid or lifted last counts
holding-last : (d : Drive) (b c : Bool) → d.deck.disc_in ≡ c → holding (holding d b) c ≡ d
holding-last d b c h = λ i. holding d (sym h i)

holding_known : (d : Drive) (b : Bool) → is_known_state d ≡ true → is_known_state (holding d b) ≡ true
unfolding is_known_state
holding_known d b k = k

-- where a call answered r the other one then is not refused and gives back d
abbrev Undoes : (Drive → Moved) → Drive → Moved → Type 0
Undoes other d r = ((other r.state).number ≡ 0) × ((other r.state).state ≡ d)

-- one call puts the disc in or out, and the other puts it as it was
holding_undoes : (call other : Drive → Moved) (d : Drive) (b c : Bool) → d.deck.disc_in ≡ c
    → call d ≡ moves (holding d b) → other (holding d b) ≡ moves (holding (holding d b) c) → Undoes other d (call d)
holding_undoes call other d b c i h o =
    let e = o ∙ ap moves (holding-last d b c i) in
    rw h (ap (λ (r : Moved). r.number) e, ap (λ (r : Moved). r.state) e)

module _ (d : Drive) where
  pub lay-lift : (lay d).number ≡ 0 → Undoes lift d (lay d)
  lay-lift n =
      let g = sym (lay-tested d).zero ∙ eq-eqb _ _ n in
      let k = and_head _ _ g in
      let t = and_head _ _ (and_tail _ _ g) in
      let i = not-true _ (and_tail _ _ (and_tail _ _ g)) in
      holding_undoes lay lift d true false i (lay-lays d k t i) (lift-lifts (holding d true) (holding_known d true k) t refl)

  pub lift-lay : (lift d).number ≡ 0 → Undoes lay d (lift d)
  lift-lay n =
      let g = sym (lift-tested d).zero ∙ eq-eqb _ _ n in
      let k = and_head _ _ g in
      let t = and_head _ _ (and_tail _ _ g) in
      let i = and_tail _ _ (and_tail _ _ g) in
      holding_undoes lift lay d false true i (lift-lifts d k t i) (lay-lays (holding d false) (holding_known d false k) t refl)

-- ---- power-on

-- K3: the change attention after a power-on in that form
abbrev change_after : Form → Deck → Bool
change_after by_default m = is_loaded m
change_after without_change m = false

power_with : (f : Form) (d : Drive) → next (powering f) d ≡ power_on_with d (change_after f d.deck)
power_with by_default d = power_on-with d
power_with without_change d = power_on_without_change-with d

-- the state with that tray and disc
abbrev seated : Drive → Bool → Bool → Drive
seated d t b = with_deck d (record {
  tray_open = t;
  disc_in = b;
  lock = d.deck.lock;
  play = d.deck.play;
  page = d.deck.page;
  event = d.deck.event;
})

-- equal states have one tray and disc
equal-same : (d e : Drive) → e ≡ d → Same d.deck e.deck
equal-same d e h = (ap (λ (x : Drive). x.deck.tray_open) h, ap (λ (x : Drive). x.deck.disc_in) h)

pub power-same : (f : Form) (d : Drive) → Same d.deck (next (powering f) d).deck
power-same f d = equal-same (power_on_with d _) _ (power_with f d)

-- nothing but tray and disc of the handed state counts
change-same : (f : Form) (m n : Deck) → Same m n → change_after f n ≡ change_after f m
change-same by_default m n s = rw (s.0, s.1)
change-same without_change m n s = refl

powered-same : (d e : Drive) (b c : Bool) → Same d.deck e.deck → b ≡ c → power_on_with e b ≡ power_on_with d c
powered-same d e b c s h = λ i. power_on_with (seated e (s.0 i) (s.1 i)) (h i)

module _ (f : Form) (d e : Drive) where
  pub same_power : Same d.deck e.deck → next (powering f) e ≡ next (powering f) d
  same_power s = power_with f e ∙ powered-same d e _ _ s (change-same f d.deck e.deck s) ∙ sym (power_with f d)

  pub power-tells : next (powering f) e ≡ next (powering f) d → Same d.deck e.deck
  power-tells h = equal-same (power_on_with d _) (power_on_with e _) (sym (power_with f e) ∙ h ∙ power_with f d)

module _ (d : Drive) where
  -- the two forms differ in the change attention of a loaded drive
  pub forms-same : is_loaded d.deck ≡ false → next (powering by_default) d ≡ next (powering without_change) d
  forms-same h = power_with by_default d ∙ ap (power_on_with d) h ∙ sym (power_with without_change d)

  pub forms-apart : next (powering by_default) d ≡ next (powering without_change) d → is_loaded d.deck ≡ false
  forms-apart h = ap (λ (x : Drive). x.unit.change) (sym (power_with by_default d) ∙ h ∙ power_with without_change d)

-- ---- the button

-- a loaded drive that is not locked opens, and then closes
module _ (d : Drive) (k : is_known_state d ≡ true) (h : is_loaded d.deck ≡ true) (l : d.deck.lock ≡ false) where
  abbrev out : Drive
  out = shift d (opening d.deck)

  pub press-press : next pressing (next pressing d) ≡ shift out (closing out.deck)
  press-press =
      let o = ap (λ (r : Moved). r.state) (button-opens d k (not-true _ (and_head _ _ h)) l) in
      ap (λ (x : Drive). (button x).state) o
      ∙ ap (λ (r : Moved). r.state) (button-closes out (subst (λ (x : Drive). is_known_state x ≡ true) o (call_state pressing d k)) refl)

-- ---- packets

does-same : {polls : Bool} {m : Deck} {r : Result Deck} → Does false polls m r → Same m (next_of m r)
does-same failing = (refl, refl)
does-same (keeping s b) = (s.tray, s.disc)
does-same (closing-it w h) = absurd (false≢true w)
does-same (opening-it w h) = absurd (false≢true w)
does-same (clearing b) = (refl, refl)

-- 1Bh is the code of one command
code_traying : (p : List ℕ) → is_eject_or_load p ≡ is_traying (decode (code_of p)) p
unfolding class_of
code_traying p = ap (λ (b : Bool). b and lo_ej p) (decode_is StartStop refl (code_of p))

perform-same : (c : Command) (p : List ℕ) (m : Deck) (t l : List ℕ) → is_traying c p ≡ false → Same m (next_of m (perform c p m t l))
perform-same c p m t l h = does-same (subst (λ (b : Bool). Does b (is_polling c) m (perform c p m t l)) h (perform_does c p m t l))

kind-same : {c : Command} (s : Seen c) (p : List ℕ) (m : Deck) (t l : List ℕ) → is_traying c p ≡ false
    → Same m (comes_to m (kind_of s p (perform c p m t l)))
kind-same asking p m t l h = (refl, refl)
kind-same (freeing {c} f) p m t l h = perform-same c p m t l h
kind-same (ordering {c} n g) p m t l h = perform-same c p m t l h

pub packet-same : (p t l m : List ℕ) (d : Drive) → is_eject_or_load p ≡ false → Same d.deck (next (packet p t l m) d).deck
packet-same p t l m d h =
    let n = length m in
    let k = kind-same (seen (decode (code_of p))) p d.deck t l (sym (code_traying p) ∙ h) in
    rw (reply-kind d p t l n)
    (meets-keeps (Same d.deck) (refusal_of d p t n) (rule_of d p t n) (kind p d.deck t l) d.unit d.deck (refl, refl) (λ z. k))
