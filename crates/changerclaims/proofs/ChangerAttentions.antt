-- Demand 3 over the changer: which attention is pending, that nothing succeeds under one, and what two runs may not tell.
use Rattle.std.specs.Prelude.{◌≡◌, refl, true, false, List, [], ◌∷◌, ◌++◌, ◌↔◌, ℕ, length}
use Rattle.ground.specs.Tests.{◌and◌}
use Rattle.changer.specs.declared.Slot.{Slot}
use Rattle.changer.specs.declared.Changer.{Changer}
use Rattle.changer.specs.ChangerPacket.{is_own}
use Rattle.claims.specs.Telling.{Attention, change, is_good}
use Rattle.claims.specs.Call.{Form, is_needing}
use Rattle.claims.specs.Runs.{Pairwise, pairwise_map, runs_long}
use Rattle.claims.specs.Carried.{runs-carried}
use Rattle.claims.specs.Device.{pends, blocked, told-once, runs}
use Rattle.changerclaims.specs.ChangerCall.{Call, powering, packet, answer, next, event, history, final, is_pending, is_packet, is_load, is_loading, is_cause, causes, tells, is_success, Alike, same, tables, Sharing, itself, fitting, lend, left, Board, final_on}
use Rattle.changerclaims.proofs.ChangerDevice.{changer, changer-told, power_alone, loading-disc, refused_silent, packet_blocked, own_blocked, cause_attends, lend_alike, left_alike}
use Rattle.changerclaims.specs.ChangerAttentions.{Stands, AgreeUpTo, AgreeCarried}

-- for any handed state: after a power-on, in either form, and any calls, each packet with any slots
pub changer_attentions : (k : Attention) (f : Form) (handed : Changer) (calls : List Call)
    → (is_pending k (final handed (powering f ∷ calls)) ≡ true) ↔ Stands k handed (powering f ∷ calls)
changer_attentions k f handed calls = pends changer k (powering f) handed calls refl

-- causes before one telling count as one: once an answer tells the attention, nothing of it stands, however many causes came before
pub changer_attentions_once : (k : Attention) (handed : Changer) (calls : List Call) (c : Call)
    → tells k (event c (final handed calls)) ≡ true → Stands k handed (calls ++ c ∷ []) → ⊥
changer_attentions_once k handed calls c t = told-once changer k handed calls c t (changer-told k c (final handed calls) t).apart

-- an answer tells an attention only where it is pending, and then "that one stops being pending"
pub changer_attentions-told : (k : Attention) (c : Call) (d : Changer) → tells k (event c d) ≡ true
    → (is_pending k d ≡ true) × (is_pending k (next c d) ≡ false)
changer_attentions-told k c d t = let w = changer-told k c d t in (w.due, w.gone)

-- a refused call neither causes nor tells
pub changer_attentions-refused : (k : Attention) (c : Call) (d : Changer) → ((answer c d).given.number ≡ 0 → ⊥)
    → (causes k (event c d) ≡ false) × (tells k (event c d) ≡ false)
changer_attentions-refused = refused_silent

-- "Power-on takes .. an empty closed drive": the change attention is not pending after it, in either form
pub changer_attentions-powered : (f : Form) (d : Changer) → is_pending change (next (powering f) d) ≡ false
changer_attentions-powered = power_alone

-- "it is a loading": a Load answered GOOD that took a disc is one answered GOOD after which a disc is in the drive
pub changer_loading : (c : Call) (d : Changer)
    → is_loading (event c d) ≡ is_packet is_load c and (is_good (answer c d).given and (next c d).drive.deck.disc_in)
changer_loading = loading-disc

-- ---- "No command that needs a disc succeeds while one is pending."

-- in any state, with any table, list, memory and slots: a packet that needs a disc is not answered GOOD while an attention is pending
pub changer_no_success : (k : Attention) (d : Changer) (p t l m : List ℕ) (s : List Slot) → is_pending k d ≡ true → is_needing p ≡ true
    → is_good (answer (packet p t l m s) d).given ≡ false
changer_no_success = packet_blocked

-- nor is A6h, BDh or 1Bh with LoEj 1, which need none: a pending attention is told first
pub changer_no_success-own : (k : Attention) (d : Changer) (p t l m : List ℕ) (s : List Slot) → is_pending k d ≡ true → is_own p ≡ true
    → is_good (answer (packet p t l m s) d).given ≡ false
changer_no_success-own = own_blocked

-- from power-on, in either form, over any calls: no call is such a success while one stands in the history
pub changer_no_success_since : (k : Attention) (f : Form) (handed : Changer) (calls : List Call) (c : Call)
    → Stands k handed (powering f ∷ calls) → is_success (event c (final handed (powering f ∷ calls))) ≡ false
changer_no_success_since k f handed calls c = blocked changer k (powering f) handed calls c refl

-- up to that answer the runs agree even where the parameter lists differ: of any two lists, with one table or two fit ones
pub changer_two_runs_lists : (handed : Changer) (common : List Call) (c : Call) → is_cause (event c (final handed common)) ≡ true
    → {cs ds : List Call} → Pairwise Alike cs ds → AgreeUpTo handed common c cs ds
changer_two_runs_lists handed common c h p i e f = runs changer handed common c (cause_attends c (final handed common) h) p i

pub changer_two_runs_lists-carried : (handed : Board) (common : List Call) (c : Call)
    → is_cause (event (lend (final_on handed common).memory c) (final_on handed common).state) ≡ true
    → {cs ds : List Call} → Pairwise Alike cs ds → AgreeCarried handed common c cs ds
changer_two_runs_lists-carried handed common c h p i e f =
    runs-carried changer lend left lend_alike left_alike handed common c
    (cause_attends (lend (final_on handed common).memory c) (final_on handed common).state h) p i

-- and the second run has an event at each place where the first has one
pub changer_two_runs_long : (handed : Changer) (common : List Call) (c : Call) {cs ds : List Call} → Pairwise Alike cs ds
    → length (history handed (common ++ c ∷ cs)) ≡ length (history handed (common ++ c ∷ ds))
changer_two_runs_long handed common c p = runs_long answer next handed common c p

-- K4: "share the lent parameter list"; K11: "Demand 3's runs share the slot records"
sharing_alike : (c e : Call) → Sharing c e → Alike c e
sharing_alike c e (itself b) = same b
sharing_alike c e (fitting p l m s f g) = tables p m s f g

-- calls that share their lists and slots are alike, one by one
shared : {cs ds : List Call} → Pairwise Sharing cs ds → Pairwise Alike cs ds
shared = pairwise_map sharing_alike

-- calls in common, then c, a power-on in either form or a loading, then calls that are alike, one by one, but for the fit tables lent
pub changer-two-runs : (handed : Changer) (common : List Call) (c : Call) → is_cause (event c (final handed common)) ≡ true
    → {cs ds : List Call} → Pairwise Sharing cs ds → AgreeUpTo handed common c cs ds
changer-two-runs handed common c h p = changer_two_runs_lists handed common c h (shared p)

pub changer-two-runs-carried : (handed : Board) (common : List Call) (c : Call)
    → is_cause (event (lend (final_on handed common).memory c) (final_on handed common).state) ≡ true
    → {cs ds : List Call} → Pairwise Sharing cs ds → AgreeCarried handed common c cs ds
changer-two-runs-carried handed common c h p = changer_two_runs_lists-carried handed common c h (shared p)
