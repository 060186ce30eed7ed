-- Demand 3 through the registers, over the calls that reach the target: a call on the board is at most one of them, so the drive's laws hold of it.
use Rattle.std.specs.Prelude.{ℕ, ◌≡◌, true, false, ◌↔◌, eqb}
use Rattle.std.proofs.Math.Path.{refl}
use Rattle.std.proofs.Common.{ap, ◌∙◌}
use Rattle.std.proofs.lemmas.Bool.{false≢true}
use mathlib.Core.List.{List, [], ◌∷◌, ◌++◌}
use Rattle.ground.specs.Tests.{◌and◌}
use Rattle.drive.specs.declared.state.Drive.{Drive}
use Rattle.deck.specs.Deck.{is_loaded}
use Rattle.taskfile.specs.declared.TaskFile.{TaskFile}
use Rattle.taskfile.specs.declared.Access.TheVariants.{Reset}
use Rattle.taskfile.specs.declared.Due.{Due}
use Rattle.taskfile.specs.declared.Due.TheVariants.{Refused, Held, Performs, PerformsListed, Gives, Resets}
use Rattle.taskfile.specs.Host.{turn_of}
use Rattle.registers.specs.Registers.{step_by, step_of}
use Rattle.claims.specs.Telling.{Attention}
use Rattle.claims.specs.Call as drives
use Rattle.claims.specs.Call.{Form, powering, pressing, laying, lifting, moving_on, packet, is_pending, is_packet, is_needing, causes, tells}
use Rattle.claims.proofs.UnitLaws.{or-none}
use Rattle.claims.specs.Attentions.{Stands}
use Rattle.claims.proofs.Attentions.{attentions, attentions_once, attentions-told, attentions-refused, attentions_greeted}
use Rattle.claims.proofs.DriveDevice.{drive-blocks}
use Rattle.registerclaims.specs.RegisterCall.{Console, is_outside, Call, accessing, outside, answer, next, event, final, turn, due_call, target_call, target_calls, PowerOn, switching, resetting, have_packet, is_success}
use Rattle.registerclaims.proofs.RegisterHistory.{target_state, target-history, target-append, target_number, target-reset, answered_status}

-- ---- "From power-on, over any calls: an attention is pending exactly when its cause happened at or since the last power-on and no later
-- answer told it."

-- a power-on of the board, in either form or by reset, is one of the target
pub power_on_target : {c : Call} {f : Form} → PowerOn c f → (s : Console) → target_call c s ≡ powering f ∷ []
unfolding turn_of
power_on_target (switching f) s = refl
power_on_target (resetting v t m) s = refl

-- for any handed record and state: after a power-on and any calls, by what reached the target
pub register_attentions : (k : Attention) {f : Form} {c : Call} → PowerOn c f → (handed : Console) (calls : List Call)
    → (is_pending k (final handed (c ∷ calls)).drive ≡ true) ↔ Stands k handed.drive (target_calls handed (c ∷ calls))
register_attentions k {f} {c} o handed calls =
    rw (target-history handed (c ∷ calls), power_on_target o handed) (attentions k f handed.drive (target_calls (next c handed) calls))

-- a call on the board that makes the call b on the drive, which tells the attention: it was pending and "stops being pending"
pub register_attentions-told : (k : Attention) (c : Call) (s : Console) {b : drives.Call} → target_call c s ≡ b ∷ [] → tells k (drives.event b s.drive) ≡ true
    → (is_pending k s.drive ≡ true) × (is_pending k (next c s).drive ≡ false)
register_attentions-told k c s {b} h t =
    let w = attentions-told k b s.drive t in
    (w.0, ap (is_pending k) (target_state c s ∙ ap (drives.final s.drive) h) ∙ w.1)

-- causes before one telling count as one: after it nothing of the attention stands
pub register_attentions_once : (k : Attention) (handed : Console) (calls : List Call) (c : Call) {b : drives.Call}
    → target_call c (final handed calls) ≡ b ∷ [] → tells k (drives.event b (final handed calls).drive) ≡ true
    → Stands k handed.drive (target_calls handed (calls ++ c ∷ [])) → ⊥
register_attentions_once k handed calls c {b} h t w =
    attentions_once k handed.drive (target_calls handed calls) b (rw (target-history handed calls) at t)
    (rw (target-append handed calls (c ∷ []), h) at w)

-- a refused call on the board neither causes nor tells: it reaches the target in no way, or the target refuses it
pub register_attentions-refused : (k : Attention) (c : Call) (s : Console) {b : drives.Call} → target_call c s ≡ b ∷ []
    → ((answer c s).given.number ≡ 0 → ⊥) → (causes k (drives.event b s.drive) ≡ false) × (tells k (drives.event b s.drive) ≡ false)
register_attentions-refused k c s {b} h n = attentions-refused k b s.drive (λ z. n (target_number c s h ∙ z))

-- K3's "Power-on with a loaded disc now leaves both attentions pending by default", by reset
pub register_attentions-reset : (k : Attention) (v : ℕ) (t m : List ℕ) (s : Console) → is_loaded s.drive.deck ≡ true
    → is_pending k (next (accessing Reset v t m) s).drive ≡ true
register_attentions-reset k v t m s l = rw (target-reset s v t m).0 (attentions_greeted k s.drive l)

-- ---- "No command that needs a disc succeeds while one is pending."

module _ (k : Attention) (f n : TaskFile) (d : Drive) (t m : List ℕ) (h : is_pending k d ≡ true) where
  due-blocks : (u : Due)
      → have_packet is_needing (due_call u n t m) and (eqb (step_by u f n d t m).answer.number 0 and eqb (step_by u f n d t m).file.status 0x00) ≡ false
  unfolding ◌and◌
  due-blocks Refused = refl
  due-blocks Held = refl
  due-blocks Performs = rw (or-none, answered_status) (drive-blocks k (packet n.packet t [] m) d h)
  due-blocks PerformsListed = rw (or-none, answered_status) (drive-blocks k (packet n.packet t n.list m) d h)
  due-blocks Gives = refl
  due-blocks Resets = rw or-none

outside_packet : (c : drives.Call) → is_outside c ≡ true → is_packet is_needing c ≡ false
outside_packet (powering f) q = refl
outside_packet pressing q = refl
outside_packet laying q = refl
outside_packet lifting q = refl
outside_packet (moving_on k) q = refl
outside_packet (packet p t l m) q = absurd (false≢true q)

-- for any record and state: no access that completes a packet which needs a disc is answered GOOD while an attention is pending
pub register_no_success : (k : Attention) (c : Call) (s : Console) → is_pending k s.drive ≡ true → is_success (event c s) ≡ false
unfolding step_of ◌and◌
register_no_success k (accessing a v t m) s h = due-blocks k s.file (turn s a v).file s.drive t m h (turn s a v).due
register_no_success k (outside c q) s h = rw (or-none, outside_packet c q)

-- from power-on, over any calls: no call is such a success while an attention stands in what reached the target
pub register_no_success_since : (k : Attention) {f : Form} {c : Call} → PowerOn c f → (handed : Console) (calls : List Call) (b : Call)
    → Stands k handed.drive (target_calls handed (c ∷ calls)) → is_success (event b (final handed (c ∷ calls))) ≡ false
register_no_success_since k {f} {c} o handed calls b w =
    register_no_success k b (final handed (c ∷ calls)) ((register_attentions k o handed calls).1 w)
