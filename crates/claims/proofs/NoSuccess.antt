-- "No command that needs a disc succeeds while one is pending."
use Rattle.std.specs.Prelude.{◌≡◌, refl, true, false, List, ◌∷◌, ℕ}
use Rattle.drive.specs.declared.state.Drive.{Drive}
use Rattle.deck.specs.Deck.{is_loaded}
use Rattle.command.specs.Command.{decode, code_of, needs_disc}
use Rattle.claims.specs.Telling.{Attention, is_good}
use Rattle.claims.specs.History.{None, standing_here}
use Rattle.claims.specs.Call.{Form, by_default, Call, powering, packet, answer, next, event, history, final, is_pending, is_power_on, causes, tells, is_needing, is_success}
use Rattle.claims.specs.Attentions.{Stands}
use Rattle.claims.proofs.PacketLaws.{packet-needs}
use Rattle.claims.specs.Device.{blocked}
use Rattle.claims.proofs.DriveDevice.{drive, packet_blocked, greeting-causes}

-- in any state, with any table, list and memory: a packet that needs a disc is not answered GOOD while an attention is pending
pub no_success : (k : Attention) (d : Drive) (p t l m : List ℕ) → is_pending k d ≡ true → is_needing p ≡ true → is_good (answer (packet p t l m) d) ≡ false
no_success = packet_blocked

-- from power-on, in either form, over any calls: no call is such a success while one stands in the history
pub no_success_since : (k : Attention) (f : Form) (handed : Drive) (calls : List Call) (c : Call)
    → Stands k handed (powering f ∷ calls) → is_success (event c (final handed (powering f ∷ calls))) ≡ false
no_success_since k f handed calls c = blocked drive k (powering f) handed calls c refl

-- K3: after a power-on by default with a loaded disc and any calls without a further power-on, no call is such a success before each of
-- the two attentions was told
pub no_success_greeted : (k : Attention) (handed : Drive) (calls : List Call) (c : Call) → is_loaded handed.deck ≡ true
    → None is_power_on (history (next (powering by_default) handed) calls) → None (tells k) (history (next (powering by_default) handed) calls)
    → is_success (event c (final handed (powering by_default ∷ calls))) ≡ false
no_success_greeted k handed calls c l n t =
    no_success_since k by_default handed calls c (standing_here is_power_on (causes k) (tells k) (greeting-causes k handed l) n t)

-- the commands that need a disc, named by their codes, are those for which the drive looks for one
pub no_success-needing : (p : List ℕ) → is_needing p ≡ needs_disc (decode (code_of p)) p
no_success-needing = packet-needs
