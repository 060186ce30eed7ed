-- "From power-on, over any calls: an attention is pending exactly when its cause happened at or since the last power-on
-- and no later answer told it."
use Rattle.std.specs.Prelude.{◌≡◌, refl, true, false, List, [], ◌∷◌, ◌++◌, ◌↔◌}
use Rattle.std.proofs.Common.{◌∙◌}
use Rattle.ground.specs.Tests.{or_left}
use Rattle.drive.specs.declared.state.Drive.{Drive}
use Rattle.deck.specs.Deck.{is_loaded}
use Rattle.claims.specs.Telling.{Attention}
use Rattle.claims.specs.Call.{Form, by_default, Call, powering, answer, next, event, final, is_pending, causes, tells}
use Rattle.claims.specs.Device.{pends, told-once}
use Rattle.claims.proofs.DriveDevice.{drive, drive_turns, drive-told, greeting-causes}
use Rattle.claims.proofs.RefusalLaws.{refused_silent}
use Rattle.claims.specs.Attentions.{Stands}

-- for any handed state: after a power-on, in either form, and any calls
pub attentions : (k : Attention) (f : Form) (handed : Drive) (calls : List Call)
    → (is_pending k (final handed (powering f ∷ calls)) ≡ true) ↔ Stands k handed (powering f ∷ calls)
attentions k f handed calls = pends drive k (powering f) handed calls refl

-- K3: "Power-on with a loaded disc now leaves both attentions pending by default"
pub attentions_greeted : (k : Attention) (d : Drive) → is_loaded d.deck ≡ true → is_pending k (next (powering by_default) d) ≡ true
attentions_greeted k d l = drive_turns k (powering by_default) d ∙ or_left _ _ (greeting-causes k d l)

-- causes before one telling count as one: once an answer tells the attention, nothing of it stands, however many causes came before
pub attentions_once : (k : Attention) (handed : Drive) (calls : List Call) (c : Call)
    → tells k (event c (final handed calls)) ≡ true → Stands k handed (calls ++ c ∷ []) → ⊥
attentions_once k handed calls c t = told-once drive k handed calls c t (drive-told k c (final handed calls) t).apart

-- an answer tells an attention only where it is pending, and then "that one stops being pending"
pub attentions-told : (k : Attention) (c : Call) (d : Drive) → tells k (event c d) ≡ true → (is_pending k d ≡ true) × (is_pending k (next c d) ≡ false)
attentions-told k c d t = let w = drive-told k c d t in (w.due, w.gone)

-- a refused call neither causes nor tells
pub attentions-refused : (k : Attention) (c : Call) (d : Drive) → ((answer c d).number ≡ 0 → ⊥) → (causes k (event c d) ≡ false) × (tells k (event c d) ≡ false)
attentions-refused = refused_silent
