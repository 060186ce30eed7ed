-- K7, for the lab: from power-on, over any calls, the media event is "the latest of" the three since the last power-on or clearing answer.
use Rattle.std.specs.Prelude.{◌≡◌, refl, List, ◌↔◌}
use Rattle.std.proofs.Common.{eq-eqb, eqb-true}
use Rattle.drive.specs.declared.state.Drive.{Drive}
use Rattle.claims.specs.Call.{Form, Call, powering, answer, next, is_power_on}
use Rattle.claims.specs.MediaEvent.{Media, number_of, happens, replaces}
use Rattle.claims.specs.Stands.{stands}
use Rattle.claims.proofs.Known.{known-event}
use Rattle.claims.proofs.WaitingLaws.{no-event, is_waiting, event_turns}
use Rattle.claims.specs.Waiting.{Latest, event_after}
use Rattle.claims.specs.Waiting as said

module _ (f : Form) (handed : Drive) (calls : List Call) where
  abbrev all : List Call
  all = said.all f handed calls

  -- for any handed state: after a power-on, in either form, and any calls
  pub waiting : (k : Media) → (event_after handed all ≡ number_of k) ↔ Latest k handed all
  waiting k =
      let s = stands answer next (is_waiting k) is_power_on (happens k) replaces (event_turns k) (powering f) handed calls refl in
      (λ e. s.0 (eq-eqb _ _ e), λ w. eqb-true _ _ (s.1 w))

  -- and it is 0 exactly when none of the three is it
  pub waiting_none : (event_after handed all ≡ 0) ↔ ((k : Media) → Latest k handed all → ⊥)
  waiting_none = no-event (event_after handed all) (known-event f handed calls) (λ k. Latest k handed all) waiting
