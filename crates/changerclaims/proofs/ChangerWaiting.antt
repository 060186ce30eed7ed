-- K7 over the changer: from power-on, over any calls, the media event is "the latest of" a loading and a return since the last power-on or clearing
-- answer.
use Rattle.std.specs.Prelude.{◌≡◌, refl, List, ◌↔◌}
use Rattle.std.proofs.lemmas.Bool.{false≢true}
use Rattle.std.proofs.Common.{eq-eqb, eqb-true}
use Rattle.changer.specs.declared.Changer.{Changer}
use Rattle.claims.specs.Call.{Form}
use Rattle.claims.specs.MediaEvent.{Media, pressed, number_of}
use Rattle.claims.specs.Stands.{stands}
use Rattle.claims.proofs.WaitingLaws.{no-event}
use Rattle.changerclaims.specs.ChangerCall.{Call, powering, answer, next, is_power_on, happens, replaces}
use Rattle.changerclaims.proofs.ChangerWaitingLaws.{is_waiting, event_turns, event-most}
use Rattle.changerclaims.specs.ChangerWaiting.{Latest, event_after}
use Rattle.changerclaims.specs.ChangerWaiting as said

module _ (f : Form) (handed : Changer) (calls : List Call) where
  abbrev all : List Call
  all = said.all f handed calls

  -- for any handed state: after a power-on, in either form, and any calls
  pub changer-waiting : (k : Media) → (event_after handed all ≡ number_of k) ↔ Latest k handed all
  changer-waiting k =
      let s = stands answer next (is_waiting k) is_power_on (happens k) replaces (event_turns k) (powering f) handed calls refl in
      (λ e. s.0 (eq-eqb _ _ e), λ w. eqb-true _ _ (s.1 w))

  -- and it is 0 exactly when none of the three is it
  pub changer-waiting-none : (event_after handed all ≡ 0) ↔ ((k : Media) → Latest k handed all → ⊥)
  changer-waiting-none = no-event (event_after handed all) (event-most f handed calls) (λ k. Latest k handed all) changer-waiting

  -- 1 is never waiting: there is no button
  pub changer-waiting-unpressed : event_after handed all ≡ 1 → ⊥
  changer-waiting-unpressed e = false≢true ((changer-waiting pressed).0 e).caused
