-- K7 over the changer: from power-on, over any calls, the media event is "the latest of" a loading and a return since the last power-on or clearing
-- answer.
use Rattle.std.specs.Prelude.{List, ◌∷◌, ℕ}
use Rattle.changer.specs.declared.Changer.{Changer}
use Rattle.claims.specs.History.{Standing}
use Rattle.claims.specs.Call.{Form}
use Rattle.claims.specs.MediaEvent.{Media}
use Rattle.changerclaims.specs.ChangerCall.{Call, powering, history, final, is_power_on, happens, replaces}

-- it happened, and later there was no power-on, no loading, no return, and no answer that clears
abbrev pub Latest : Media → Changer → List Call → Type 0
Latest k handed calls = Standing is_power_on (happens k) replaces (history handed calls)

-- the media event after the calls
abbrev pub event_after : Changer → List Call → ℕ
event_after handed calls = (final handed calls).drive.deck.event

module _ (f : Form) (handed : Changer) (calls : List Call) where
  abbrev pub all : List Call
  all = powering f ∷ calls
