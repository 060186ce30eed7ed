-- K7, for the lab: from power-on, over any calls, the media event is "the latest of" the three since the last power-on or clearing answer.
use Rattle.std.specs.Prelude.{List, ◌∷◌, ℕ}
use Rattle.drive.specs.declared.state.Drive.{Drive}
use Rattle.claims.specs.History.{Standing}
use Rattle.claims.specs.Call.{Form, Call, powering, history, final, is_power_on}
use Rattle.claims.specs.MediaEvent.{Media, happens, replaces}

-- it happened, and later there was no power-on, none of the three, and no answer that clears
abbrev pub Latest : Media → Drive → List Call → Type 0
Latest k handed calls = Standing is_power_on (happens k) replaces (history handed calls)

-- the media event after the calls
abbrev pub event_after : Drive → List Call → ℕ
event_after handed calls = (final handed calls).deck.event

module _ (f : Form) (handed : Drive) (calls : List Call) where
  abbrev pub all : List Call
  all = powering f ∷ calls
