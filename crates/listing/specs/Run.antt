-- The listing's run: "The listing program reads a table file and a file of 12-byte packets .., powers on loaded".
use Rattle.std.specs.Prelude.{ℕ, zero, suc, ◌*◌, true, false, List, [], take, drop}
use Rattle.drive.specs.declared.state.Drive.{Drive}
use Rattle.attention.specs.Sense.{no_sense}
use Rattle.play.specs.Play.{no_play}
use Rattle.page.specs.Page.{defaults}
use Rattle.deck.specs.Deck.{no_event}
use Rattle.drive.specs.State.{power_on_without_change}
use Rattle.table.specs.Layout.{bound}
use Rattle.outcome.specs.Outcome.{state_of}
use Rattle.target.specs.Packet.{answer}

-- "powers on loaded": tray closed with a disc in; K3: "A second form, which the listing program calls"
abbrev pub loaded : Drive
loaded = power_on_without_change (record {
  unit = record { power = false; change = false; sense = no_sense };
  deck = record { tray_open = false; disc_in = true; lock = false; play = no_play; page = defaults; event = no_event };
})

-- packet k of the file f, counted from 0: 12 bytes; "a short last packet is handed on as it is"
abbrev pub packet_at : List ℕ → ℕ → List ℕ
packet_at f k = take 12 (drop (12 * k) f)

-- the state after n packets of the file f on the table t: each meets the state that the one before left, an empty parameter list and a
-- response memory of `bound` bytes
unfoldable pub state_after : List ℕ → List ℕ → ℕ → Drive
state_after t f zero = loaded
state_after t f (suc n) = state_of (answer (state_after t f n) (packet_at f n) t [] bound)
