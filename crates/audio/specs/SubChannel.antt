-- 42h, READ SUB-CHANNEL format 01h: the play record, and where its position stands on the disc that is in.
use Rattle.std.specs.Prelude.{ℕ, ◌-◌, ◌/◌, ◌%◌, Bool, not, List, [], ◌∷◌, ◌++◌, eqb}
use Rattle.ground.specs.Tests.{◌and◌, choose◌then◌else◌}
use Rattle.ground.specs.Number.{bytes32}
use Rattle.address.specs.Address.{shown_address}
use Rattle.play.specs.declared.Play.{Play}
use Rattle.deck.specs.declared.Deck.{Deck}
use Rattle.play.specs.Play.{completed, none, with_status}
use Rattle.deck.specs.Deck.{with_play}
use Rattle.gate.specs.Gate.{Result}
use Rattle.table.specs.Layout.{is_track}
use Rattle.tracks.specs.declared.track.Track.{Track}
use Rattle.command.specs.Command.{byte, bit1, bit6}
use Rattle.command.specs.Done.{answering}
use Rattle.audio.specs.declared.sub_channel.SubAsk.{SubAsk}

-- "Packet fields are 004's": byte 1 bit 1 MSF, byte 2 bit 6 SubQ, byte 3 the format; its track, byte 6, is not looked at
abbrev pub sub_ask : ℕ → ℕ → ℕ → SubAsk
sub_ask b1 b2 b3 = record { msf = bit1 b1; sub_q = bit6 b2; format = b3 }

-- what the packet asks for
abbrev pub sub_ask_in : List ℕ → SubAsk
sub_ask_in p = sub_ask (byte p 1) (byte p 2) (byte p 3)

-- "with SubQ 1 another format is 05/24/00"
unfoldable pub sub_bad : SubAsk → Bool
sub_bad ask = ask.sub_q and not (eqb ask.format 0x01)

-- "Index is 1; without a track it, ADR/control, track and relative address are 0": u is the position's track
unfoldable pub index_of : Track → ℕ
index_of u = choose is_track u.number then 1 else 0

-- the relative address of block b
unfoldable pub relative : Track → ℕ → ℕ
relative u b = choose is_track u.number then b - u.start else 0

-- "(4 bytes each, or 0 M S F; relative MSF without the 150)": the minute is a byte, and below 100 of a position up to 449,849
unfoldable pub shown_relative : Bool → ℕ → List ℕ
shown_relative msf n = choose msf then 0 ∷ n / 75 / 60 % 256 ∷ n / 75 % 60 ∷ n % 75 ∷ [] else bytes32 n

-- "The answer is 0, status, 000Ch, 01h, ADR/control, track, index, then absolute and relative address"; no track has ADR/control and
-- number 0
abbrev pub position_bytes : Bool → Track → Play → List ℕ
position_bytes msf u r =
    0 ∷ r.status ∷ 0x00 ∷ 0x0C ∷ 0x01 ∷ u.flags ∷ u.number ∷ index_of u
    ∷ shown_address msf r.position ++ shown_relative msf (relative u r.position)

-- "SubQ 0 gives 0, status, 0000h only"
abbrev pub status_bytes : Play → List ℕ
status_bytes r = 0 ∷ r.status ∷ 0x00 ∷ 0x00 ∷ []

-- the full answer
unfoldable pub sub_bytes : SubAsk → Track → Play → List ℕ
sub_bytes ask u r = choose ask.sub_q then position_bytes ask.msf u r else status_bytes r

-- "13h turns to 15h after a GOOD 42h"
unfoldable pub reported : Play → Play
reported r = choose eqb r.status completed then with_status r none else r

-- the answer tells the record as it was; after any GOOD 42h, of SubQ 0 or length 0 too, 13h has turned, and position and end stay
abbrev pub read_sub_channel : SubAsk → Track → ℕ → Deck → Result Deck
read_sub_channel ask u limit m = answering (sub_bad ask) (with_play m (reported m.play)) (sub_bytes ask u m.play) limit
