-- "Disc E and its marked results": P1 to P12, "Loaded, nothing pending".
use Rattle.std.specs.Prelude.{ℕ, ◌≡◌, refl, Bool, true, false, List, [], ◌∷◌, eqb}
use Rattle.ground.specs.Tests.{◌and◌, ◌or◌, choose◌then◌else◌, every}
use Rattle.address.specs.Address.{is_msf, to_msf, to_block, shown_address}
use Rattle.attention.specs.declared.sense.Sense.{Sense}
use Rattle.deck.specs.declared.Deck.{Deck}
use Rattle.drive.specs.declared.state.Drive.{Drive}
use Rattle.attention.specs.Sense.{triple, sense_at, same_sense, among, is_known}
use Rattle.play.specs.Play.{no_play, is_status, is_play}
use Rattle.page.specs.Page.{defaults, among as among_bytes, is_setting}
use Rattle.attention.specs.Unit.{attend}
use Rattle.deck.specs.Deck.{no_event}
use Rattle.drive.specs.State.{is_known_state}
use Rattle.table.specs.Layout.{bound, is_track, is_extra}
use Rattle.table.specs.Row.{start_of, names, simple, free, plain, head_a0, head_a1, headed, addressed, row_test}
use Rattle.sessions.specs.Session.{one, size, listed, numbered, is_session, starts, before, follows, in_place, in_order}
use Rattle.disc.specs.Rules.{rule1, rule2, each_row, rises, out_before, begins_after, rising, rule7, first_broken, late_rules, row_rules, fault, is_fit}
use Rattle.tracks.specs.Track.{next_out, out_at, covers, wanted, next_found, found, track_of, is_mode, in_mode, all_in}
use Rattle.gate.specs.Unit.{pending_of}
use Rattle.gate.specs.Gate.{Reply, gate}
use Rattle.command.specs.Command.{decode}
use Rattle.toc.specs.Shown.{is_shown, shown_track, shown_tracks}
use Rattle.toc.specs.Answer.{headed as toc_headed, format0, toc_bytes, toc_bad}
use Rattle.command.specs.Done.{answering}
use Rattle.blocks.specs.Range.{over, in_range, ranged}
use Rattle.target.specs.Perform.{perform}
use Rattle.outcome.specs.Outcome.{state_of, bytes_of}
use Rattle.target.specs.Packet.{refusal_of, answer}

-- "Table E, 59 bytes"
abbrev pub table_e : List ℕ
table_e =
    0x00 ∷ 0x39 ∷ 0x01 ∷ 0x01
    ∷ 0x01 ∷ 0x14 ∷ 0x00 ∷ 0xA0 ∷ 0x00 ∷ 0x00 ∷ 0x00 ∷ 0x00 ∷ 0x01 ∷ 0x00 ∷ 0x00
    ∷ 0x01 ∷ 0x10 ∷ 0x00 ∷ 0xA1 ∷ 0x00 ∷ 0x00 ∷ 0x00 ∷ 0x00 ∷ 0x02 ∷ 0x00 ∷ 0x00
    ∷ 0x01 ∷ 0x10 ∷ 0x00 ∷ 0xA2 ∷ 0x00 ∷ 0x00 ∷ 0x00 ∷ 0x00 ∷ 0x00 ∷ 0x06 ∷ 0x00
    ∷ 0x01 ∷ 0x14 ∷ 0x00 ∷ 0x01 ∷ 0x00 ∷ 0x00 ∷ 0x00 ∷ 0x00 ∷ 0x00 ∷ 0x02 ∷ 0x00
    ∷ 0x01 ∷ 0x10 ∷ 0x00 ∷ 0x02 ∷ 0x00 ∷ 0x00 ∷ 0x00 ∷ 0x00 ∷ 0x00 ∷ 0x04 ∷ 0x00
    ∷ []

-- "Loaded, nothing pending"
abbrev pub loaded_e : Drive
loaded_e = record {
  unit = record { power = false; change = false; sense = triple 0x00 0x00 0x00 };
  deck = record { tray_open = false; disc_in = true; lock = false; play = no_play; page = defaults; event = no_event };
}

-- a packet to the loaded drive with Table E, no parameter list and 6,538 bytes of response memory; the address of M:S:F; the M:S:F of an
-- address
pub data Question : Type 0 where
  packet : (bytes : List ℕ) → Question
  address_for : (m s f : ℕ) → Question
  msf_for : (a : ℕ) → Question

-- what comes of it: the refusal's number or 0, beside 4 the first broken rule, the status, the sense held afterwards, the bytes or the
-- numbers asked for, start and count
pub record Outcome : Type 0 where
  pub number : ℕ
  pub rule : ℕ
  pub status : ℕ
  pub sense : Sense
  pub shown : List ℕ
  pub start : ℕ
  pub count : ℕ

-- GOOD with these bytes, or a conversion to these numbers
abbrev pub gives : List ℕ → Outcome
gives b = record { number = 0; rule = 0; status = 0x00; sense = triple 0x00 0x00 0x00; shown = b; start = 0; count = 0 }

-- GOOD, naming blocks
abbrev pub reads : ℕ → ℕ → Outcome
reads a n = record { number = 0; rule = 0; status = 0x00; sense = triple 0x00 0x00 0x00; shown = []; start = a; count = n }

-- CHECK CONDITION with a triple
abbrev pub fails : ℕ → ℕ → ℕ → Outcome
fails k a q = record { number = 0; rule = 0; status = 0x02; sense = triple k a q; shown = []; start = 0; count = 0 }

-- refused by number, with zeros
abbrev pub refuses : ℕ → List ℕ → Outcome
refuses n b = record { number = n; rule = 0; status = 0x00; sense = triple 0x00 0x00 0x00; shown = b; start = 0; count = 0 }

-- what a packet's answer shows
abbrev pub shown_by : Reply Deck → Outcome
shown_by a = record {
  number = a.number;
  rule = a.rule;
  status = a.status;
  sense = (state_of a).unit.sense;
  shown = bytes_of a;
  start = a.start;
  count = a.count;
}

-- what the definitions give
unfoldable pub asked : Question → Outcome
asked (packet p) = shown_by (answer loaded_e p table_e [] bound)
asked (address_for m s f) =
    let a = to_block m s f in
    record { number = a.number; rule = 0; status = 0x00; sense = triple 0x00 0x00 0x00; shown = a.address ∷ []; start = 0; count = 0 }
asked (msf_for b) =
    let a = to_msf b in
    record {
      number = a.number;
      rule = 0;
      status = 0x00;
      sense = triple 0x00 0x00 0x00;
      shown = a.minute ∷ a.second ∷ a.frame ∷ [];
      start = 0;
      count = 0;
    }

unfoldable pub same_bytes : List ℕ → List ℕ → Bool
unfolding ◌and◌
same_bytes [] [] = true
same_bytes [] (y ∷ ys) = false
same_bytes (x ∷ xs) [] = false
same_bytes (x ∷ xs) (y ∷ ys) = eqb x y and same_bytes xs ys

unfoldable pub same_outcome : Outcome → Outcome → Bool
same_outcome a b =
    eqb a.number b.number and eqb a.rule b.rule and eqb a.status b.status and same_sense a.sense b.sense
    and same_bytes a.shown b.shown and eqb a.start b.start and eqb a.count b.count

-- a question and its marked result
pub record Mark : Type 0 where
  pub question : Question
  pub result : Outcome

abbrev pub mark : Question → Outcome → Mark
mark q r = record { question = q; result = r }

-- every question of the list comes out as marked
unfoldable pub all_marked : List Mark → Bool
unfolding ◌and◌
all_marked [] = true
all_marked (m ∷ ms) = same_outcome (asked m.question) m.result and all_marked ms

-- P1 to P12, those of READ by 28h and once more by A8h
abbrev pub marks : List Mark
marks =
    -- P1
    mark (packet (0x25 ∷ 0x00 ∷ 0x00 ∷ 0x00 ∷ 0x00 ∷ 0x00 ∷ 0x00 ∷ 0x00 ∷ 0x00 ∷ 0x00 ∷ 0x00 ∷ 0x00 ∷ [])) (gives (0x00 ∷ 0x00 ∷ 0x01 ∷ 0x2B ∷ 0x00 ∷ 0x00 ∷ 0x08 ∷ 0x00 ∷ []))
    -- P2
    ∷ mark (packet (0x43 ∷ 0x00 ∷ 0x00 ∷ 0x00 ∷ 0x00 ∷ 0x00 ∷ 0x00 ∷ 0x03 ∷ 0x24 ∷ 0x00 ∷ 0x00 ∷ 0x00 ∷ [])) (gives (0x00 ∷ 0x1A ∷ 0x01 ∷ 0x02 ∷ 0x00 ∷ 0x14 ∷ 0x01 ∷ 0x00 ∷ 0x00 ∷ 0x00 ∷ 0x00 ∷ 0x00 ∷ 0x00 ∷ 0x10 ∷ 0x02 ∷ 0x00 ∷ 0x00 ∷ 0x00 ∷ 0x00 ∷ 0x96 ∷ 0x00 ∷ 0x10 ∷ 0xAA ∷ 0x00 ∷ 0x00 ∷ 0x00 ∷ 0x01 ∷ 0x2C ∷ []))
    -- P3
    ∷ mark (packet (0x43 ∷ 0x00 ∷ 0x00 ∷ 0x00 ∷ 0x00 ∷ 0x00 ∷ 0x00 ∷ 0x00 ∷ 0x04 ∷ 0x00 ∷ 0x00 ∷ 0x00 ∷ [])) (gives (0x00 ∷ 0x1A ∷ 0x01 ∷ 0x02 ∷ []))
    -- P4
    ∷ mark (packet (0x43 ∷ 0x02 ∷ 0x00 ∷ 0x00 ∷ 0x00 ∷ 0x00 ∷ 0xAA ∷ 0x03 ∷ 0x24 ∷ 0x00 ∷ 0x00 ∷ 0x00 ∷ [])) (gives (0x00 ∷ 0x0A ∷ 0x01 ∷ 0x02 ∷ 0x00 ∷ 0x10 ∷ 0xAA ∷ 0x00 ∷ 0x00 ∷ 0x00 ∷ 0x06 ∷ 0x00 ∷ []))
    -- P5
    ∷ mark (packet (0x43 ∷ 0x00 ∷ 0x00 ∷ 0x00 ∷ 0x00 ∷ 0x00 ∷ 0x03 ∷ 0x03 ∷ 0x24 ∷ 0x00 ∷ 0x00 ∷ 0x00 ∷ [])) (fails 0x05 0x24 0x00)
    -- P6
    ∷ mark (packet (0x28 ∷ 0x00 ∷ 0x00 ∷ 0x00 ∷ 0x00 ∷ 0x95 ∷ 0x00 ∷ 0x00 ∷ 0x01 ∷ 0x00 ∷ 0x00 ∷ 0x00 ∷ [])) (reads 149 1)
    -- P7
    ∷ mark (packet (0x28 ∷ 0x00 ∷ 0x00 ∷ 0x00 ∷ 0x00 ∷ 0x95 ∷ 0x00 ∷ 0x00 ∷ 0x02 ∷ 0x00 ∷ 0x00 ∷ 0x00 ∷ [])) (fails 0x05 0x64 0x00)
    -- P8
    ∷ mark (packet (0x28 ∷ 0x00 ∷ 0x00 ∷ 0x00 ∷ 0x00 ∷ 0x95 ∷ 0x00 ∷ 0x00 ∷ 0x98 ∷ 0x00 ∷ 0x00 ∷ 0x00 ∷ [])) (fails 0x05 0x21 0x00)
    -- P9
    ∷ mark (packet (0x28 ∷ 0x00 ∷ 0x00 ∷ 0x00 ∷ 0x00 ∷ 0x96 ∷ 0x00 ∷ 0x00 ∷ 0x00 ∷ 0x00 ∷ 0x00 ∷ 0x00 ∷ [])) (reads 150 0)
    -- P10
    ∷ mark (packet (0x28 ∷ 0x00 ∷ 0x00 ∷ 0x00 ∷ 0x01 ∷ 0x2C ∷ 0x00 ∷ 0x00 ∷ 0x00 ∷ 0x00 ∷ 0x00 ∷ 0x00 ∷ [])) (fails 0x05 0x21 0x00)
    -- P6 by A8h
    ∷ mark (packet (0xA8 ∷ 0x00 ∷ 0x00 ∷ 0x00 ∷ 0x00 ∷ 0x95 ∷ 0x00 ∷ 0x00 ∷ 0x00 ∷ 0x01 ∷ 0x00 ∷ 0x00 ∷ [])) (reads 149 1)
    -- P7 by A8h
    ∷ mark (packet (0xA8 ∷ 0x00 ∷ 0x00 ∷ 0x00 ∷ 0x00 ∷ 0x95 ∷ 0x00 ∷ 0x00 ∷ 0x00 ∷ 0x02 ∷ 0x00 ∷ 0x00 ∷ [])) (fails 0x05 0x64 0x00)
    -- P8 by A8h
    ∷ mark (packet (0xA8 ∷ 0x00 ∷ 0x00 ∷ 0x00 ∷ 0x00 ∷ 0x95 ∷ 0x00 ∷ 0x00 ∷ 0x00 ∷ 0x98 ∷ 0x00 ∷ 0x00 ∷ [])) (fails 0x05 0x21 0x00)
    -- P9 by A8h
    ∷ mark (packet (0xA8 ∷ 0x00 ∷ 0x00 ∷ 0x00 ∷ 0x00 ∷ 0x96 ∷ 0x00 ∷ 0x00 ∷ 0x00 ∷ 0x00 ∷ 0x00 ∷ 0x00 ∷ [])) (reads 150 0)
    -- P10 by A8h
    ∷ mark (packet (0xA8 ∷ 0x00 ∷ 0x00 ∷ 0x00 ∷ 0x01 ∷ 0x2C ∷ 0x00 ∷ 0x00 ∷ 0x00 ∷ 0x00 ∷ 0x00 ∷ 0x00 ∷ [])) (fails 0x05 0x21 0x00)
    -- P11
    ∷ mark (address_for 99 59 74) (gives (449849 ∷ []))
    -- P12
    ∷ mark (msf_for 449850) (refuses 8 (0 ∷ 0 ∷ 0 ∷ []))
    ∷ []

pub marked : all_marked marks ≡ true
unfolding all_marked same_outcome same_bytes asked ◌and◌ ◌or◌ choose◌then◌else◌ every is_msf to_msf to_block sense_at same_sense among is_known is_status is_play among_bytes is_setting is_known_state attend is_track is_extra start_of names simple free plain head_a0 head_a1 headed addressed row_test one size listed numbered is_session starts before follows in_place in_order rule1 rule2 each_row rises out_before begins_after rising rule7 first_broken late_rules row_rules fault is_fit next_out out_at covers wanted next_found found track_of is_mode in_mode all_in pending_of gate decode shown_address is_shown shown_track shown_tracks toc_headed format0 toc_bytes toc_bad answering over in_range ranged perform refusal_of answer
marked = refl
