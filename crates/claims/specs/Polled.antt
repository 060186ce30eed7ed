-- K7 on Disc E: a run of polls, presses, openings and loadings, each with its marked result and the media event after it.
use Rattle.std.specs.Prelude.{ℕ, ◌≡◌, refl, Bool, true, List, [], ◌∷◌, eqb}
use Rattle.std.specs.Int.Count.{count_trailing_zeros}
use Rattle.ground.specs.Tests.{◌and◌, ◌or◌, choose◌then◌else◌, every}
use Rattle.address.specs.Address.{is_msf}
use Rattle.deck.specs.declared.Deck.{Deck}
use Rattle.attention.specs.Sense.{triple, sense_at, same_sense, among, is_known}
use Rattle.play.specs.Play.{is_status, is_play}
use Rattle.page.specs.Page.{among as among_bytes, is_setting}
use Rattle.attention.specs.Unit.{attend}
use Rattle.drive.specs.State.{is_known_state, power_on, button}
use Rattle.table.specs.Layout.{is_track, is_extra}
use Rattle.table.specs.Row.{start_of, names, simple, free, plain, head_a0, head_a1, headed, addressed, row_test}
use Rattle.sessions.specs.Session.{one, size, listed, numbered, is_session, starts, before, follows, in_place, in_order}
use Rattle.disc.specs.Rules.{rule1, rule2, each_row, rises, out_before, begins_after, rising, rule7, first_broken, late_rules, row_rules, fault, is_fit}
use Rattle.gate.specs.Unit.{pending_of}
use Rattle.gate.specs.Gate.{gate}
use Rattle.command.specs.Command.{decode}
use Rattle.command.specs.Done.{answering}
use Rattle.command.specs.Tray.{eject, load, start_stop}
use Rattle.event.specs.EventClass.{waiting, or_else, class_for}
use Rattle.event.specs.EventAnswer.{media_status, event_of, status_of, event_bytes, cleared}
use Rattle.target.specs.Perform.{perform}
use Rattle.target.specs.Packet.{refusal_of, answer}
use Rattle.claims.specs.Marked.{loaded_e, Outcome, gives, fails, refuses, same_bytes, same_outcome}
use Rattle.claims.specs.Stepped.{packet, powers, presses, comes, after, Mark, mark, all_stepped}

-- that media event waits, or none where it is 0
unfoldable pub waits : ℕ → Deck → Bool
waits e m = eqb m.event e

-- GOOD with these bytes, a sense being held all the same
abbrev pub gives_held : ℕ → ℕ → ℕ → List ℕ → Outcome
gives_held k a q b = record { number = 0; rule = 0; status = 0x00; sense = triple k a q; shown = b; start = 0; count = 0 }

abbrev pub poll_marks : List Mark
poll_marks =
    -- nothing waiting, asked 18h: the class external, zeros
    mark (packet (0x4A ∷ 0x01 ∷ 0x00 ∷ 0x00 ∷ 0x18 ∷ 0x00 ∷ 0x00 ∷ 0x00 ∷ 0x08 ∷ 0x00 ∷ 0x00 ∷ 0x00 ∷ [])) (gives (0x00 ∷ 0x06 ∷ 0x03 ∷ 0x18 ∷ 0x00 ∷ 0x00 ∷ 0x00 ∷ 0x00 ∷ [])) (waits 0)
    -- eject with a disc
    ∷ mark (packet (0x1B ∷ 0x00 ∷ 0x00 ∷ 0x00 ∷ 0x02 ∷ 0x00 ∷ 0x00 ∷ 0x00 ∷ 0x00 ∷ 0x00 ∷ 0x00 ∷ 0x00 ∷ [])) (gives []) (waits 3)
    -- asked 18h: event 3, status 03h, and that clears it
    ∷ mark (packet (0x4A ∷ 0x01 ∷ 0x00 ∷ 0x00 ∷ 0x18 ∷ 0x00 ∷ 0x00 ∷ 0x00 ∷ 0x08 ∷ 0x00 ∷ 0x00 ∷ 0x00 ∷ [])) (gives (0x00 ∷ 0x06 ∷ 0x04 ∷ 0x18 ∷ 0x03 ∷ 0x03 ∷ 0x00 ∷ 0x00 ∷ [])) (waits 0)
    -- a loading: the change attention is pending from here on
    ∷ mark (packet (0x1B ∷ 0x00 ∷ 0x00 ∷ 0x00 ∷ 0x03 ∷ 0x00 ∷ 0x00 ∷ 0x00 ∷ 0x00 ∷ 0x00 ∷ 0x00 ∷ 0x00 ∷ [])) (gives []) (waits 2)
    -- asked 08h: zeros, and the event stays
    ∷ mark (packet (0x4A ∷ 0x01 ∷ 0x00 ∷ 0x00 ∷ 0x08 ∷ 0x00 ∷ 0x00 ∷ 0x00 ∷ 0x08 ∷ 0x00 ∷ 0x00 ∷ 0x00 ∷ [])) (gives (0x00 ∷ 0x06 ∷ 0x03 ∷ 0x18 ∷ 0x00 ∷ 0x00 ∷ 0x00 ∷ 0x00 ∷ [])) (waits 2)
    -- length 4, and length 0: it stays
    ∷ mark (packet (0x4A ∷ 0x01 ∷ 0x00 ∷ 0x00 ∷ 0x18 ∷ 0x00 ∷ 0x00 ∷ 0x00 ∷ 0x04 ∷ 0x00 ∷ 0x00 ∷ 0x00 ∷ [])) (gives (0x00 ∷ 0x06 ∷ 0x04 ∷ 0x18 ∷ [])) (waits 2)
    ∷ mark (packet (0x4A ∷ 0x01 ∷ 0x00 ∷ 0x00 ∷ 0x18 ∷ 0x00 ∷ 0x00 ∷ 0x00 ∷ 0x00 ∷ 0x00 ∷ 0x00 ∷ 0x00 ∷ [])) (gives []) (waits 2)
    -- asked 01h, and nothing: no class is supported
    ∷ mark (packet (0x4A ∷ 0x01 ∷ 0x00 ∷ 0x00 ∷ 0x01 ∷ 0x00 ∷ 0x00 ∷ 0x00 ∷ 0x08 ∷ 0x00 ∷ 0x00 ∷ 0x00 ∷ [])) (gives (0x00 ∷ 0x02 ∷ 0x80 ∷ 0x18 ∷ [])) (waits 2)
    ∷ mark (packet (0x4A ∷ 0x01 ∷ 0x00 ∷ 0x00 ∷ 0x00 ∷ 0x00 ∷ 0x00 ∷ 0x00 ∷ 0x08 ∷ 0x00 ∷ 0x00 ∷ 0x00 ∷ [])) (gives (0x00 ∷ 0x02 ∷ 0x80 ∷ 0x18 ∷ [])) (waits 2)
    -- length 5: cleared
    ∷ mark (packet (0x4A ∷ 0x01 ∷ 0x00 ∷ 0x00 ∷ 0x10 ∷ 0x00 ∷ 0x00 ∷ 0x00 ∷ 0x05 ∷ 0x00 ∷ 0x00 ∷ 0x00 ∷ [])) (gives (0x00 ∷ 0x06 ∷ 0x04 ∷ 0x18 ∷ 0x02 ∷ [])) (waits 0)
    -- then nothing waits
    ∷ mark (packet (0x4A ∷ 0x01 ∷ 0x00 ∷ 0x00 ∷ 0x10 ∷ 0x00 ∷ 0x00 ∷ 0x00 ∷ 0x08 ∷ 0x00 ∷ 0x00 ∷ 0x00 ∷ [])) (gives (0x00 ∷ 0x06 ∷ 0x04 ∷ 0x18 ∷ 0x00 ∷ 0x02 ∷ 0x00 ∷ 0x00 ∷ [])) (waits 0)
    -- the attention is still pending: no 4Ah told it
    ∷ mark (packet (0x00 ∷ 0x00 ∷ 0x00 ∷ 0x00 ∷ 0x00 ∷ 0x00 ∷ 0x00 ∷ 0x00 ∷ 0x00 ∷ 0x00 ∷ 0x00 ∷ 0x00 ∷ [])) (fails 0x06 0x28 0x00) (waits 0)
    -- the sense is held still after a 4Ah that is GOOD
    ∷ mark (packet (0x4A ∷ 0x01 ∷ 0x00 ∷ 0x00 ∷ 0x18 ∷ 0x00 ∷ 0x00 ∷ 0x00 ∷ 0x08 ∷ 0x00 ∷ 0x00 ∷ 0x00 ∷ [])) (gives_held 0x06 0x28 0x00 (0x00 ∷ 0x06 ∷ 0x03 ∷ 0x18 ∷ 0x00 ∷ 0x00 ∷ 0x00 ∷ 0x00 ∷ [])) (waits 0)
    -- button: the tray opens, and closes, a loading
    ∷ mark presses (gives_held 0x06 0x28 0x00 []) (waits 3)
    ∷ mark presses (gives_held 0x06 0x28 0x00 []) (waits 2)
    -- after the loading asked 18h: the class media, event 2, status 02h
    ∷ mark (packet (0x4A ∷ 0x01 ∷ 0x00 ∷ 0x00 ∷ 0x18 ∷ 0x00 ∷ 0x00 ∷ 0x00 ∷ 0x08 ∷ 0x00 ∷ 0x00 ∷ 0x00 ∷ [])) (gives_held 0x06 0x28 0x00 (0x00 ∷ 0x06 ∷ 0x04 ∷ 0x18 ∷ 0x02 ∷ 0x02 ∷ 0x00 ∷ 0x00 ∷ [])) (waits 0)
    -- the lock on, once the attention is told
    ∷ mark (packet (0x00 ∷ 0x00 ∷ 0x00 ∷ 0x00 ∷ 0x00 ∷ 0x00 ∷ 0x00 ∷ 0x00 ∷ 0x00 ∷ 0x00 ∷ 0x00 ∷ 0x00 ∷ [])) (fails 0x06 0x28 0x00) (waits 0)
    ∷ mark (packet (0x1E ∷ 0x00 ∷ 0x00 ∷ 0x00 ∷ 0x01 ∷ 0x00 ∷ 0x00 ∷ 0x00 ∷ 0x00 ∷ 0x00 ∷ 0x00 ∷ 0x00 ∷ [])) (gives []) (waits 0)
    -- a press under the lock: 5, and event 1
    ∷ mark presses (refuses 5 []) (waits 1)
    -- Polled clear: 05/24/00, and the event stays
    ∷ mark (packet (0x4A ∷ 0x00 ∷ 0x00 ∷ 0x00 ∷ 0x18 ∷ 0x00 ∷ 0x00 ∷ 0x00 ∷ 0x08 ∷ 0x00 ∷ 0x00 ∷ 0x00 ∷ [])) (fails 0x05 0x24 0x00) (waits 1)
    -- an eject packet under the lock is no press: the event stays, and stays cleared
    ∷ mark (packet (0x1B ∷ 0x00 ∷ 0x00 ∷ 0x00 ∷ 0x02 ∷ 0x00 ∷ 0x00 ∷ 0x00 ∷ 0x00 ∷ 0x00 ∷ 0x00 ∷ 0x00 ∷ [])) (fails 0x05 0x53 0x02) (waits 1)
    ∷ mark (packet (0x4A ∷ 0x01 ∷ 0x00 ∷ 0x00 ∷ 0xFF ∷ 0x00 ∷ 0x00 ∷ 0xFF ∷ 0xFF ∷ 0x00 ∷ 0x00 ∷ 0x00 ∷ [])) (gives_held 0x05 0x53 0x02 (0x00 ∷ 0x06 ∷ 0x04 ∷ 0x18 ∷ 0x01 ∷ 0x02 ∷ 0x00 ∷ 0x00 ∷ [])) (waits 0)
    ∷ mark (packet (0x1B ∷ 0x00 ∷ 0x00 ∷ 0x00 ∷ 0x02 ∷ 0x00 ∷ 0x00 ∷ 0x00 ∷ 0x00 ∷ 0x00 ∷ 0x00 ∷ 0x00 ∷ [])) (fails 0x05 0x53 0x02) (waits 0)
    -- a press again, and power-on: it clears the event
    ∷ mark (packet (0x00 ∷ 0x00 ∷ 0x00 ∷ 0x00 ∷ 0x00 ∷ 0x00 ∷ 0x00 ∷ 0x00 ∷ 0x00 ∷ 0x00 ∷ 0x00 ∷ 0x00 ∷ [])) (gives []) (waits 0)
    ∷ mark presses (refuses 5 []) (waits 1)
    ∷ mark powers (gives []) (waits 0)
    -- with both attentions pending asked 18h: zeros
    ∷ mark (packet (0x4A ∷ 0x01 ∷ 0x00 ∷ 0x00 ∷ 0x18 ∷ 0x00 ∷ 0x00 ∷ 0x00 ∷ 0x08 ∷ 0x00 ∷ 0x00 ∷ 0x00 ∷ [])) (gives (0x00 ∷ 0x06 ∷ 0x03 ∷ 0x18 ∷ 0x00 ∷ 0x00 ∷ 0x00 ∷ 0x00 ∷ [])) (waits 0)
    ∷ []

pub polled : all_stepped loaded_e poll_marks ≡ true
unfolding all_stepped waits after comes same_outcome same_bytes ◌and◌ ◌or◌ choose◌then◌else◌ every is_msf sense_at same_sense among is_known is_status is_play among_bytes is_setting is_known_state power_on button attend is_track is_extra start_of names simple free plain head_a0 head_a1 headed addressed row_test one size listed numbered is_session starts before follows in_place in_order rule1 rule2 each_row rises out_before begins_after rising rule7 first_broken late_rules row_rules fault is_fit pending_of gate decode answering load eject start_stop count_trailing_zeros waiting or_else class_for media_status event_of status_of event_bytes cleared perform refusal_of answer
polled = refl
