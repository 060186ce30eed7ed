-- K11 on Disc E: a run of packets on a changer of three slots, each with its marked result, the home and the slots after it. Slot 0 has a
-- disc, slot 1 is empty, and slot 2 has a disc and is marked changed.
use Rattle.std.specs.Prelude.{ℕ, ◌≡◌, refl, Bool, true, false, not, List, [], ◌∷◌, eqb}
use Rattle.std.specs.Int.Count.{count_trailing_zeros}
use Rattle.ground.specs.Tests.{◌and◌, ◌or◌, choose◌then◌else◌, every}
use Rattle.address.specs.Address.{is_msf}
use Rattle.attention.specs.Sense.{sense_at, same_sense, among, is_known}
use Rattle.play.specs.Play.{is_status, is_play}
use Rattle.page.specs.Page.{among as among_bytes, is_setting}
use Rattle.attention.specs.Unit.{attend}
use Rattle.drive.specs.State.{is_known_state, power_on as drive_power_on}
use Rattle.table.specs.Layout.{bound, is_track, is_extra}
use Rattle.table.specs.Row.{start_of, names, simple, free, plain, head_a0, head_a1, headed, addressed, row_test}
use Rattle.sessions.specs.Session.{one, size, listed, numbered, is_session, starts, before, follows, in_place, in_order}
use Rattle.disc.specs.Rules.{rule1, rule2, each_row, rises, out_before, begins_after, rising, rule7, first_broken, late_rules, row_rules, fault, is_fit}
use Rattle.gate.specs.Unit.{pending_of}
use Rattle.gate.specs.Gate.{Reply, gate}
use Rattle.command.specs.Command.{decode}
use Rattle.command.specs.Done.{answering}
use Rattle.command.specs.Tray.{start_stop}
use Rattle.event.specs.EventClass.{waiting, or_else, class_for}
use Rattle.event.specs.EventAnswer.{media_status, event_of, status_of, event_bytes, cleared}
use Rattle.target.specs.Perform.{perform}
use Rattle.claims.specs.Marked.{table_e, loaded_e, Outcome, gives, fails, same_bytes, same_outcome}
use Rattle.claims.specs.Polled.{gives_held}
use Rattle.changer.specs.declared.Slot.{Slot}
use Rattle.changer.specs.declared.Changer.{Changer}
use Rattle.changer.specs.Slot.{slot}
use Rattle.changer.specs.Mechanism.{Mechanism, returned, takes, load_unload}
use Rattle.changer.specs.Status.{flags_of, slot_tables, status_bytes}
use Rattle.changer.specs.Changer.{is_in_order, power_on}
use Rattle.changer.specs.ChangerPacket.{is_own, own, steps, refusal_of, answer, state_of, bytes_of}

-- power-on by default, or a packet with Table E, no parameter list and 6,538 bytes of response memory
pub data Step : Type 0 where
  powers : Step
  packet : (bytes : List ℕ) → Step

-- what a packet's answer shows
abbrev shown_by : Reply Mechanism → Outcome
shown_by a = record {
  number = a.number;
  rule = a.rule;
  status = a.status;
  sense = a.unit.sense;
  shown = bytes_of a;
  start = a.start;
  count = a.count;
}

-- what comes of it, and the state and the slots after it
unfoldable pub comes : Step → Changer → List Slot → Outcome
comes powers c s = record { number = 0; rule = 0; status = 0x00; sense = (power_on c).drive.unit.sense; shown = []; start = 0; count = 0 }
comes (packet p) c s = shown_by (answer c s p table_e [] bound)

unfoldable pub after : Step → Changer → List Slot → Changer
after powers c s = power_on c
after (packet p) c s = state_of (answer c s p table_e [] bound)

unfoldable pub slots_after : Step → Changer → List Slot → List Slot
slots_after powers c s = s
slots_after (packet p) c s = (answer c s p table_e [] bound).deck.slots

-- a step, its marked result, the home and the slots
pub record Mark : Type 0 where
  pub step : Step
  pub result : Outcome
  pub home : ℕ
  pub slots : List Slot

abbrev pub mark : Step → Outcome → ℕ → List Slot → Mark
mark s r h l = record { step = s; result = r; home = h; slots = l }

abbrev same : Bool → Bool → Bool
same true b = b
same false b = not b

unfoldable pub same_slots : List Slot → List Slot → Bool
same_slots [] [] = true
same_slots [] (y ∷ ys) = false
same_slots (x ∷ xs) [] = false
same_slots (x ∷ xs) (y ∷ ys) = same x.present y.present and same x.changed y.changed and same_slots xs ys

-- each step comes out as marked
unfoldable pub all_stepped : Changer → List Slot → List Mark → Bool
all_stepped c s [] = true
all_stepped c s (m ∷ ms) =
    same_outcome (comes m.step c s) m.result
    and eqb (after m.step c s).home m.home
    and same_slots (slots_after m.step c s) m.slots
    and all_stepped (after m.step c s) (slots_after m.step c s) ms

-- ---- the slots and the packets

-- a disc, none, and a disc that is marked changed
abbrev disc : Slot
disc = slot true false

abbrev none : Slot
none = slot false false

abbrev new_disc : Slot
new_disc = slot true true

-- A6h with the pair (LoUnlo, Start) in byte 4, and a slot
abbrev a6 : ℕ → ℕ → Step
a6 pair i = packet (0xA6 ∷ 0x00 ∷ 0x00 ∷ 0x00 ∷ pair ∷ 0x00 ∷ 0x00 ∷ 0x00 ∷ i ∷ 0x00 ∷ 0x00 ∷ 0x00 ∷ [])

abbrev loads : ℕ → Step
loads i = a6 0x03 i

abbrev unloads : ℕ → Step
unloads i = a6 0x02 i

-- BDh of that length
abbrev asks_status : ℕ → Step
asks_status n = packet (0xBD ∷ 0x00 ∷ 0x00 ∷ 0x00 ∷ 0x00 ∷ 0x00 ∷ 0x00 ∷ 0x00 ∷ 0x00 ∷ n ∷ 0x00 ∷ 0x00 ∷ [])

-- GOOD with the whole status: the header with that home, three slots and 12 bytes of them, and the first byte of each slot's four
abbrev shows : ℕ → ℕ → ℕ → ℕ → Outcome
shows home x y z =
    gives (home ∷ 0x00 ∷ 0x00 ∷ 0x00 ∷ 0x00 ∷ 0x03 ∷ 0x00 ∷ 0x0C
    ∷ x ∷ 0x00 ∷ 0x00 ∷ 0x00
    ∷ y ∷ 0x00 ∷ 0x00 ∷ 0x00
    ∷ z ∷ 0x00 ∷ 0x00 ∷ 0x00 ∷ [])

-- 00h, 1Bh and 1Eh with byte 4, 4Ah for the class media
abbrev tests : Step
tests = packet (0x00 ∷ 0x00 ∷ 0x00 ∷ 0x00 ∷ 0x00 ∷ 0x00 ∷ 0x00 ∷ 0x00 ∷ 0x00 ∷ 0x00 ∷ 0x00 ∷ 0x00 ∷ [])

abbrev starts_stops : ℕ → Step
starts_stops b = packet (0x1B ∷ 0x00 ∷ 0x00 ∷ 0x00 ∷ b ∷ 0x00 ∷ 0x00 ∷ 0x00 ∷ 0x00 ∷ 0x00 ∷ 0x00 ∷ 0x00 ∷ [])

abbrev prevents : ℕ → Step
prevents b = packet (0x1E ∷ 0x00 ∷ 0x00 ∷ 0x00 ∷ b ∷ 0x00 ∷ 0x00 ∷ 0x00 ∷ 0x00 ∷ 0x00 ∷ 0x00 ∷ 0x00 ∷ [])

abbrev polls : Step
polls = packet (0x4A ∷ 0x01 ∷ 0x00 ∷ 0x00 ∷ 0x10 ∷ 0x00 ∷ 0x00 ∷ 0x00 ∷ 0x08 ∷ 0x00 ∷ 0x00 ∷ 0x00 ∷ [])

-- ---- the run

abbrev pub changer_marks : List Mark
changer_marks =
    mark powers (gives []) 0 (disc ∷ none ∷ new_disc ∷ [])
    -- the power attention is told first, then the status: home 0
    ∷ mark (asks_status 0xFF) (fails 0x06 0x29 0x00) 0 (disc ∷ none ∷ new_disc ∷ [])
    ∷ mark (asks_status 0xFF) (shows 0x00 0x80 0x00 0x81) 0 (disc ∷ none ∷ new_disc ∷ [])
    -- the drive is empty and closed
    ∷ mark tests (fails 0x02 0x3A 0x01) 0 (disc ∷ none ∷ new_disc ∷ [])
    -- Load 0: a loading
    ∷ mark (loads 0) (gives []) 0 (none ∷ none ∷ new_disc ∷ [])
    ∷ mark tests (fails 0x06 0x28 0x00) 0 (none ∷ none ∷ new_disc ∷ [])
    ∷ mark (asks_status 0xFF) (shows 0x00 0x00 0x00 0x81) 0 (none ∷ none ∷ new_disc ∷ [])
    -- Load 2: disc 0 is back, changed goes to 0 at 2, and the loading is told next
    ∷ mark (loads 2) (gives []) 2 (disc ∷ none ∷ none ∷ [])
    ∷ mark tests (fails 0x06 0x28 0x00) 2 (disc ∷ none ∷ none ∷ [])
    ∷ mark (asks_status 0xFF) (shows 0x02 0x80 0x00 0x00) 2 (disc ∷ none ∷ none ∷ [])
    -- Load 1, an empty slot: disc 2 is back, the drive empty, no attention, and the event that of a return
    ∷ mark (loads 1) (gives []) 0 (disc ∷ none ∷ disc ∷ [])
    ∷ mark tests (fails 0x02 0x3A 0x01) 0 (disc ∷ none ∷ disc ∷ [])
    ∷ mark polls (gives_held 0x02 0x3A 0x01 (0x00 ∷ 0x06 ∷ 0x04 ∷ 0x18 ∷ 0x03 ∷ 0x00 ∷ 0x00 ∷ 0x00 ∷ [])) 0 (disc ∷ none ∷ disc ∷ [])
    -- Load 0, and Load 0 again: returned and taken, a loading, told by no 4Ah
    ∷ mark (loads 0) (gives []) 0 (none ∷ none ∷ disc ∷ [])
    ∷ mark tests (fails 0x06 0x28 0x00) 0 (none ∷ none ∷ disc ∷ [])
    ∷ mark (loads 0) (gives []) 0 (none ∷ none ∷ disc ∷ [])
    ∷ mark polls (gives (0x00 ∷ 0x06 ∷ 0x04 ∷ 0x18 ∷ 0x02 ∷ 0x02 ∷ 0x00 ∷ 0x00 ∷ [])) 0 (none ∷ none ∷ disc ∷ [])
    ∷ mark tests (fails 0x06 0x28 0x00) 0 (none ∷ none ∷ disc ∷ [])
    -- Unload, with a disc and without: both GOOD, and no attention
    ∷ mark (unloads 0) (gives []) 0 (disc ∷ none ∷ disc ∷ [])
    ∷ mark (unloads 0) (gives []) 0 (disc ∷ none ∷ disc ∷ [])
    ∷ mark polls (gives (0x00 ∷ 0x06 ∷ 0x04 ∷ 0x18 ∷ 0x03 ∷ 0x00 ∷ 0x00 ∷ 0x00 ∷ [])) 0 (disc ∷ none ∷ disc ∷ [])
    -- a slot beyond the last, in Load and Unload, and the other pairs
    ∷ mark (loads 3) (fails 0x05 0x24 0x00) 0 (disc ∷ none ∷ disc ∷ [])
    ∷ mark (unloads 3) (fails 0x05 0x24 0x00) 0 (disc ∷ none ∷ disc ∷ [])
    ∷ mark (a6 0x01 0) (fails 0x05 0x24 0x00) 0 (disc ∷ none ∷ disc ∷ [])
    ∷ mark (a6 0x00 0) (fails 0x05 0x24 0x00) 0 (disc ∷ none ∷ disc ∷ [])
    -- locked, with a disc in the drive: pair and slot first
    ∷ mark (loads 2) (gives []) 2 (disc ∷ none ∷ none ∷ [])
    ∷ mark tests (fails 0x06 0x28 0x00) 2 (disc ∷ none ∷ none ∷ [])
    ∷ mark (prevents 0x01) (gives []) 2 (disc ∷ none ∷ none ∷ [])
    ∷ mark (loads 0) (fails 0x05 0x53 0x02) 2 (disc ∷ none ∷ none ∷ [])
    ∷ mark (unloads 0) (fails 0x05 0x53 0x02) 2 (disc ∷ none ∷ none ∷ [])
    ∷ mark (loads 3) (fails 0x05 0x24 0x00) 2 (disc ∷ none ∷ none ∷ [])
    ∷ mark (a6 0x01 0) (fails 0x05 0x24 0x00) 2 (disc ∷ none ∷ none ∷ [])
    -- 1Bh with LoEj 1, eject and load, locked and not
    ∷ mark (starts_stops 0x02) (fails 0x05 0x24 0x00) 2 (disc ∷ none ∷ none ∷ [])
    ∷ mark (prevents 0x00) (gives []) 2 (disc ∷ none ∷ none ∷ [])
    ∷ mark (starts_stops 0x02) (fails 0x05 0x24 0x00) 2 (disc ∷ none ∷ none ∷ [])
    ∷ mark (starts_stops 0x03) (fails 0x05 0x24 0x00) 2 (disc ∷ none ∷ none ∷ [])
    -- with LoEj 0 as the drive
    ∷ mark (starts_stops 0x01) (gives []) 2 (disc ∷ none ∷ none ∷ [])
    -- a length of 8: the header alone
    ∷ mark (asks_status 0x08) (gives (0x02 ∷ 0x00 ∷ 0x00 ∷ 0x00 ∷ 0x00 ∷ 0x03 ∷ 0x00 ∷ 0x0C ∷ [])) 2 (disc ∷ none ∷ none ∷ [])
    -- power-on: an empty drive, the slots as found
    ∷ mark powers (gives []) 0 (disc ∷ none ∷ none ∷ [])
    ∷ []

-- handed a state with a disc in the drive, which power-on takes as no disc
abbrev pub handed : Changer
handed = record { drive = loaded_e; home = 1 }

pub changer_marked : all_stepped handed (disc ∷ none ∷ new_disc ∷ []) changer_marks ≡ true
unfolding all_stepped same_slots slots_after after comes same_outcome same_bytes ◌and◌ ◌or◌ choose◌then◌else◌ every is_msf sense_at same_sense among is_known is_status is_play among_bytes is_setting is_known_state drive_power_on attend is_track is_extra start_of names simple free plain head_a0 head_a1 headed addressed row_test one size listed numbered is_session starts before follows in_place in_order rule1 rule2 each_row rises out_before begins_after rising rule7 first_broken late_rules row_rules fault is_fit pending_of gate decode answering start_stop count_trailing_zeros waiting or_else class_for media_status event_of status_of event_bytes cleared perform returned takes load_unload flags_of slot_tables status_bytes is_in_order power_on is_own own steps refusal_of answer
changer_marked = refl
