-- For Exercise 14, "which calls cancel": what always does, as laws of this drive and of its whole state; and what does on some drives only
-- or on none, computed on Disc E with the parts of the state that are left changed. `next c d` is the state after the call c on d, and
-- `(answer c d).number` its number, as in Call.antt.
use Rattle.std.specs.Prelude.{◌≡◌, true, false, List, [], ◌∷◌, ℕ, replicate}
use Rattle.drive.specs.declared.state.Drive.{Drive}
use Rattle.attention.specs.Sense.{triple}
use Rattle.play.specs.Play.{no_play}
use Rattle.deck.specs.Deck.{loaded, with_lock, opening}
use Rattle.drive.specs.State.{with_deck, holding, showing}
use Rattle.table.specs.Layout.{bound}
use Rattle.claims.specs.Call.{by_default, without_change, Call, powering, pressing, laying, lifting, packet, answer, next, final}
use Rattle.claims.specs.Marked.{table_e, loaded_e}
use Rattle.claims.specs.Differing.{Part, change, sense, tray, disc, lock, play, event, differing}

-- the call is not refused
abbrev pub Granted : Call → Drive → Type 0
Granted c d = (answer c d).number ≡ 0

-- K8: "leaves tray and disc as they were"
abbrev pub Keeps : Call → Drive → Type 0
Keeps c d = ((next c d).deck.tray_open ≡ d.deck.tray_open) × ((next c d).deck.disc_in ≡ d.deck.disc_in)

-- the drive as a loading leaves it: the change attention pending, the play record 15h, 0 and 0, event 2, and the rest as it was
abbrev pub reloaded : Drive → Drive
reloaded d = record {
  unit = record { power = d.unit.power; change = true; sense = d.unit.sense };
  deck = record { tray_open = false; disc_in = true; lock = d.deck.lock; play = no_play; page = d.deck.page; event = loaded };
}

-- ---- what cancels on some drives only, or on none

-- a packet with Table E, no parameter list and 6,538 bytes of response memory
abbrev pub sent : List ℕ → Call
sent p = packet p table_e [] (replicate bound 0x00)

-- 00h, TEST UNIT READY
abbrev pub test_unit_ready : Call
test_unit_ready = sent (0x00 ∷ 0x00 ∷ 0x00 ∷ 0x00 ∷ 0x00 ∷ 0x00 ∷ 0x00 ∷ 0x00 ∷ 0x00 ∷ 0x00 ∷ 0x00 ∷ 0x00 ∷ [])

-- 1Bh, Eject and Load
abbrev pub eject : Call
eject = sent (0x1B ∷ 0x00 ∷ 0x00 ∷ 0x00 ∷ 0x02 ∷ 0x00 ∷ 0x00 ∷ 0x00 ∷ 0x00 ∷ 0x00 ∷ 0x00 ∷ 0x00 ∷ [])

abbrev pub load : Call
load = sent (0x1B ∷ 0x00 ∷ 0x00 ∷ 0x00 ∷ 0x03 ∷ 0x00 ∷ 0x00 ∷ 0x00 ∷ 0x00 ∷ 0x00 ∷ 0x00 ∷ 0x00 ∷ [])

-- 1Eh, PREVENT and ALLOW
abbrev pub prevent : Call
prevent = sent (0x1E ∷ 0x00 ∷ 0x00 ∷ 0x00 ∷ 0x01 ∷ 0x00 ∷ 0x00 ∷ 0x00 ∷ 0x00 ∷ 0x00 ∷ 0x00 ∷ 0x00 ∷ [])

abbrev pub allow : Call
allow = sent (0x1E ∷ 0x00 ∷ 0x00 ∷ 0x00 ∷ 0x00 ∷ 0x00 ∷ 0x00 ∷ 0x00 ∷ 0x00 ∷ 0x00 ∷ 0x00 ∷ 0x00 ∷ [])

-- READ(10) 0 for 1, and PLAY 150 for 150
abbrev pub read : Call
read = sent (0x28 ∷ 0x00 ∷ 0x00 ∷ 0x00 ∷ 0x00 ∷ 0x00 ∷ 0x00 ∷ 0x00 ∷ 0x01 ∷ 0x00 ∷ 0x00 ∷ 0x00 ∷ [])

abbrev pub play_audio : Call
play_audio = sent (0x45 ∷ 0x00 ∷ 0x00 ∷ 0x00 ∷ 0x00 ∷ 0x96 ∷ 0x00 ∷ 0x00 ∷ 0x96 ∷ 0x00 ∷ 0x00 ∷ 0x00 ∷ [])

-- 4Bh, PAUSE/RESUME
abbrev pub pause : Call
pause = sent (0x4B ∷ 0x00 ∷ 0x00 ∷ 0x00 ∷ 0x00 ∷ 0x00 ∷ 0x00 ∷ 0x00 ∷ 0x00 ∷ 0x00 ∷ 0x00 ∷ 0x00 ∷ [])

abbrev pub resume : Call
resume = sent (0x4B ∷ 0x00 ∷ 0x00 ∷ 0x00 ∷ 0x00 ∷ 0x00 ∷ 0x00 ∷ 0x00 ∷ 0x01 ∷ 0x00 ∷ 0x00 ∷ 0x00 ∷ [])

-- "Loaded, nothing pending", and with 05/24/00 held, locked, playing, paused
abbrev pub held_e : Drive
held_e = record { unit = record { power = false; change = false; sense = triple 0x05 0x24 0x00 }; deck = loaded_e.deck }

abbrev pub locked_e : Drive
locked_e = with_deck loaded_e (with_lock loaded_e.deck true)

abbrev pub playing_e : Drive
playing_e = showing loaded_e (record { status = 0x11; position = 160; end = 300 })

abbrev pub paused_e : Drive
paused_e = showing loaded_e (record { status = 0x12; position = 160; end = 300 })

-- the tray open, as after an eject: with the disc, without it, and locked with it; closed without the disc
abbrev pub open_e : Drive
open_e = with_deck loaded_e (opening loaded_e.deck).deck

abbrev pub open_empty_e : Drive
open_empty_e = holding open_e false

abbrev pub open_locked_e : Drive
open_locked_e = with_deck open_e (with_lock open_e.deck true)

abbrev pub closed_empty_e : Drive
closed_empty_e = holding loaded_e false

-- from one state two runs of calls, and the parts in which the states after them differ
pub record Instance : Type 0 where
  pub from : Drive
  pub calls : List Call
  pub others : List Call
  pub parts : List Part

-- the calls, and none
abbrev pub cancel : Drive → List Call → List Part → Instance
cancel d cs ps = record { from = d; calls = cs; others = []; parts = ps }

-- the calls, and that one call alone
abbrev pub only : Drive → List Call → Call → List Part → Instance
only d cs c ps = record { from = d; calls = cs; others = c ∷ []; parts = ps }

abbrev pub instances : List Instance
instances =
    -- 1, 2: a laying that is refused, then a lifting; a lifting that is refused, then a laying
    cancel open_e (laying ∷ lifting ∷ []) (disc ∷ [])
    ∷ cancel open_empty_e (lifting ∷ laying ∷ []) (disc ∷ [])
    -- 3 to 5, the button twice, loaded: the change attention and the event; the play record too; nothing, where these are as after a loading
    ∷ cancel loaded_e (pressing ∷ pressing ∷ []) (change ∷ event ∷ [])
    ∷ cancel playing_e (pressing ∷ pressing ∷ []) (change ∷ play ∷ event ∷ [])
    ∷ cancel (reloaded loaded_e) (pressing ∷ pressing ∷ []) []
    -- 6 to 10, the button twice, else: open with the disc; locked, closed and open, where a press is refused; without the disc
    ∷ cancel open_e (pressing ∷ pressing ∷ []) (change ∷ [])
    ∷ cancel locked_e (pressing ∷ pressing ∷ []) (event ∷ [])
    ∷ cancel open_locked_e (pressing ∷ pressing ∷ []) (change ∷ tray ∷ event ∷ [])
    ∷ cancel closed_empty_e (pressing ∷ pressing ∷ []) []
    ∷ cancel open_empty_e (pressing ∷ pressing ∷ []) []
    -- 11 to 13, PREVENT, then ALLOW: the held sense; the lock; nothing, where there was neither
    ∷ cancel held_e (prevent ∷ allow ∷ []) (sense ∷ [])
    ∷ cancel locked_e (prevent ∷ allow ∷ []) (lock ∷ [])
    ∷ cancel loaded_e (prevent ∷ allow ∷ []) []
    -- 14, PLAY, then READ: the PLAY's position and end stay
    ∷ cancel loaded_e (play_audio ∷ read ∷ []) (play ∷ [])
    -- 15, 16, pause, then resume: what was paused plays; nothing, where it was playing
    ∷ cancel paused_e (pause ∷ resume ∷ []) (play ∷ [])
    ∷ cancel playing_e (pause ∷ resume ∷ []) []
    -- 17, 18, two power-ons of different form, beside the first alone
    ∷ only loaded_e (powering by_default ∷ powering without_change ∷ []) (powering by_default) (change ∷ [])
    ∷ only loaded_e (powering without_change ∷ powering by_default ∷ []) (powering without_change) (change ∷ [])
    -- 19, 00h, then a power-on, beside a power-on in the other form
    ∷ only loaded_e (test_unit_ready ∷ powering by_default ∷ []) (powering without_change) (change ∷ [])
    -- 20 to 23, an eject, with each form, a load and a lifting, then a power-on, beside the power-on alone
    ∷ only loaded_e (eject ∷ powering by_default ∷ []) (powering by_default) (change ∷ tray ∷ [])
    ∷ only loaded_e (eject ∷ powering without_change ∷ []) (powering without_change) (tray ∷ [])
    ∷ only open_e (load ∷ powering by_default ∷ []) (powering by_default) (change ∷ tray ∷ [])
    ∷ only open_e (lifting ∷ powering by_default ∷ []) (powering by_default) (disc ∷ [])
    ∷ []

-- the parts in which the two states do differ
abbrev pub found_in : Instance → List Part
found_in i = differing (final i.from i.calls) (final i.from i.others)

abbrev pub said_of : Instance → List Part
said_of i = i.parts
