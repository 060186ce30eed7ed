-- The samples that MMC prints and many ways to miss a described sheet give their numbers, one statement over one list, and the sheet of disc E
-- gives Table E: closed by computation.
use Rattle.std.specs.Prelude.{◌≡◌, refl, Bool, true, List, [], ◌∷◌, ◌++◌, ℕ, eqb}
use Rattle.ground.specs.Tests.{◌and◌, ◌or◌, every, choose◌then◌else◌}
use Rattle.address.specs.Address.{is_msf}
use Rattle.table.specs.Layout.{bound, is_track, is_extra}
use Rattle.table.specs.Row.{start_of, names, simple, free, plain, head_a0, head_a1, headed, addressed, row_test}
use Rattle.sessions.specs.Session.{one, size, listed, numbered, is_session, starts, before, follows, in_place, in_order}
use Rattle.disc.specs.Rules.{rule1, rule2, each_row, rises, out_before, begins_after, rising, rule7, first_broken, late_rules, row_rules, fault, is_fit}
use Rattle.disc.specs.Examples.{table_e}
use Rattle.cue.specs.Sheet as Sheet
use Rattle.cue.specs.Sheet.{is_lead_in, is_lead_out, begun, tracks_in, first_of, last_from, last_of, is_framed, has_adr, every_adr, follows_from, is_numbered, is_described}
use Rattle.cue.specs.Made.{rows_of, body_of, table_with}
use Rattle.cue.specs.Write.{hand_out, whole_answer, answer}

-- ---- sheets

-- an entry: control and ADR, TNO, index, M, S, F; data form and SCMS are 0
abbrev at : ℕ → ℕ → ℕ → ℕ → ℕ → ℕ → List ℕ
at b n i m s f = b ∷ n ∷ i ∷ 0 ∷ 0 ∷ m ∷ s ∷ f ∷ []

-- the lead-in, and the lead-out at 00:06:00
abbrev first : List ℕ
first = at 0x41 0 0 0 0 0

abbrev last : List ℕ
last = at 0x01 0xAA 1 0 6 0

-- between them
abbrev between : List ℕ → List ℕ
between s = (first ++ s) ++ last

-- the tracks of disc E: data from 00:02:00 on, audio from 00:04:00 on
abbrev data_track : List ℕ
data_track = at 0x41 1 1 0 2 0

abbrev audio_track : List ℕ
audio_track = at 0x01 2 1 0 4 0

abbrev sheet_e : List ℕ
sheet_e = between (data_track ++ audio_track)

-- Table P.2 of 000 (lines 5481 to 5488): three data tracks
abbrev p2 : List ℕ
p2 =
    at 0x41 0x00 0x00 0x00 0x00 0x00 ++ at 0x41 0x01 0x00 0x00 0x00 0x00 ++ at 0x41 0x01 0x01 0x00 0x02 0x00
    ++ at 0x41 0x02 0x00 0x07 0x29 0x00 ++ at 0x41 0x02 0x01 0x07 0x31 0x00 ++ at 0x41 0x03 0x00 0x14 0x18 0x03
    ++ at 0x41 0x03 0x01 0x14 0x20 0x03 ++ at 0x41 0xAA 0x01 0x23 0x37 0x46

-- Table P.3 (5496 to 5499): one track
abbrev p3 : List ℕ
p3 = at 0x41 0x00 0x00 0x00 0x00 0x00 ++ at 0x41 0x01 0x00 0x00 0x00 0x00 ++ at 0x41 0x01 0x01 0x00 0x02 0x00 ++ at 0x41 0xAA 0x01 0x56 0x37 0x46

-- Table P.4 (5505 to 5510): two tracks
abbrev p4 : List ℕ
p4 =
    at 0x41 0x00 0x00 0x00 0x00 0x00 ++ at 0x41 0x01 0x00 0x00 0x00 0x00 ++ at 0x41 0x01 0x01 0x00 0x02 0x00
    ++ at 0x41 0x02 0x00 0x07 0x29 0x00 ++ at 0x41 0x02 0x01 0x07 0x31 0x00 ++ at 0x41 0xAA 0x01 0x14 0x37 0x46

-- Table P.5 (5516 to 5521): a data track and an audio track
abbrev p5 : List ℕ
p5 =
    at 0x41 0x00 0x00 0x00 0x00 0x00 ++ at 0x41 0x01 0x00 0x00 0x00 0x00 ++ at 0x41 0x01 0x01 0x00 0x02 0x00
    ++ at 0x01 0x02 0x00 0x05 0x00 0x00 ++ at 0x01 0x02 0x01 0x05 0x02 0x00 ++ at 0x01 0xAA 0x01 0x10 0x00 0x00

-- Table P.6 (5525 to 5532): tracks 5 to 7
abbrev p6 : List ℕ
p6 =
    at 0x01 0x00 0x00 0x00 0x00 0x00 ++ at 0x01 0x05 0x00 0x00 0x00 0x00 ++ at 0x01 0x05 0x01 0x00 0x02 0x00
    ++ at 0x01 0x06 0x00 0x05 0x00 0x00 ++ at 0x01 0x06 0x01 0x05 0x02 0x00 ++ at 0x01 0x07 0x00 0x08 0x00 0x00
    ++ at 0x01 0x07 0x01 0x08 0x02 0x00 ++ at 0x01 0xAA 0x01 0x10 0x00 0x00

-- Table P.1 (5444 to 5463): the catalogue code and the ISRC, of ADR 2 and 3, and decimal times; letters stand for I1 to IC
abbrev p1 : List ℕ
p1 =
    (0x02 ∷ 0xC1 ∷ 0xC2 ∷ 0xC3 ∷ 0xC4 ∷ 0xC5 ∷ 0xC6 ∷ 0xC7 ∷ []) ++ (0x02 ∷ 0xC8 ∷ 0xC9 ∷ 0xCA ∷ 0xCB ∷ 0xCC ∷ 0xCD ∷ 0x00 ∷ [])
    ++ at 0x01 0x00 0x00 0x00 0x00 0x00 ++ at 0x01 0x01 0x00 0x00 0x00 0x00 ++ at 0x01 0x01 0x01 0x00 0x02 0x00
    ++ at 0x01 0x02 0x00 0x07 0x29 0x00 ++ at 0x01 0x02 0x01 0x07 0x31 0x00
    ++ (0x03 ∷ 0x03 ∷ 0x41 ∷ 0x42 ∷ 0x43 ∷ 0x44 ∷ 0x45 ∷ 0x46 ∷ []) ++ (0x03 ∷ 0x03 ∷ 0x47 ∷ 0x48 ∷ 0x49 ∷ 0x4A ∷ 0x4B ∷ 0x4C ∷ [])
    ++ at 0x01 0x03 0x00 0x14 0x18 0x03 ++ at 0x01 0x03 0x01 0x14 0x20 0x03 ++ at 0x01 0x04 0x01 0x19 0x06 0x00
    ++ at 0x01 0x05 0x00 0x27 0x37 0x00 ++ at 0x01 0x05 0x01 0x27 0x40 0x00 ++ at 0x01 0x06 0x00 0x38 0x53 0x74
    ++ at 0x01 0x06 0x01 0x38 0x55 0x74 ++ at 0x01 0x06 0x02 0x45 0x12 0x42 ++ at 0x01 0x06 0x03 0x48 0x33 0x09
    ++ at 0x01 0x06 0x04 0x52 0x47 0x59 ++ at 0x01 0xAA 0x01 0x56 0x37 0x46

-- Table 155 (4051 to 4063), its times as they are printed, taken for hex: frame 71h in track 2, second 55h in track 6
abbrev t155 : List ℕ
t155 =
    at 0x01 0x00 0x00 0x00 0x00 0x00 ++ at 0x01 0x01 0x00 0x00 0x00 0x00 ++ at 0x01 0x01 0x01 0x00 0x02 0x00
    ++ at 0x01 0x02 0x00 0x07 0x29 0x71 ++ at 0x01 0x02 0x01 0x07 0x31 0x71 ++ at 0x01 0x03 0x01 0x14 0x18 0x03
    ++ at 0x41 0x04 0x00 0x19 0x06 0x62 ++ at 0x41 0x04 0x01 0x19 0x09 0x62 ++ at 0x41 0x05 0x00 0x27 0x37 0x10
    ++ at 0x41 0x05 0x01 0x27 0x40 0x10 ++ at 0x01 0x06 0x00 0x38 0x53 0x23 ++ at 0x01 0x06 0x01 0x38 0x55 0x23 ++ at 0x01 0xAA 0x01 0x56 0x37 0x46

-- ---- the cases

-- a sheet, the length of the output memory, and the number that it gets
pub record Case : Type 0 where
  pub sheet : List ℕ
  pub memory : ℕ
  pub number : ℕ

infix 2 ◌gives◌
abbrev ◌gives◌ : List ℕ → ℕ → Case
s gives n = record { sheet = s; memory = bound; number = n }

abbrev cases : List Case
cases =
    (sheet_e gives 0)
    ∷ (p2 gives 0)
    ∷ (p3 gives 0)
    ∷ (p4 gives 0)
    ∷ (p5 gives 0)
    ∷ (p6 gives 0)
    ∷ (t155 gives 13)
    ∷ (p1 gives 13)
    -- passed over: any other index, whatever its TNO, address and place, also AAh, and a second lead-in
    ∷ (between (at 0x41 1 0 0 0 0 ++ (data_track ++ (at 0x41 1 2 9 99 99 ++ (at 0x01 7 99 0 0 0 ++ audio_track)))) gives 0)
    ∷ (between (data_track ++ (first ++ (at 0x01 0xAA 0 0 0 0 ++ audio_track))) gives 0)
    -- the lead-in's control and address are not looked at
    ∷ ((at 0xF1 0 0 255 255 255 ++ (data_track ++ audio_track)) ++ last gives 0)
    -- every ADR is 1: of the lead-in, of what is passed over, of a track and of the lead-out
    ∷ ((at 0x42 0 0 0 0 0 ++ (data_track ++ audio_track)) ++ last gives 13)
    ∷ (between (data_track ++ (at 0x03 2 0 0 3 0 ++ audio_track)) gives 13)
    ∷ (between (at 0x40 1 1 0 2 0 ++ audio_track) gives 13)
    ∷ ((first ++ (data_track ++ audio_track)) ++ at 0x05 0xAA 1 0 6 0 gives 13)
    -- no lead-in, no lead-out, one of them alone, no track, nothing
    ∷ ((data_track ++ audio_track) ++ last gives 13)
    ∷ (first ++ (data_track ++ audio_track) gives 13)
    ∷ ((first ++ (data_track ++ audio_track)) ++ at 0x01 0xAA 0 0 6 0 gives 13)
    ∷ ((at 0x41 0 1 0 0 0 ++ (data_track ++ audio_track)) ++ last gives 13)
    ∷ (first gives 13)
    ∷ (last gives 13)
    ∷ (between [] gives 13)
    ∷ (between (at 0x01 1 0 0 2 0) gives 13)
    ∷ ([] gives 13)
    -- tracks: a gap, one twice, falling, index 1 of TNO 0 and of AAh, 99 and 100
    ∷ (between (data_track ++ at 0x01 3 1 0 4 0) gives 13)
    ∷ (between (data_track ++ at 0x01 1 1 0 4 0) gives 13)
    ∷ (between (at 0x01 2 1 0 2 0 ++ at 0x41 1 1 0 4 0) gives 13)
    ∷ (between (at 0x01 0 1 0 2 0 ++ at 0x41 1 1 0 4 0) gives 13)
    ∷ (between (data_track ++ at 0x01 0xAA 1 0 4 0) gives 13)
    ∷ (between (at 0x01 99 1 0 2 0) gives 0)
    ∷ (between (at 0x01 100 1 0 2 0) gives 13)
    ∷ (between (at 0x01 99 1 0 2 0 ++ at 0x41 100 1 0 4 0) gives 13)
    -- addresses: no fit table has them
    ∷ (between (at 0x41 1 1 0 1 74 ++ audio_track) gives 13)
    ∷ (between (data_track ++ at 0x01 2 1 0 3 75) gives 13)
    ∷ (between (data_track ++ at 0x01 2 1 0 2 0) gives 13)
    ∷ (between (data_track ++ at 0x01 2 1 0 5 74) gives 0)
    ∷ (between (data_track ++ at 0x01 2 1 0 6 0) gives 13)
    ∷ ((first ++ (data_track ++ audio_track)) ++ at 0x01 0xAA 1 99 59 74 gives 0)
    ∷ ((first ++ (data_track ++ audio_track)) ++ at 0x01 0xAA 1 100 0 0 gives 13)
    -- 12, and 14 before it
    ∷ (sheet_e ++ 0 ∷ [] gives 12)
    ∷ (0 ∷ [] gives 12)
    ∷ record { sheet = sheet_e; memory = 6537; number = 14 }
    ∷ record { sheet = 0 ∷ []; memory = 0; number = 14 }
    ∷ record { sheet = sheet_e; memory = 6539; number = 0 }
    ∷ []

unfoldable pub tested : List Case → Bool
tested [] = true
tested (c ∷ cs) = eqb (answer c.sheet c.memory).number c.number and tested cs

-- the numbers, and Table E byte by byte
pub examples-tested : (tested cases ≡ true) × ((answer sheet_e bound).bytes ≡ table_e)
unfolding tested ◌and◌ ◌or◌ every choose◌then◌else◌ is_msf is_track is_extra start_of names simple free plain head_a0 head_a1 headed addressed row_test one size listed numbered is_session starts before follows in_place in_order rule1 rule2 each_row rises out_before begins_after rising rule7 first_broken late_rules row_rules fault is_fit is_lead_in is_lead_out begun tracks_in first_of last_from last_of is_framed has_adr every_adr follows_from Sheet.follows is_numbered is_described rows_of body_of table_with hand_out whole_answer answer
examples-tested = (refl, refl)
