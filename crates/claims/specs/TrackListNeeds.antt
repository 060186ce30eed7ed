-- K10: each condition of `twins_packet` on tables and packet is needed. Two tables, for which all the others hold, and a packet that tells
-- them apart; a track list that is asked for from a later N on, or cut, is not enough. All computed on Disc E and its like, in one list.
use Rattle.std.specs.Prelude.{◌≡◌, refl, Bool, true, false, not, ◌↔◌, ℕ, ◌+◌, ◌*◌, take, set, replicate, eqb}
use Rattle.std.proofs.Common.{sym, ap, ◌∙◌, eq-eqb, eqb-true}
use Rattle.std.proofs.lemmas.Bool.{false≢true, not-true}
use mathlib.Core.List.{List, [], ◌∷◌, ◌++◌, map, nil≢cons}
use Rattle.ground.specs.Tests.{◌and◌, ◌or◌, choose◌then◌else◌, every, and_head, and_tail, and_both}
use Rattle.address.specs.Address.{is_msf, shown_address}
use Rattle.attention.specs.Sense.{triple, sense_at, same_sense, among, is_known}
use Rattle.play.specs.Play.{is_status, is_play}
use Rattle.page.specs.Page.{among as among_bytes, is_setting}
use Rattle.attention.specs.Unit.{attend}
use Rattle.drive.specs.State.{is_known_state}
use Rattle.table.specs.Layout.{bound, header, row, last_session, descriptors, is_track, is_extra}
use Rattle.table.specs.Row.{start_of, names, simple, free, plain, head_a0, head_a1, headed, addressed, row_test}
use Rattle.sessions.specs.Session.{one, size, listed, numbered, is_session, starts, before, follows, in_place, in_order}
use Rattle.disc.specs.Rules.{rule1, rule2, each_row, rises, out_before, begins_after, rising, rule7, first_broken, late_rules, row_rules, fault, is_fit}
use Rattle.disc.specs.Part.{rule_with}
use Rattle.tracks.specs.Track.{next_out, out_at, covers, wanted, next_found, found, track_of, is_mode, in_mode, all_in}
use Rattle.gate.specs.Unit.{pending_of}
use Rattle.gate.specs.Gate.{gate}
use Rattle.command.specs.Command.{decode}
use Rattle.toc.specs.Shown.{is_shown, shown_track, shown_tracks}
use Rattle.toc.specs.Answer.{headed as toc_headed, format0, format1, format2, toc_bytes, toc_bad}
use Rattle.command.specs.Done.{answering}
use Rattle.blocks.specs.Range.{over, in_range, ranged}
use Rattle.target.specs.Perform.{perform}
use Rattle.target.specs.Packet.{refusal_of, answer as reply_to}
use Rattle.claims.specs.Marked.{table_e, loaded_e, Outcome, gives, reads, fails, shown_by, same_bytes, same_outcome}
use Rattle.claims.specs.Contents.{list_with, track_list, Contents, entries, contents_of, Twins, is_format2}

-- bytes that are found the same are equal, and equal ones are found so
same_bytes_equal : (x y : List ℕ) → same_bytes x y ≡ true → x ≡ y
unfolding same_bytes
same_bytes_equal [] [] h = refl
same_bytes_equal [] (b ∷ y) h = absurd (false≢true h)
same_bytes_equal (a ∷ x) [] h = absurd (false≢true h)
same_bytes_equal (a ∷ x) (b ∷ y) h =
    let p = eqb-true a b (and_head (eqb a b) (same_bytes x y) h) in
    let q = same_bytes_equal x y (and_tail (eqb a b) (same_bytes x y) h) in
    λ i. p i ∷ q i

same_bytes_itself : (x : List ℕ) → same_bytes x x ≡ true
unfolding same_bytes
same_bytes_itself [] = refl
same_bytes_itself (a ∷ x) = and_both (eqb a a) (same_bytes x x) (eq-eqb a a refl) (same_bytes_itself x)

equal-same_bytes : {x y : List ℕ} → x ≡ y → same_bytes x y ≡ true
equal-same_bytes {x} e = ap (same_bytes x) (sym e) ∙ same_bytes_itself x

-- "two fit tables", "of one session", "whose full format 0 answers .. are equal", "every packet except READ TOC format 2"
pub data Condition : Type 0 where
  fit : Condition
  single : Condition
  equal : Condition
  other_format : Condition

-- the conditions that do not hold, whether the cut lists are equal, what the packet gets with each table, and whether these differ
pub record Verdict : Type 0 where
  pub lacking : List Condition
  pub alike : Bool
  pub gets : Outcome
  pub other_gets : Outcome
  pub apart : Bool

-- two tables, whose track lists from N on are equal when cut to that length, and a packet that tells them apart on a drive "Loaded, nothing
-- pending"; and what is said of them
pub record Instance : Type 0 where
  pub table : List ℕ
  pub other : List ℕ
  pub number : ℕ
  pub cut : ℕ
  pub bytes : List ℕ
  pub said : Verdict

-- the condition c before the others, where its test fails
unfoldable pub without : Bool → Condition → List Condition → List Condition
without true c cs = cs
without false c cs = c ∷ cs

without-none : (b : Bool) (c : Condition) (cs : List Condition) → without b c cs ≡ [] → (b ≡ true) × (cs ≡ [])
unfolding without
without-none true c cs e = (refl, e)
without-none false c cs e = absurd (nil≢cons (sym e))

-- the conditions that do not hold
abbrev pub lacking_in : Instance → List Condition
lacking_in i =
    without (is_fit i.table and is_fit i.other) fit
    (without (eqb (last_session i.table) 1 and eqb (last_session i.other) 1) single
    (without (same_bytes (track_list i.table) (track_list i.other)) equal
    (without (not (is_format2 i.bytes)) other_format [])))

-- they all hold exactly where the tables are twins and the packet is not format 2
pub lacking-none : (i : Instance) → (lacking_in i ≡ []) ↔ (Twins i.table i.other × (is_format2 i.bytes ≡ false))
unfolding without
lacking-none i = (
  λ e.
      let a = without-none _ _ _ e in
      let b = without-none _ _ _ a.1 in
      let c = without-none _ _ _ b.1 in
      let d = without-none _ _ _ c.1 in (
        record {
          table = record { fit = and_head _ _ a.0; one = eqb-true _ _ (and_head _ _ b.0) };
          other = record { fit = and_tail _ _ a.0; one = eqb-true _ _ (and_tail _ _ b.0) };
          list = same_bytes_equal _ _ c.0;
        },
        not-true _ d.0,
      ),
  λ w.
      let t = w.0.table in
      let u = w.0.other in
      rw (and_both _ _ t.fit u.fit, and_both _ _ (eq-eqb _ 1 t.one) (eq-eqb _ 1 u.one), equal-same_bytes w.0.list, w.1),
)

-- the track list from that N on, by blocks, cut
abbrev pub cut_list : Instance → List ℕ → List ℕ
cut_list i t = take i.cut (list_with false i.number t)

-- what the packet gets with the table
abbrev pub given : Instance → List ℕ → Outcome
given i t = shown_by (reply_to loaded_e i.bytes t [] bound)

abbrev pub verdict_of : Instance → Verdict
verdict_of i = record {
  lacking = lacking_in i;
  alike = same_bytes (cut_list i i.table) (cut_list i i.other);
  gets = given i i.table;
  other_gets = given i i.other;
  apart = not (same_outcome (given i i.table) (given i i.other));
}

-- the one condition does not hold, and the packet gets one outcome with the first table and another with the second
abbrev pub needs : Condition → List ℕ → List ℕ → ℕ → ℕ → List ℕ → Outcome → Outcome → Instance
needs c t u n k p a b = record {
  table = t;
  other = u;
  number = n;
  cut = k;
  bytes = p;
  said = record { lacking = c ∷ []; alike = true; gets = a; other_gets = b; apart = true };
}

-- all bytes that can be asked for
abbrev pub whole : ℕ
whole = 0xFFFF

-- Table E with another byte in field x of descriptor j: 0 is A0, 1 is A1, 2 is A2, 3 and 4 are the tracks
abbrev pub changed_e : ℕ → ℕ → ℕ → List ℕ
changed_e j x b = set table_e (header + row * j + x) b

-- Table E with a B0h descriptor behind the tracks
abbrev pub with_b0 : List ℕ
with_b0 =
    0x00 ∷ 0x44 ∷ 0x01 ∷ 0x01
    ∷ descriptors table_e ++ 0x01 ∷ 0x50 ∷ 0x00 ∷ 0xB0 ∷ 0x00 ∷ 0x00 ∷ 0x00 ∷ 0x00 ∷ 0x00 ∷ 0x00 ∷ 0x00 ∷ []

-- the tracks of Table E in a session each; the lead-out of the first is at 00:03:f, block 75 + f
abbrev pub sittings : ℕ → List ℕ
sittings f =
    0x00 ∷ 0x5A ∷ 0x01 ∷ 0x02
    ∷ 0x01 ∷ 0x14 ∷ 0x00 ∷ 0xA0 ∷ 0x00 ∷ 0x00 ∷ 0x00 ∷ 0x00 ∷ 0x01 ∷ 0x00 ∷ 0x00
    ∷ 0x01 ∷ 0x14 ∷ 0x00 ∷ 0xA1 ∷ 0x00 ∷ 0x00 ∷ 0x00 ∷ 0x00 ∷ 0x01 ∷ 0x00 ∷ 0x00
    ∷ 0x01 ∷ 0x14 ∷ 0x00 ∷ 0xA2 ∷ 0x00 ∷ 0x00 ∷ 0x00 ∷ 0x00 ∷ 0x00 ∷ 0x03 ∷ f
    ∷ 0x01 ∷ 0x14 ∷ 0x00 ∷ 0x01 ∷ 0x00 ∷ 0x00 ∷ 0x00 ∷ 0x00 ∷ 0x00 ∷ 0x02 ∷ 0x00
    ∷ 0x02 ∷ 0x10 ∷ 0x00 ∷ 0xA0 ∷ 0x00 ∷ 0x00 ∷ 0x00 ∷ 0x00 ∷ 0x02 ∷ 0x00 ∷ 0x00
    ∷ 0x02 ∷ 0x10 ∷ 0x00 ∷ 0xA1 ∷ 0x00 ∷ 0x00 ∷ 0x00 ∷ 0x00 ∷ 0x02 ∷ 0x00 ∷ 0x00
    ∷ 0x02 ∷ 0x10 ∷ 0x00 ∷ 0xA2 ∷ 0x00 ∷ 0x00 ∷ 0x00 ∷ 0x00 ∷ 0x00 ∷ 0x06 ∷ 0x00
    ∷ 0x02 ∷ 0x10 ∷ 0x00 ∷ 0x02 ∷ 0x00 ∷ 0x00 ∷ 0x00 ∷ 0x00 ∷ 0x00 ∷ 0x04 ∷ 0x00
    ∷ []

-- Table E with all changed that a twin may change: control in A0 and A1, disc type, MIN, SEC and FRAME, a B0h and a C0h
abbrev pub twin_e : List ℕ
twin_e =
    0x00 ∷ 0x4F ∷ 0x01 ∷ 0x01
    ∷ 0x01 ∷ 0x1B ∷ 0x00 ∷ 0xA0 ∷ 0x11 ∷ 0x12 ∷ 0x13 ∷ 0x00 ∷ 0x01 ∷ 0x20 ∷ 0x00
    ∷ 0x01 ∷ 0x1F ∷ 0x00 ∷ 0xA1 ∷ 0x21 ∷ 0x22 ∷ 0x23 ∷ 0x00 ∷ 0x02 ∷ 0x00 ∷ 0x00
    ∷ 0x01 ∷ 0x10 ∷ 0x00 ∷ 0xA2 ∷ 0x31 ∷ 0x32 ∷ 0x33 ∷ 0x00 ∷ 0x00 ∷ 0x06 ∷ 0x00
    ∷ 0x01 ∷ 0x14 ∷ 0x00 ∷ 0x01 ∷ 0x41 ∷ 0x42 ∷ 0x43 ∷ 0x00 ∷ 0x00 ∷ 0x02 ∷ 0x00
    ∷ 0x01 ∷ 0x10 ∷ 0x00 ∷ 0x02 ∷ 0x51 ∷ 0x52 ∷ 0x53 ∷ 0x00 ∷ 0x00 ∷ 0x04 ∷ 0x00
    ∷ 0x01 ∷ 0x52 ∷ 0x00 ∷ 0xB0 ∷ 0x61 ∷ 0x62 ∷ 0x63 ∷ 0x64 ∷ 0x65 ∷ 0x66 ∷ 0x67
    ∷ 0x01 ∷ 0x50 ∷ 0x00 ∷ 0xC0 ∷ 0x71 ∷ 0x72 ∷ 0x73 ∷ 0x74 ∷ 0x75 ∷ 0x76 ∷ 0x77
    ∷ []

-- READ TOC from N 0 on, with that byte 2 and the length n; READ(10) a for 1; 25h, READ CAPACITY; 00h, TEST UNIT READY
abbrev pub ask_toc : ℕ → ℕ → List ℕ
ask_toc b n = 0x43 ∷ 0x00 ∷ b ∷ 0x00 ∷ 0x00 ∷ 0x00 ∷ 0x00 ∷ 0x00 ∷ n ∷ 0x00 ∷ 0x00 ∷ 0x00 ∷ []

abbrev pub read_one : ℕ → List ℕ
read_one a = 0x28 ∷ 0x00 ∷ 0x00 ∷ 0x00 ∷ 0x00 ∷ a ∷ 0x00 ∷ 0x00 ∷ 0x01 ∷ 0x00 ∷ 0x00 ∷ 0x00 ∷ []

abbrev pub ask_capacity : List ℕ
ask_capacity = 0x25 ∷ 0x00 ∷ 0x00 ∷ 0x00 ∷ 0x00 ∷ 0x00 ∷ 0x00 ∷ 0x00 ∷ 0x00 ∷ 0x00 ∷ 0x00 ∷ 0x00 ∷ []

abbrev pub test_unit_ready : List ℕ
test_unit_ready = 0x00 ∷ 0x00 ∷ 0x00 ∷ 0x00 ∷ 0x00 ∷ 0x00 ∷ 0x00 ∷ 0x00 ∷ 0x00 ∷ 0x00 ∷ 0x00 ∷ 0x00 ∷ []

-- 05/64/00, illegal mode for this track; refused by 4 with rule 3
abbrev pub illegal_mode : Outcome
illegal_mode = fails 0x05 0x64 0x00

abbrev pub unfit_by3 : Outcome
unfit_by3 = record { number = 4; rule = 3; status = 0x00; sense = triple 0x00 0x00 0x00; shown = []; start = 0; count = 0 }

abbrev pub instances : List Instance
instances =
    -- 1, "fit": A0 with TNO 1
    needs fit table_e (changed_e 0 2 0x01) 0 whole test_unit_ready (gives []) unfit_by3
    -- 2 and 3, "of one session": one session and two, by format 1 and by READ
    ∷ needs single table_e (sittings 74) 0 whole (ask_toc 1 12) (gives (0x00 ∷ 0x0A ∷ 0x01 ∷ 0x01 ∷ 0x00 ∷ 0x14 ∷ 0x01 ∷ 0x00 ∷ 0x00 ∷ 0x00 ∷ 0x00 ∷ 0x00 ∷ [])) (gives (0x00 ∷ 0x0A ∷ 0x01 ∷ 0x02 ∷ 0x00 ∷ 0x10 ∷ 0x02 ∷ 0x00 ∷ 0x00 ∷ 0x00 ∷ 0x00 ∷ 0x96 ∷ []))
    ∷ needs single table_e (sittings 74) 0 whole (read_one 149) (reads 149 1) illegal_mode
    -- 4, two sessions each, whose first ones end apart
    ∷ needs single (sittings 74) (sittings 0) 0 whole (read_one 100) (reads 100 1) illegal_mode
    -- 5 to 8, "except READ TOC format 2": A0's MIN, its control (by byte 2 F2h), its PSEC (the disc type), a B0h
    ∷ needs other_format table_e (changed_e 0 4 0x63) 0 whole (ask_toc 2 9) (gives (0x00 ∷ 0x39 ∷ 0x01 ∷ 0x01 ∷ 0x01 ∷ 0x14 ∷ 0x00 ∷ 0xA0 ∷ 0x00 ∷ [])) (gives (0x00 ∷ 0x39 ∷ 0x01 ∷ 0x01 ∷ 0x01 ∷ 0x14 ∷ 0x00 ∷ 0xA0 ∷ 0x63 ∷ []))
    ∷ needs other_format table_e (changed_e 0 1 0x10) 0 whole (ask_toc 0xF2 6) (gives (0x00 ∷ 0x39 ∷ 0x01 ∷ 0x01 ∷ 0x01 ∷ 0x14 ∷ [])) (gives (0x00 ∷ 0x39 ∷ 0x01 ∷ 0x01 ∷ 0x01 ∷ 0x10 ∷ []))
    ∷ needs other_format table_e (changed_e 0 9 0x20) 0 whole (ask_toc 2 14) (gives (0x00 ∷ 0x39 ∷ 0x01 ∷ 0x01 ∷ 0x01 ∷ 0x14 ∷ 0x00 ∷ 0xA0 ∷ 0x00 ∷ 0x00 ∷ 0x00 ∷ 0x00 ∷ 0x01 ∷ 0x00 ∷ [])) (gives (0x00 ∷ 0x39 ∷ 0x01 ∷ 0x01 ∷ 0x01 ∷ 0x14 ∷ 0x00 ∷ 0xA0 ∷ 0x00 ∷ 0x00 ∷ 0x00 ∷ 0x00 ∷ 0x01 ∷ 0x20 ∷ []))
    ∷ needs other_format table_e with_b0 0 whole (ask_toc 2 4) (gives (0x00 ∷ 0x39 ∷ 0x01 ∷ 0x01 ∷ [])) (gives (0x00 ∷ 0x44 ∷ 0x01 ∷ 0x01 ∷ []))
    -- 9 and 10, "N 0": from N 2 on track 1's control is lost, and with AAh track 2's start
    ∷ needs equal table_e (changed_e 3 1 0x10) 2 whole (read_one 0) (reads 0 1) illegal_mode
    ∷ needs equal table_e (changed_e 4 9 0x05) 0xAA whole (read_one 150) illegal_mode (reads 150 1)
    -- 11, "full": without its last byte the lead-out's address is lost
    ∷ needs equal table_e (changed_e 2 10 0x01) 0 27 ask_capacity (gives (0x00 ∷ 0x00 ∷ 0x01 ∷ 0x2B ∷ 0x00 ∷ 0x00 ∷ 0x08 ∷ 0x00 ∷ [])) (gives (0x00 ∷ 0x00 ∷ 0x01 ∷ 0x2C ∷ 0x00 ∷ 0x00 ∷ 0x08 ∷ 0x00 ∷ []))
    ∷ []

abbrev pub said_of : Instance → Verdict
said_of i = i.said

-- each instance is as it says
pub needed : map verdict_of instances ≡ map said_of instances
unfolding without same_outcome same_bytes ◌or◌ choose◌then◌else◌ every is_msf sense_at same_sense among is_known is_status is_play among_bytes is_setting is_known_state attend is_track is_extra start_of names simple free plain head_a0 head_a1 headed addressed row_test one size listed numbered is_session starts before follows in_place in_order rule1 rule2 each_row rises out_before begins_after rising rule7 first_broken late_rules row_rules fault is_fit rule_with next_out out_at covers wanted next_found found track_of is_mode in_mode all_in pending_of gate decode shown_address is_shown shown_track shown_tracks toc_headed format0 format1 format2 toc_bytes toc_bad answering over in_range ranged perform refusal_of reply_to
needed = refl

-- ---- such tables there are

pub twins_E : Twins table_e twin_e
unfolding ◌or◌ choose◌then◌else◌ every is_msf is_track is_extra start_of names simple free plain head_a0 head_a1 headed addressed row_test one size listed numbered is_session starts follows in_place in_order rule1 rule2 each_row rises begins_after rising rule7 first_broken late_rules row_rules fault is_fit shown_address is_shown shown_track shown_tracks format0
twins_E = record { table = record { fit = refl; one = refl }; other = record { fit = refl; one = refl }; list = refl }

-- the contents of both
abbrev pub contents_e : Contents
contents_e = record {
  first = 1;
  last = 2;
  tracks =
      record { flags = 0x14; number = 1; start = 0 }
      ∷ record { flags = 0x10; number = 2; start = 150 }
      ∷ [];
  flags_of_lead = 0x10;
  session_lead_out = 300;
}

-- as computed; and of the same tracks in two sessions, wherever the first ends
pub contents_E : map contents_of (table_e ∷ twin_e ∷ sittings 74 ∷ sittings 0 ∷ []) ≡ replicate 4 contents_e
unfolding entries choose◌then◌else◌ ◌and◌ is_track start_of starts size one
contents_E = refl
