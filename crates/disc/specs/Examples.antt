-- Table E of 01 and discs of several sittings are fit, and each way to break a rule of one gives that rule's number: one statement over one
-- list, closed by computation.
use Rattle.std.specs.Prelude.{◌≡◌, refl, Bool, true, List, [], ◌∷◌, ◌++◌, ℕ, zero, suc, ◌+◌, ◌*◌, ◌/◌, ◌%◌, length, take, set, replicate, eqb}
use Rattle.ground.specs.Tests.{◌and◌, ◌or◌, every, choose◌then◌else◌}
use Rattle.address.specs.Address.{is_msf, minute_of, second_of, frame_of}
use Rattle.table.specs.Layout.{is_track, is_extra, A0, A1, A2, B0, C0}
use Rattle.table.specs.Row.{start_of, names, simple, free, plain, head_a0, head_a1, headed, addressed, row_test}
use Rattle.sessions.specs.Session.{one, size, listed, numbered, is_session, starts, before, follows, in_place, in_order}
use Rattle.disc.specs.Rules.{rule1, rule2, each_row, rises, out_before, begins_after, rising, rule7, first_broken, late_rules, row_rules, fault}

-- ---- tables

-- "Table E, 59 bytes"
abbrev pub table_e : List ℕ
table_e =
    0x00 ∷ 0x39 ∷ 0x01 ∷ 0x01 ∷
    0x01 ∷ 0x14 ∷ 0x00 ∷ 0xA0 ∷ 0x00 ∷ 0x00 ∷ 0x00 ∷ 0x00 ∷ 0x01 ∷ 0x00 ∷ 0x00 ∷
    0x01 ∷ 0x10 ∷ 0x00 ∷ 0xA1 ∷ 0x00 ∷ 0x00 ∷ 0x00 ∷ 0x00 ∷ 0x02 ∷ 0x00 ∷ 0x00 ∷
    0x01 ∷ 0x10 ∷ 0x00 ∷ 0xA2 ∷ 0x00 ∷ 0x00 ∷ 0x00 ∷ 0x00 ∷ 0x00 ∷ 0x06 ∷ 0x00 ∷
    0x01 ∷ 0x14 ∷ 0x00 ∷ 0x01 ∷ 0x00 ∷ 0x00 ∷ 0x00 ∷ 0x00 ∷ 0x00 ∷ 0x02 ∷ 0x00 ∷
    0x01 ∷ 0x10 ∷ 0x00 ∷ 0x02 ∷ 0x00 ∷ 0x00 ∷ 0x00 ∷ 0x00 ∷ 0x00 ∷ 0x04 ∷ 0x00 ∷ []

-- table E with another byte for field x of descriptor j: 0 is A0, 1 is A1, 2 is A2, 3 and 4 are the tracks
abbrev pub changed : ℕ → ℕ → ℕ → List ℕ
changed j x b = set table_e (4 + 11 * j + x) b

-- table E with another M:S:F in descriptor j
abbrev pub moved : ℕ → ℕ → ℕ → ℕ → List ℕ
moved j m s f = set (set (set table_e (4 + 11 * j + 8) m) (4 + 11 * j + 9) s) (4 + 11 * j + 10) f

-- a descriptor of session k, with three bytes for PMIN, PSEC and PFRAME
abbrev pub entry : ℕ → ℕ → ℕ → ℕ → ℕ → List ℕ
entry k p m s f = k ∷ 0x10 ∷ 0 ∷ p ∷ 0 ∷ 0 ∷ 0 ∷ 0 ∷ m ∷ s ∷ f ∷ []

-- a descriptor of session k, with a block's address
abbrev pub entry_at : ℕ → ℕ → ℕ → List ℕ
entry_at k p a = entry k p (minute_of a) (second_of a) (frame_of a)

-- the table of S sessions with these descriptors, its data length put before them
abbrev pub framed : ℕ → List ℕ → List ℕ
framed s d = (length d + 2) / 256 ∷ (length d + 2) % 256 ∷ 1 ∷ s ∷ d

-- session k, whose tracks are f to l, without the tracks
abbrev pub heads : ℕ → ℕ → ℕ → ℕ → List ℕ
heads k f l out = entry k A0 f 0 0 ++ (entry k A1 l 0 0 ++ entry_at k A2 out)

-- tracks 1 and 2 in two sessions: the first from 0 to 150, the second from a to 450
abbrev pub two : ℕ → List ℕ
two a = framed 2 (heads 1 1 1 150 ++ (entry_at 1 1 0 ++ (heads 2 2 2 450 ++ entry_at 2 2 a)))

-- a B0h or C0h descriptor of session k: ADR 5, and a byte for each that is free (control, MIN, SEC, FRAME, ZERO, PMIN, PSEC, PFRAME)
abbrev pub extra : ℕ → ℕ → ℕ → List ℕ
extra k p b = k ∷ (0x50 + b % 16) ∷ 0 ∷ p ∷ b ∷ b ∷ b ∷ b ∷ b ∷ b ∷ b ∷ []

-- tracks 1 and 2 in two sessions, with what stands after the tracks of the first and of the second
abbrev pub sittings : List ℕ → List ℕ → List ℕ
sittings a b = framed 2 (heads 1 1 1 150 ++ (entry_at 1 1 0 ++ (a ++ (heads 2 2 2 450 ++ (entry_at 2 2 151 ++ b)))))

-- the same with one byte of descriptor j changed
abbrev pub sittings_but : ℕ → ℕ → ℕ → List ℕ → List ℕ → List ℕ
sittings_but j x v a b = set (sittings a b) (4 + 11 * j + x) v

-- the n tracks of one session
unfoldable pub chain : ℕ → List ℕ
chain zero = []
chain (suc n) = chain n ++ entry_at 1 (suc n) n

-- ---- the cases

-- a table and the number of its first broken rule, 0 for fit
pub record Case : Type 0 where
  pub table : List ℕ
  pub rule : ℕ

infix 2 ◌gives◌
abbrev pub ◌gives◌ : List ℕ → ℕ → Case
t gives n = record { table = t; rule = n }

abbrev pub cases : List Case
cases =
    (table_e gives 0)
    -- 1: nothing, no header, a byte short of a descriptor, a data length that is wrong
    ∷ ([] gives 1)
    ∷ (take 3 table_e gives 1)
    ∷ (set (take 58 table_e) 1 0x38 gives 1)
    ∷ (table_e ++ 0 ∷ [] gives 1)
    ∷ (set table_e 1 0x3A gives 1)
    ∷ (set table_e 0 0x01 gives 1)
    -- 2: S is 0 or 100, the first session not 1
    ∷ (set table_e 3 0 gives 2)
    ∷ (set table_e 3 100 gives 2)
    ∷ (set table_e 2 0 gives 2)
    ∷ (set table_e 2 2 gives 2)
    -- 3: ADR, TNO and ZERO
    ∷ (changed 0 1 0x24 gives 3)
    ∷ (changed 4 1 0x04 gives 3)
    ∷ (changed 1 2 1 gives 3)
    ∷ (changed 3 2 255 gives 3)
    ∷ (changed 2 7 1 gives 3)
    ∷ (changed 4 7 128 gives 3)
    -- 4: a session too few, none at all, a session number, a POINT, a gap in the tracks, f of 0, l < f, too short, too long, over 99
    ∷ (set table_e 3 2 gives 4)
    ∷ (framed 1 [] gives 4)
    ∷ (changed 0 0 2 gives 4)
    ∷ (changed 4 0 0 gives 4)
    ∷ (changed 0 3 0xA1 gives 4)
    ∷ (changed 2 3 0xA3 gives 4)
    ∷ (changed 4 3 3 gives 4)
    ∷ (changed 3 3 0 gives 4)
    ∷ (changed 0 8 0 gives 4)
    ∷ (changed 0 8 3 gives 4)
    ∷ (changed 1 8 0 gives 4)
    ∷ (changed 1 8 3 gives 4)
    ∷ (changed 1 8 1 gives 4)
    ∷ (framed 1 (heads 1 99 99 9 ++ entry_at 1 99 0) gives 0)
    ∷ (framed 1 (heads 1 100 100 9 ++ entry_at 1 100 0) gives 4)
    -- 4: the next session's f is not l + 1
    ∷ (framed 2 (heads 1 1 1 150 ++ (entry_at 1 1 0 ++ (heads 2 3 3 450 ++ entry_at 2 3 151))) gives 4)
    ∷ (framed 2 (heads 1 1 1 150 ++ (entry_at 1 1 0 ++ (heads 2 1 1 450 ++ entry_at 2 1 151))) gives 4)
    -- 5: A0's PSEC and PFRAME, A1's
    ∷ (changed 0 9 0x10 gives 0)
    ∷ (changed 0 9 0x20 gives 0)
    ∷ (changed 0 9 0x30 gives 5)
    ∷ (changed 0 9 0x01 gives 5)
    ∷ (changed 0 10 1 gives 5)
    ∷ (changed 1 9 0x10 gives 5)
    ∷ (changed 1 10 1 gives 5)
    -- 6: 00:01:74 and 99:59:74 with their neighbours, seconds over 59, minutes over 99
    ∷ (moved 3 0 2 0 gives 0)
    ∷ (moved 3 0 1 74 gives 6)
    ∷ (moved 3 0 0 0 gives 6)
    ∷ (moved 2 99 59 74 gives 0)
    ∷ (moved 2 99 59 75 gives 6)
    ∷ (moved 2 99 60 0 gives 6)
    ∷ (moved 2 100 0 0 gives 6)
    ∷ (moved 4 0 3 75 gives 6)
    ∷ (moved 4 0 60 0 gives 6)
    -- 7: equal starts, falling ones, a lead-out at and before the last track, a session at and before the lead-out of the one before
    ∷ (moved 4 0 2 0 gives 7)
    ∷ (moved 3 0 4 1 gives 7)
    ∷ (moved 2 0 4 0 gives 7)
    ∷ (moved 2 0 3 74 gives 7)
    ∷ (moved 2 0 4 1 gives 0)
    ∷ (two 151 gives 0)
    ∷ (two 150 gives 7)
    ∷ (two 149 gives 7)
    ∷ (two 0 gives 7)
    -- the first session's f is free, and MIN, SEC and FRAME may hold anything
    ∷ (framed 1 (heads 1 7 8 9 ++ (entry_at 1 7 0 ++ entry_at 1 8 1)) gives 0)
    ∷ (set (changed 3 4 255) 20 99 gives 0)
    -- two rules broken: the first is given, also 3 by the last descriptor where the first breaks 4
    ∷ (set (changed 4 2 1) 4 9 gives 3)
    ∷ (set (changed 4 10 75) 14 1 gives 5)
    ∷ (set (set table_e 3 100) 1 0 gives 1)
    -- as many tracks as there can be
    ∷ (framed 1 (heads 1 1 99 99 ++ chain 99) gives 0)
    -- K1: B0h alone, C0h alone and both, in a first and in a last session; their other bytes are free
    ∷ (sittings (extra 1 B0 0) [] gives 0)
    ∷ (sittings [] (extra 2 B0 0) gives 0)
    ∷ (sittings (extra 1 C0 0) [] gives 0)
    ∷ (sittings [] (extra 2 C0 0) gives 0)
    ∷ (sittings (extra 1 B0 0 ++ extra 1 C0 0) [] gives 0)
    ∷ (sittings [] (extra 2 B0 0 ++ extra 2 C0 0) gives 0)
    ∷ (sittings (extra 1 B0 255 ++ extra 1 C0 255) (extra 2 B0 99 ++ extra 2 C0 1) gives 0)
    -- 4: C0h before B0h, two of one, a wrong session's number, one before the tracks or before A0, a C0h alone, B1h, B4h and C1h
    ∷ (sittings (extra 1 C0 0 ++ extra 1 B0 0) [] gives 4)
    ∷ (sittings [] (extra 2 C0 0 ++ extra 2 B0 0) gives 4)
    ∷ (sittings (extra 1 B0 0 ++ extra 1 B0 0) [] gives 4)
    ∷ (sittings [] (extra 2 C0 0 ++ extra 2 C0 0) gives 4)
    ∷ (sittings (extra 2 B0 0) [] gives 4)
    ∷ (sittings [] (extra 1 C0 0) gives 4)
    ∷ (sittings (extra 1 B0 0 ++ extra 2 C0 0) [] gives 4)
    ∷ (framed 1 (heads 1 1 1 150 ++ (extra 1 B0 0 ++ entry_at 1 1 0)) gives 4)
    ∷ (framed 1 (extra 1 B0 0 ++ (heads 1 1 1 150 ++ entry_at 1 1 0)) gives 4)
    ∷ (framed 1 (extra 1 C0 0) gives 4)
    ∷ (sittings (entry 1 0xB1 0 2 0) [] gives 4)
    ∷ (sittings [] (entry 2 0xB4 0 2 0) gives 4)
    ∷ (sittings [] (entry 2 0xC1 0 2 0) gives 4)
    -- 3: B1h and C1h with ADR 5; in a B0h and a C0h ADR 1 or 4 or TNO 1, wherever they stand; ADR 5 in a track, in A0 and in A2
    ∷ (sittings (extra 1 0xB1 0) [] gives 3)
    ∷ (sittings [] (extra 2 0xC1 0) gives 3)
    ∷ (sittings_but 4 1 0x10 (extra 1 B0 0) [] gives 3)
    ∷ (sittings_but 8 1 0x40 [] (extra 2 C0 0) gives 3)
    ∷ (sittings_but 4 2 1 (extra 1 B0 0) [] gives 3)
    ∷ (sittings_but 9 2 1 [] (extra 2 B0 0 ++ extra 2 C0 0) gives 3)
    ∷ (framed 1 (heads 1 1 1 150 ++ (entry 1 B0 0 2 0 ++ entry_at 1 1 0)) gives 3)
    ∷ (sittings_but 3 1 0x50 (extra 1 B0 0) [] gives 3)
    ∷ (sittings_but 0 1 0x50 [] [] gives 3)
    ∷ (sittings_but 2 1 0x54 [] [] gives 3)
    -- a descriptor over 6,538 bytes is too many for rule 1
    ∷ (framed 1 (replicate 6545 0) gives 1)
    ∷ []

unfoldable pub tested : List Case → Bool
tested [] = true
tested (c ∷ cs) = eqb (fault c.table) c.rule and tested cs

pub examples-tested : tested cases ≡ true
unfolding tested ◌and◌ ◌or◌ every choose◌then◌else◌ is_msf is_track is_extra start_of names simple free plain head_a0 head_a1 headed addressed row_test one size listed numbered is_session starts before follows in_place in_order rule1 rule2 each_row rises out_before begins_after rising rule7 first_broken late_rules row_rules fault chain
examples-tested = refl
