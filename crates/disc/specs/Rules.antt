-- "A table is fit if": rules 1 to 7, each over the whole table, and the first that is broken.
use Rattle.std.specs.Prelude.{ℕ, zero, suc, ◌+◌, ◌-◌, ◌%◌, Bool, true, false, List, [], ◌∷◌, length, leb, ltb, eqb}
use Rattle.ground.specs.Tests.{◌and◌, ◌or◌, every}
use Rattle.table.specs.Layout.{bound, data_length, first_session, last_session, header, row, descriptors, rows}
use Rattle.table.specs.Row.{row_at, address_at, row_test}
use Rattle.sessions.specs.Session.{tracks, session, in_order}

-- 1. "it is 4 to 4,360 bytes long, 4 plus a multiple of 11, and its data length is its length less 2"; of K1 the bound: 6,538
unfoldable pub rule1 : List ℕ → Bool
rule1 t = leb header (length t) and leb (length t) bound and eqb ((length t - header) % row) 0 and eqb (data_length t) (length t - 2)

-- 2. "the first session is 1 and S is 1 to 99"
unfoldable pub rule2 : List ℕ → Bool
rule2 t = eqb (first_session t) 1 and leb 1 (last_session t) and leb (last_session t) 99

-- 3, 5 and 6: each descriptor passes the rule's test, which `row_test` chooses: `plain`, `headed` and `addressed` of table's Row
unfoldable pub each_row : ℕ → List ℕ → Bool
each_row n d = every (rows d) (λ j. row_test n (row_at d j))

-- 4. `in_order` of sessions' Session

-- of the session that s begins with: the lead-out, and where its track after i others starts
abbrev pub session_lead_out : List ℕ → ℕ
session_lead_out s = address_at s 2

abbrev pub track_start : List ℕ → ℕ → ℕ
track_start s i = address_at s (3 + i)

-- 7. "track starts rise strictly, a session's last track starts before its lead-out": of the session that s begins with, with n tracks;
-- K1: what stands after the tracks is passed over
unfoldable pub rises : List ℕ → ℕ → Bool
rises s n = every (n - 1) (λ i. ltb (track_start s i) (track_start s (i + 1))) and ltb (track_start s (n - 1)) (session_lead_out s)

-- the lead-out of the session before
unfoldable pub out_before : List ℕ → ℕ → ℕ
out_before d zero = 0
out_before d (suc k) = session_lead_out (session d k)

-- "and the next session's first track after that lead-out"
unfoldable pub begins_after : ℕ → ℕ → ℕ → Bool
begins_after k out start = eqb k 0 or ltb out start

-- of session k + 1
unfoldable pub rising : List ℕ → ℕ → Bool
rising d k = rises (session d k) (tracks (session d k)) and begins_after k (out_before d k) (track_start (session d k) 0)

unfoldable pub rule7 : ℕ → List ℕ → Bool
rule7 n d = every n (rising d)

-- the number of the first test that fails, counted from n; 0 where none does
unfoldable pub first_broken : ℕ → List Bool → ℕ
first_broken n [] = 0
first_broken n (true ∷ tests) = first_broken (n + 1) tests
first_broken n (false ∷ tests) = n

-- rules 5 to 7, and rules 3 to 7, of the descriptors of s sessions
unfoldable pub late_rules : ℕ → List ℕ → List Bool
late_rules s d = each_row 5 d ∷ each_row 6 d ∷ rule7 s d ∷ []

unfoldable pub row_rules : ℕ → List ℕ → List Bool
row_rules s d = each_row 3 d ∷ in_order s d ∷ late_rules s d

-- the first broken rule of 1 to 7, each over the whole table, or 0 for fit
unfoldable pub fault : List ℕ → ℕ
fault t = first_broken 1 (rule1 t ∷ rule2 t ∷ row_rules (last_session t) (descriptors t))

unfoldable pub is_fit : List ℕ → Bool
is_fit t = eqb (fault t) 0
