-- "Each session is read as the part of the table that begins at its A0 descriptor."
use Rattle.std.specs.Prelude.{ℕ, zero, suc, ◌+◌, ◌-◌, ◌*◌, Bool, List, length, drop, leb, eqb, Option, Some, None}
use Rattle.ground.specs.Tests.{◌and◌, ◌or◌, every, choose◌then◌else◌}
use Rattle.table.specs.Layout.{row, session_at, point_at, pmin_at, A0, A1, A2, B0, C0}
use Rattle.table.specs.Row.{row_at, names}
use Rattle.sessions.specs.declared.session.Session.{Session}

-- "tracks f, f+1, .. l, with f in A0's PMIN, l in A1's": of the session that d begins with
abbrev pub first : List ℕ → ℕ
first d = pmin_at d 0

abbrev pub last : List ℕ → ℕ
last d = pmin_at d 1

-- how many tracks
abbrev pub tracks : List ℕ → ℕ
tracks d = last d + 1 - first d

-- one where POINT q is p, and none where it is not
unfoldable pub one : ℕ → ℕ → ℕ
one q p = choose eqb q p then 1 else 0

-- K1: "After a session's tracks there may stand at most one POINT B0h and then at most one C0h descriptor"
abbrev pub b0s : List ℕ → ℕ
b0s d = one (point_at d (3 + tracks d)) B0

abbrev pub c0s : List ℕ → ℕ
c0s d = one (point_at d (3 + tracks d + b0s d)) C0

-- how many descriptors in all, those two counted in, and how many bytes they take
abbrev pub count : List ℕ → ℕ
count d = 3 + tracks d + b0s d + c0s d

unfoldable pub size : List ℕ → ℕ
size d = row * count d

-- "each as POINT A0h, A1h, A2h and then tracks f, f+1, .. l": n of them from f on
unfoldable pub listed : List ℕ → ℕ → ℕ → ℕ → Bool
listed d k f n =
    names (row_at d 0) k A0 and names (row_at d 1) k A1 and names (row_at d 2) k A2 and every n (λ i. names (row_at d (3 + i)) k (f + i))

-- K1: "each with its session's number": the m descriptors from j on
unfoldable pub numbered : List ℕ → ℕ → ℕ → ℕ → Bool
numbered d k j m = every m (λ i. eqb (session_at d (j + i)) k)

-- d begins with session k: "1 ≤ f ≤ l ≤ 99"
unfoldable pub is_session : ℕ → List ℕ → Bool
is_session k d =
    leb (size d) (length d) and leb 1 (first d) and leb (first d) (last d) and leb (last d) 99
    and listed d k (first d) (tracks d) and numbered d k (3 + tracks d) (b0s d + c0s d)

-- where the session after k others begins
unfoldable pub starts : List ℕ → ℕ → ℕ
starts d zero = 0
starts d (suc k) = starts d k + size (drop (starts d k) d)

-- the table from the A0 descriptor of that session on
abbrev pub session : List ℕ → ℕ → List ℕ
session d k = drop (starts d k) d

-- the last track of the session before it
unfoldable pub before : List ℕ → ℕ → ℕ
before d zero = 0
before d (suc k) = last (session d k)

-- "the next session's f being l + 1": the first session's f is free
unfoldable pub follows : ℕ → ℕ → ℕ → Bool
follows k f l = eqb k 0 or eqb f (l + 1)

-- session k + 1 stands in its place
unfoldable pub in_place : List ℕ → ℕ → Bool
in_place d k = is_session (k + 1) (session d k) and follows k (first (session d k)) (before d k)

-- "it lists sessions 1 to S in order .. and nothing more"
unfoldable pub in_order : ℕ → List ℕ → Bool
in_order n d = every n (in_place d) and eqb (starts d n) (length d)

-- what the session reader answers
unfoldable pub read_session : ℕ → List ℕ → Option Session
read_session k d = choose is_session k d then Some (record { first = first d; last = last d; bytes = size d }) else None
