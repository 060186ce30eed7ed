-- "A program reads tables from standard input, each its data length plus 2 long": a stream of bytes cut into tables.
use Rattle.std.specs.Prelude.{ℕ, zero, suc, ◌+◌, ◌-◌, List, [], ◌∷◌, ◌++◌, length, take, drop, leb, ◌≡◌, Result, Ok, Err}
use Rattle.ground.specs.Tests.{choose◌then◌else◌}
use Rattle.ground.specs.Memory.{fill}
use Rattle.table.specs.Layout.{data_length}
use Rattle.shelf.specs.declared.totals.Totals.{Totals}
use Rattle.shelf.specs.declared.totals.TooLarge.{TooLarge}
use Rattle.shelf.specs.declared.stream.Passed.{Passed}
use Rattle.shelf.specs.declared.stream.Taken.{Taken}
use Rattle.shelf.specs.Totals.{sum, totals_of, within, too_large, bounded}

-- how long the table is that s begins with; a byte that is not there counts as 0
abbrev pub table_length : List ℕ → ℕ
table_length s = data_length s + 2

-- the whole tables that s begins with, n at most, and what is left behind them; "one over the bound, which is skipped", is one of them too, and
-- breaks rule 1 by its length (claims' `shelf-over`)
unfoldable pub wholes_in : ℕ → List ℕ → List (List ℕ)
wholes_in zero s = []
wholes_in (suc n) s =
    choose leb (table_length s) (length s) then take (table_length s) s ∷ wholes_in n (drop (table_length s) s) else []

unfoldable pub rest_in : ℕ → List ℕ → List ℕ
rest_in zero s = s
rest_in (suc n) s = choose leb (table_length s) (length s) then rest_in n (drop (table_length s) s) else s

-- all of them: there are no more than bytes
unfoldable pub wholes : List ℕ → List (List ℕ)
wholes s = wholes_in (length s) s

unfoldable pub rest : List ℕ → List ℕ
rest s = rest_in (length s) s

-- "A table cut off by the end counts": what is left is one, a single byte too, and breaks rule 1 by its length (`shelf-cut_off`)
unfoldable pub cut_off : List ℕ → List (List ℕ)
cut_off [] = []
cut_off (b ∷ s) = (b ∷ s) ∷ []

-- the tables of a stream
unfoldable pub tables : List ℕ → List (List ℕ)
tables s = wholes s ++ cut_off (rest s)

-- what a shelf holds whose stream is s
unfoldable pub shelf : List ℕ → Totals
shelf s = totals_of (tables s)

-- the same on top of what was counted before
unfoldable pub counted : Totals → List ℕ → Result Totals TooLarge
counted a s = bounded (sum a (shelf s))

-- totals, and how many bytes were counted for them
unfoldable pub passed_to : Totals → ℕ → Result Passed TooLarge
passed_to a used = choose within a then Ok (record { totals = a; used = used }) else Err too_large

-- what was read so far: its whole tables are counted, and how many bytes they take is told
unfoldable pub passed : Totals → List ℕ → Result Passed TooLarge
passed a s = passed_to (sum a (totals_of (wholes s))) (length s - length (rest s))

-- how many of n bytes are left
unfoldable pub left_by : Result Passed TooLarge → ℕ → ℕ
left_by (Ok p) n = n - p.used
left_by (Err e) n = 0

-- a piece taken in: the totals so far and how many of its n bytes are left; and what the room m holds then whose first bytes are s: what is
-- left of them stands in front
unfoldable pub taken_by : Result Passed TooLarge → ℕ → Result Taken TooLarge
taken_by (Ok p) n = Ok (record { totals = p.totals; left = n - p.used })
taken_by (Err e) n = Err e

unfoldable pub kept_by : Result Passed TooLarge → List ℕ → List ℕ → List ℕ
kept_by (Ok p) s m = fill m (drop p.used s)
kept_by (Err e) s m = m

pub record Took (a : Totals) (s m : List ℕ) (r : Result Taken TooLarge) (m' : List ℕ) : Type 0 where
  pub outcome : r ≡ taken_by (passed a s) (length s)
  pub memory : m' ≡ kept_by (passed a s) s m

-- how many bytes are left
unfoldable pub left_in : Result Taken TooLarge → ℕ
left_in (Ok t) = t.left
left_in (Err e) = 0
