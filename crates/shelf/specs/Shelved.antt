-- What is said of a stream: its tables one after the other, what the fit ones come to, and the reading in pieces.
use Rattle.std.specs.Prelude.{ℕ, ◌+◌, List, [], ◌∷◌, ◌++◌, drop, Result, Ok, Err}
use Rattle.shelf.specs.Content.{last_out}
use Rattle.shelf.specs.Totals.{if_fit}
use Rattle.shelf.specs.Stream.{counted, passed}
use Rattle.shelf.specs.declared.totals.Totals.{Totals}
use Rattle.shelf.specs.declared.totals.TooLarge.{TooLarge}
use Rattle.shelf.specs.declared.stream.Passed.{Passed}

-- lists one after the other
unfoldable pub concat : List (List ℕ) → List ℕ
concat [] = []
concat (t ∷ ts) = t ++ concat ts

-- the sum of the fit tables' last lead-outs
unfoldable pub lead_outs : List (List ℕ) → ℕ
lead_outs [] = 0
lead_outs (t ∷ ts) = if_fit t (last_out t) + lead_outs ts

-- after a piece: `more` of the totals so far and of what is left of s; too large stays too large
unfoldable pub go_on : Result Passed TooLarge → List ℕ → (Totals → List ℕ → Result Totals TooLarge) → Result Totals TooLarge
go_on (Ok p) s more = more p.totals (drop p.used s)
go_on (Err e) s more = Err e

-- one piece after the other: its whole tables are counted, and what is left stands before the next piece
unfoldable pub pieces : Totals → List ℕ → List (List ℕ) → Result Totals TooLarge
pieces a held [] = counted a held
pieces a held (p ∷ ps) = go_on (passed a (held ++ p)) (held ++ p) (λ b left. pieces b left ps)
