-- What is printed: "one a line", a bare number each; past 64 bits the one line "total too large" and no totals.
use Rattle.std.specs.Prelude.{ℕ, List, [], ◌∷◌, Result, Ok, Err}
use Rattle.print.specs.Joined.{◌next◌, line_end}
use Rattle.print.specs.Numbers.{joined}
use Rattle.shelf.specs.Totals.{numbers_of}
use Rattle.shelf.specs.declared.totals.Totals.{Totals}
use Rattle.shelf.specs.declared.totals.TooLarge.{TooLarge}

-- the thirteen lines
unfoldable pub lines : Totals → List ℕ
lines a = joined 10 (numbers_of a) next line_end

-- `total too large`
abbrev pub too_large : List ℕ
too_large = 116 ∷ 111 ∷ 116 ∷ 97 ∷ 108 ∷ 32 ∷ 116 ∷ 111 ∷ 111 ∷ 32 ∷ 108 ∷ 97 ∷ 114 ∷ 103 ∷ 101 ∷ 10 ∷ []

unfoldable pub told : Result Totals TooLarge → List ℕ
told (Ok a) = lines a
told (Err e) = too_large
