-- Pieces of a line, one after the other.
use Rattle.std.specs.Prelude.{ℕ, List, [], ◌∷◌, ◌++◌}

infixl 30 ◌next◌
-- one piece, and the next one after it
abbrev pub ◌next◌ : List ℕ → List ℕ → List ℕ
a next b = a ++ b

-- a piece after a space
abbrev pub spaced : List ℕ → List ℕ
spaced a = 32 ∷ a

abbrev pub line_end : List ℕ
line_end = 10 ∷ []
