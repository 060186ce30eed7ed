-- K9: "with a fit table no full answer passes K1's bound, so refusal 3 covers it": every answer comes whole.
use Rattle.std.specs.Prelude.{ℕ, List, [], ◌∷◌}

-- ---- the bound is reached

-- READ TOC: format 2 from session 1 on, with room for 6,538 bytes
abbrev pub whole_toc : List ℕ
whole_toc = 0x43 ∷ 0x00 ∷ 0x02 ∷ 0x00 ∷ 0x00 ∷ 0x00 ∷ 0x01 ∷ 0x19 ∷ 0x8A ∷ 0x00 ∷ 0x00 ∷ 0x00 ∷ []
