-- K4: mode page 01h, its recovery byte and retry count.
use Rattle.std.specs.Prelude.{ℕ, Bool, false, List, [], ◌∷◌, eqb}
use Rattle.ground.specs.Tests.{◌or◌}
use Rattle.page.specs.declared.Page.{Page}

-- a page with that recovery byte and retry count
abbrev pub page_of : ℕ → ℕ → Page
page_of recovery retry = record { recovery = recovery; retry = retry }

-- "The recovery byte is one of 000's twenty settings: 00 01 04 05 06 07 10 11 14 15 20 21 24 25 26 27 30 31 34 35 (hex)."
abbrev pub settings : List ℕ
settings =
    0x00 ∷ 0x01 ∷ 0x04 ∷ 0x05 ∷ 0x06 ∷ 0x07 ∷ 0x10 ∷ 0x11 ∷ 0x14 ∷ 0x15
    ∷ 0x20 ∷ 0x21 ∷ 0x24 ∷ 0x25 ∷ 0x26 ∷ 0x27 ∷ 0x30 ∷ 0x31 ∷ 0x34 ∷ 0x35
    ∷ []

-- the byte stands in the row
unfoldable pub among : List ℕ → ℕ → Bool
among [] b = false
among (x ∷ row) b = eqb x b or among row b

-- the recovery byte is one of the twenty
unfoldable pub is_setting : ℕ → Bool
is_setting b = among settings b

-- "default (both zero)"; "Power-on restores defaults."
abbrev pub defaults : Page
defaults = page_of 0x00 0x00
