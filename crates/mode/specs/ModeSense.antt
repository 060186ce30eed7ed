-- 5Ah, MODE SENSE(10), "for page 01h, eight header bytes and eight page bytes".
use Rattle.std.specs.Prelude.{ℕ, ◌/◌, ◌%◌, false, List, [], ◌∷◌, eqb, Result as Answer, Ok, Err}
use Rattle.ground.specs.Tests.{choose◌then◌else◌}
use Rattle.page.specs.declared.Page.{Page}
use Rattle.page.specs.Page.{page_of, defaults}
use Rattle.deck.specs.declared.Deck.{Deck}
use Rattle.gate.specs.declared.fault.Fault.{Fault}
use Rattle.gate.specs.declared.fault.Fault.TheVariants.{BadField, NoSaving}
use Rattle.gate.specs.Gate.{Result, fails}
use Rattle.command.specs.Done.{answering}

-- 004 byte 2: the page control in bits 7 and 6, the page code in bits 5 to 0
abbrev pub control_in : ℕ → ℕ
control_in b = b / 64

abbrev pub page_in : ℕ → ℕ
page_in b = b % 64

-- "Page control asks for current, changeable .., default .. or saved values": 0, 1, 2, 3
abbrev pub asks_changeable : ℕ
asks_changeable = 1

abbrev pub asks_default : ℕ
asks_default = 2

abbrev pub asks_saved : ℕ
asks_saved = 3

-- "changeable (37h and FFh)"
abbrev pub changeable : Page
changeable = page_of 0x37 0xFF

-- the values that a page control asks for, of the current ones
unfoldable pub values_of : ℕ → Page → Page
values_of control current = choose eqb control asks_changeable then changeable else (choose eqb control asks_default then defaults else current)

-- "after step 3, in MODE SENSE 05/24/00 for another page, then 05/39/00 for saved values": b is the packet's byte 2
unfoldable pub page_shown : ℕ → Page → Answer Page Fault
page_shown b current =
    choose eqb (page_in b) 0x01
    then (choose eqb (control_in b) asks_saved then Err NoSaving else Ok (values_of (control_in b) current))
    else Err BadField

-- "Sense gives 00 0E and six zeros, then 01 06, recovery byte, retry count and four zeros."
abbrev pub mode_bytes : Page → List ℕ
mode_bytes g =
    0x00 ∷ 0x0E ∷ 0 ∷ 0 ∷ 0 ∷ 0 ∷ 0 ∷ 0
    ∷ 0x01 ∷ 0x06 ∷ g.recovery ∷ g.retry ∷ 0 ∷ 0 ∷ 0 ∷ 0
    ∷ []

-- the fault, or the values' bytes, `limit` of them being asked for
abbrev pub gives : Answer Page Fault → ℕ → Deck → Result Deck
gives (Err f) limit m = fails f
gives (Ok g) limit m = answering false m (mode_bytes g) limit

-- b is the packet's byte 2, limit its allocation length
abbrev pub mode_sense : ℕ → ℕ → Deck → Result Deck
mode_sense b limit m = gives (page_shown b m.page) limit m
