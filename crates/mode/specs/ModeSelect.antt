-- 55h, MODE SELECT(10), of page 01h: l is the lent parameter list, n the list length that the packet gives.
use Rattle.std.specs.Prelude.{ℕ, Bool, List, length, eqb}
use Rattle.ground.specs.Tests.{◌and◌, ◌or◌, choose◌then◌else◌}
use Rattle.page.specs.Page.{page_of, is_setting}
use Rattle.deck.specs.declared.Deck.{Deck}
use Rattle.deck.specs.Deck.{with_page}
use Rattle.gate.specs.declared.fault.Fault.TheVariants.{ListLength, ListField}
use Rattle.gate.specs.Gate.{Result, fails}
use Rattle.command.specs.Command.{byte}
use Rattle.command.specs.Done.{done}

-- "after step 3, .. in MODE SELECT 05/1A/00 for another list length or one that differs from the lent list's": none of that
unfoldable pub is_list_length : ℕ → ℕ → Bool
is_list_length n lent = eqb n lent and (eqb n 0 or eqb n 16)

-- "its page begins 01 06 and one of the twenty"
unfoldable pub is_page : ℕ → ℕ → ℕ → Bool
is_page code len recovery = eqb code 0x01 and eqb len 0x06 and is_setting recovery

-- "05/26/00 unless" it does; then its recovery byte and retry count are set
unfoldable pub selected : ℕ → ℕ → ℕ → ℕ → Deck → Result Deck
selected code len recovery retry m =
    choose is_page code len recovery then done (with_page m (page_of recovery retry)) else fails ListField

-- "A list is 0 bytes (GOOD, nothing changes) or 16, its header not looked at."
unfoldable pub mode_select : ℕ → List ℕ → Deck → Result Deck
mode_select n l m =
    choose is_list_length n (length l)
    then (choose eqb n 0 then done m else selected (byte l 8) (byte l 9) (byte l 10) (byte l 11) m)
    else fails ListLength
