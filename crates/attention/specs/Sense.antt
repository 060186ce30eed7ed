-- "The ten sense triples (key/ASC/ASCQ)", and K4's three.
use Rattle.std.specs.Prelude.{ℕ, Bool, false, List, [], ◌∷◌, get_or, eqb}
use Rattle.ground.specs.Tests.{◌and◌, ◌or◌}
use Rattle.attention.specs.declared.sense.Sense.{Sense}

abbrev pub triple : ℕ → ℕ → ℕ → Sense
triple k a q = record { key = k; asc = a; ascq = q }

-- "00/00/00; 02/3A/01 no medium, tray closed; 02/3A/02 tray open; 05/20/00 unknown code; 05/21/00 address out of range;
-- 05/24/00 field in packet; 05/53/02 removal prevented; 05/64/00 illegal mode for this track; 06/28/00 change; 06/29/00 power-on"; K4:
-- "05/1A/00 for another list length", "05/26/00 unless its page begins 01 06 and one of the twenty", "05/39/00 for saved values"
abbrev pub senses : List Sense
senses =
    triple 0x00 0x00 0x00
    ∷ triple 0x02 0x3A 0x01
    ∷ triple 0x02 0x3A 0x02
    ∷ triple 0x05 0x20 0x00
    ∷ triple 0x05 0x21 0x00
    ∷ triple 0x05 0x24 0x00
    ∷ triple 0x05 0x53 0x02
    ∷ triple 0x05 0x64 0x00
    ∷ triple 0x06 0x28 0x00
    ∷ triple 0x06 0x29 0x00
    ∷ triple 0x05 0x1A 0x00
    ∷ triple 0x05 0x26 0x00
    ∷ triple 0x05 0x39 0x00
    ∷ []

-- row i of the table, and 00/00/00 past its end
unfoldable pub sense_at : ℕ → Sense
sense_at i = get_or senses i (triple 0 0 0)

-- the rows, by what they say
abbrev pub no_sense : Sense
no_sense = sense_at 0

abbrev pub no_medium_closed : Sense
no_medium_closed = sense_at 1

abbrev pub no_medium_open : Sense
no_medium_open = sense_at 2

abbrev pub unknown_code : Sense
unknown_code = sense_at 3

abbrev pub out_of_range : Sense
out_of_range = sense_at 4

abbrev pub bad_field : Sense
bad_field = sense_at 5

abbrev pub removal_prevented : Sense
removal_prevented = sense_at 6

abbrev pub illegal_mode : Sense
illegal_mode = sense_at 7

abbrev pub changed : Sense
changed = sense_at 8

abbrev pub powered : Sense
powered = sense_at 9

abbrev pub list_length : Sense
list_length = sense_at 10

abbrev pub list_field : Sense
list_field = sense_at 11

abbrev pub no_saving : Sense
no_saving = sense_at 12

-- the two triples are one
unfoldable pub same_sense : Sense → Sense → Bool
same_sense a b = eqb a.key b.key and eqb a.asc b.asc and eqb a.ascq b.ascq

-- the triple stands in the list
unfoldable pub among : List Sense → Sense → Bool
among [] s = false
among (r ∷ rows) s = same_sense r s or among rows s

-- the held sense is one of the thirteen ("2: held sense is none of the ten"; K4: "refusal 2 admits these triples")
unfoldable pub is_known : Sense → Bool
is_known s = among senses s
