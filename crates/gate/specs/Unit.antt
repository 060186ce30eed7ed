-- What the steps do to the attention unit.
use Rattle.std.specs.Prelude.{false, Option, Some, None}
use Rattle.ground.specs.Tests.{choose◌then◌else◌}
use Rattle.attention.specs.declared.sense.Sense.{Sense}
use Rattle.attention.specs.declared.Unit.{Unit}
use Rattle.attention.specs.Sense.{no_sense, changed, powered, same_sense}
use Rattle.gate.specs.declared.unit.Pending.{Pending}
use Rattle.gate.specs.declared.unit.Pending.TheVariants.{Power, Change}
use Rattle.gate.specs.declared.unit.Giving.{Giving}

-- "the triple held as sense and .. nothing else changed"
abbrev pub hold : Sense → Unit → Unit
hold s u = record { power = u.power; change = u.change; sense = s }

-- "GOOD .. sets the sense to 00/00/00"
abbrev pub clear : Unit → Unit
clear u = hold no_sense u

-- "if the power attention is pending, else the change attention"
unfoldable pub pending_of : Unit → Option Pending
pending_of u = choose u.power then Some Power else (choose u.change then Some Change else None)

-- "06/29/00 or 06/28/00"
abbrev pub attention_sense : Option Pending → Sense
attention_sense (Some Power) = powered
attention_sense (Some Change) = changed
attention_sense None = no_sense

-- "That one stops being pending."
abbrev pub told : Option Pending → Unit → Unit
told (Some Power) u = record { power = false; change = u.change; sense = u.sense }
told (Some Change) u = record { power = u.power; change = false; sense = u.sense }
told None u = u

-- REQUEST SENSE: "A held sense other than 00/00/00 is given, then cleared, attentions untouched. Otherwise a pending attention, power first, is given and cleared"
unfoldable pub give : Unit → Giving
give u =
    choose same_sense u.sense no_sense then record { sense = attention_sense (pending_of u); unit = clear (told (pending_of u) u) }
    else record { sense = u.sense; unit = clear u }
