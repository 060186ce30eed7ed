-- The attention unit: power attention, change attention and held sense, beside any deck.
use Rattle.std.specs.Prelude.{Bool, true}
use Rattle.ground.specs.Tests.{choose◌then◌else◌}
use Rattle.attention.specs.declared.Unit.{Unit}
use Rattle.attention.specs.Sense.{no_sense}

-- "Power-on ..: .. sense 00/00/00, power attention pending"; the form of power-on (K3) says whether the change attention is pending too
abbrev pub powered_on : Bool → Unit
powered_on change = record { power = true; change = change; sense = no_sense }

-- "Loading ..: the change attention becomes pending."
unfoldable pub attend : Bool → Unit → Unit
attend loading u = choose loading then record { power = u.power; change = true; sense = u.sense } else u
