-- The triples with which a command fails: the ten of the thirteen that are neither 00/00/00 nor an attention's.
use Rattle.attention.specs.declared.sense.Sense.{Sense}
use Rattle.attention.specs.Sense.{no_medium_closed, no_medium_open, unknown_code, out_of_range, bad_field, removal_prevented, illegal_mode, list_length, list_field, no_saving}
use Rattle.gate.specs.declared.fault.Fault.{Fault}
use Rattle.gate.specs.declared.fault.Fault.TheVariants.{NoMediumClosed, NoMediumOpen, UnknownCode, OutOfRange, BadField, RemovalPrevented, IllegalMode, ListLength, ListField, NoSaving}

-- the row of the table of triples that a fault cites
abbrev pub sense_of : Fault → Sense
sense_of NoMediumClosed = no_medium_closed
sense_of NoMediumOpen = no_medium_open
sense_of UnknownCode = unknown_code
sense_of OutOfRange = out_of_range
sense_of BadField = bad_field
sense_of RemovalPrevented = removal_prevented
sense_of IllegalMode = illegal_mode
sense_of ListLength = list_length
sense_of ListField = list_field
sense_of NoSaving = no_saving
