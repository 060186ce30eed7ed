-- 43h, READ TOC: "byte 1 bit 1 MSF, byte 2 low nibble format, byte 6 number N, length in 7 to 8".
use Rattle.std.specs.Prelude.{ℕ, ◌%◌, Bool, List}
use Rattle.deck.specs.declared.Deck.{Deck}
use Rattle.table.specs.Layout.{descriptors}
use Rattle.disc.specs.Disc.{disc_of}
use Rattle.gate.specs.Gate.{Result}
use Rattle.command.specs.Command.{byte, bit1, length_in}
use Rattle.command.specs.Done.{answering}
use Rattle.toc.specs.declared.answer.TocAsk.{TocAsk}
use Rattle.toc.specs.Answer.{toc_bytes, toc_bad}

-- the packet's fields
abbrev pub msf_in : List ℕ → Bool
msf_in p = bit1 (byte p 1)

abbrev pub format_in : List ℕ → ℕ
format_in p = byte p 2 % 16

abbrev pub number_in : List ℕ → ℕ
number_in p = byte p 6

-- what the packet asks for
abbrev pub ask_of : List ℕ → TocAsk
ask_of p = record { format = format_in p; msf = msf_in p; number = number_in p }

-- the field checks, and then the format's answer
abbrev pub read_toc : List ℕ → Deck → List ℕ → Result Deck
read_toc p m t =
    answering (toc_bad (disc_of t) (format_in p) (number_in p)) m
    (toc_bytes (disc_of t) (format_in p) (msf_in p) (number_in p) (descriptors t)) (length_in p)
