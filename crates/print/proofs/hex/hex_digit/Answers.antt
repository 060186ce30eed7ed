-- `print::hex::hex_digit` meets its contract: its test is the definition's.
use Rattle.std.proofs.Common.{sym, rules}
use Rattle.print.specs.Hex.{hex_digit_below, hex_digit_above}
use Rattle.print.proofs.hex.hex_digit.Goals as goal

pub returns-then-d-lt10 : goal.returns-then-d-lt10
returns-then-d-lt10 c = sym (hex_digit_below c.args.n (search rules))

pub returns : goal.returns
returns c = sym (hex_digit_above c.args.n (search rules))
