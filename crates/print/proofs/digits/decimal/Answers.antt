-- `print::digits::decimal` meets its contract: twenty digits hold a number of 64 bits (`twenty`).
use Rattle.std.proofs.Common.{arith}
use Rattle.print.specs.Decimal.{twenty}
use Rattle.print.proofs.Powers.{prefix_len_of_le}
use Rattle.print.proofs.digits.decimal.Goals as goal

pub write_digits-requires : goal.write_digits-requires
write_digits-requires c = let h = twenty c.args.n c.digit_count-k.result (omega arith) c.digit_count-k.ensures in omega arith

pub returns : goal.returns
returns c =
    let h = twenty c.args.n c.digit_count-k.result (omega arith) c.digit_count-k.ensures in
    record { in_bounds = prefix_len_of_le _ _ (omega arith); len = c.digit_count-k.ensures; digits = c.write_digits.ensures }
