-- `print::decimal::put_decimal` meets its contract: the digits that `digits::decimal` gives are the number's (`decimal_is`).
use Rattle.std.proofs.Common.{arith}
use Rattle.print.specs.Decimal.{decimal_is}
use Rattle.print.proofs.decimal.put_decimal.Goals as goal

pub returns : goal.returns
returns c =
    let d = c.decimal-k in
    let e = decimal_is c.args.n d.result (omega arith) d.ensures.len in
    rw (← e, ← d.ensures.digits) c.copy_front.ensures
