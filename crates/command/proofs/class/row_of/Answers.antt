-- `command::class::row_of` meets its contract: the wide number is the code, and there is a row for each.
use native.Mathlib.Omega.{arith}
use Rattle.std.proofs.lemmas.List.{get_or_default}
use Rattle.command.specs.Class.{row_at}
use Rattle.command.proofs.class.row_of.Goals as goal

pub returns : goal.returns
unfolding row_at
returns c = let x = c.args in let f = c.ranges.code.fits in let t = c.told-rows in
    rw c.wide.ensures.same (get_or_default x.rows.now x.code _ _ (omega arith))
