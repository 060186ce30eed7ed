-- `table::row::row_of` meets its contract: eleven bytes are read each into its field.
use Rattle.std.proofs.Common.{◌≡◌, sym, ◌∙◌, arith, eq-eqb, ne_eqb}
use Rattle.std.proofs.lemmas.Grind.{common_steps}
use Rattle.ground.specs.Tests.{when, unless}
use Rattle.table.specs.Row.{blank, row_of}
use Rattle.table.proofs.row.row_of.Goals as goal

pub returns-then-b-ne-ROW : goal.returns-then-b-ne-ROW
unfolding row_of
returns-then-b-ne-ROW c =
    let e : c.default.result ≡ blank = grind (arith, common_steps) in
    e ∙ sym (unless _ _ _ (ne_eqb _ _ c.if-b-ne-ROW.true))

pub returns : goal.returns
unfolding row_of
returns c = sym (when _ _ _ (eq-eqb _ _ c.if-b-ne-ROW.false))
