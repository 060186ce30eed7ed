-- `table::row::head_a0` meets its contract: the three types are the multiples of 10h up to 20h.
use Rattle.std.proofs.Common.{◌≡◌, refl, ap, ◌∙◌, ◌%◌, eqb, leb}
use borrow.Author.Tests.{eq-eqb, ne_eqb}
use Rattle.ground.specs.Tests.{◌and◌, and_on, and_off, and_three}
use Rattle.table.specs.Row.{head_a0}
use Rattle.table.specs.RowLaws.{types-tested}
use Rattle.table.proofs.row.head_a0.Goals as goal
use Rattle.table.proofs.row.head_a0.Goals.{then-r-eq0, else-r-eq0}

pub returns-then-wide-eq0 : goal.returns-then-wide-eq0
unfolding head_a0
returns-then-wide-eq0 c =
    let r = c.args.r in
    let two : c.if-r-eq0.value ≡ eqb r.pframe 0 and eqb (r.psec % 16) 0 = elim c.if-r-eq0.branch [
      | then-r-eq0 w ↦ and_on _ _ (eq-eqb _ _ w.if-r-eq0.true) (w.value-is ∙ rw w.wide.ensures.same)
      | else-r-eq0 w ↦ let f = ne_eqb _ _ w.if-r-eq0.false in w.value-is ∙ f ∙ and_off _ _ f
    ] in
    and_three _ _ _ two (and_on _ _ c.if-wide-eq0.true refl) ∙ ap (λ b. eqb r.pframe 0 and b) (types-tested r.psec)

pub returns-else-wide-eq0 : goal.returns-else-wide-eq0
unfolding head_a0
returns-else-wide-eq0 c =
    let r = c.args.r in
    let two : c.if-r-eq0.value ≡ eqb r.pframe 0 and eqb (r.psec % 16) 0 = elim c.if-r-eq0.branch [
      | then-r-eq0 w ↦ and_on _ _ (eq-eqb _ _ w.if-r-eq0.true) (w.value-is ∙ rw w.wide.ensures.same)
      | else-r-eq0 w ↦ let f = ne_eqb _ _ w.if-r-eq0.false in w.value-is ∙ f ∙ and_off _ _ f
    ] in
    and_three _ _ (leb r.psec 0x20) two (c.if-wide-eq0.false ∙ and_off _ _ c.if-wide-eq0.false) ∙ ap (λ b. eqb r.pframe 0 and b) (types-tested r.psec)
