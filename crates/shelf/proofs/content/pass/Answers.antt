-- `shelf::content::pass` meets its contract: the track's mode and whether a run goes on decide, as in the definition.
use Rattle.std.proofs.Common.{sym, arith}
use Rattle.disc.specs.Rules.{track_start}
use Rattle.shelf.specs.LengthsLaws.{run_past-on, run_past-begins, run_past-ends, run_past-off, blocks_to_on}
use Rattle.shelf.proofs.content.pass.Goals as goal

pub overflow_add-result : goal.overflow_add-result
overflow_add-result c =
    let p = c.requires in
    let e = c.address_at-in-false-Some.ensures in
    let b = blocks_to_on (track_start c.args.s.now c.args.i) c.args.r c.in-false-Some.is-1 in
    let k = c.address_at-in-false-Some.type_inv in
    omega arith

pub returns-in-true-None : goal.returns-in-true-None
returns-in-true-None c = rw c.address_at.ensures (run_past-begins _ _ _ (sym c.in-true-None.ensures) c.in-true-None.is-1)

pub returns-in-false-Some : goal.returns-in-false-Some
returns-in-false-Some c =
    rw c.address_at-in-false-Some.ensures (run_past-ends _ _ _ (sym c.in-false-Some.ensures) c.in-false-Some.is-1)

pub returns-in_default : goal.returns-in_default
returns-in_default c = run_past-on _ _ _ (sym c.in_default.ensures) c.in_default.is-1

pub returns-in_default-2 : goal.returns-in_default-2
returns-in_default-2 c = run_past-off _ _ _ (sym c.in_default.ensures) c.in_default.is-1
