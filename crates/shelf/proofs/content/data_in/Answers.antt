-- `shelf::content::data_in` meets its contract: each turn passes one track more, and what the runs come to are the blocks of each track
-- (`run-done`).
use Rattle.std.proofs.Common.{sym, ◌∙◌, arith}
use Rattle.disc.specs.Rules.{session_lead_out}
use Rattle.shelf.specs.LengthsLaws.{blocks_to_on, blocks_to_off, run_at-none, run_at-next, run-before, run-done}
use Rattle.shelf.proofs.content.data_in.Goals as goal

pub loop-i-init : goal.loop-i-init
loop-i-init c = c.idle-r.ensures ∙ sym (run_at-none _)

pub pass-r-requires : goal.pass-r-requires
pass-r-requires c =
    let b = run-before _ _ c.loop-i.i c.requires.1 c.loop-i-test.true c.loop-i.invariant in
    let q = c.requires.0 in
    let t = c.loop-i-test.true in
    (omega arith, b.0, b.1)

pub loop-i-preserved : goal.loop-i-preserved
loop-i-preserved c = rw c.loop-i.invariant at c.pass-r.ensures ∙ sym (run_at-next _ _)

pub overflow_sub-result : goal.overflow_sub-result
overflow_sub-result c =
    let d = run-done _ _ c.loop-i.i c.requires.1 (let a = c.loop-i.auto in let t = c.loop-i-test.false in omega arith) c.loop-i.invariant in
    let f = rw c.in-Some.is at d.0 in
    let e = c.address_at.ensures in
    omega arith

pub overflow_add-result : goal.overflow_add-result
overflow_add-result c =
    let d = run-done _ _ c.loop-i.i c.requires.1 (let a = c.loop-i.auto in let t = c.loop-i-test.false in omega arith) c.loop-i.invariant in
    let f = d.1 in
    let e = c.address_at.ensures in
    let k = c.address_at.type_inv in
    let b = blocks_to_on (session_lead_out c.args.s.now) c.loop-i.r c.in-Some.is in
    omega arith

pub returns-in-Some : goal.returns-in-Some
returns-in-Some c =
    let d = run-done _ _ c.loop-i.i c.requires.1 (let a = c.loop-i.auto in let t = c.loop-i-test.false in omega arith) c.loop-i.invariant in
    rw c.address_at.ensures (sym (blocks_to_on _ _ c.in-Some.is) ∙ d.2)

pub returns-in-None : goal.returns-in-None
returns-in-None c =
    let d = run-done _ _ c.loop-i.i c.requires.1 (let a = c.loop-i.auto in let t = c.loop-i-test.false in omega arith) c.loop-i.invariant in
    sym (blocks_to_off _ _ c.in-None.is) ∙ d.2
