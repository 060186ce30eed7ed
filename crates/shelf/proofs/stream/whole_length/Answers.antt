-- `shelf::stream::whole_length` meets its contract: with fewer than two bytes no table is whole, and else the two tell its length.
use Rattle.std.proofs.Common.{◌≡◌, sym, ap, ◌∙◌, Some}
use Prim.Native.Nat.{ℕ, ◌+◌}
use native.Mathlib.Omega.{arith}
use Rattle.shelf.specs.Stream.{table_length}
use Rattle.shelf.specs.StreamLaws.{whole_length-whole, whole_length-cut}
use Rattle.shelf.proofs.stream.whole_length.Goals as goal
use Rattle.shelf.proofs.stream.whole_length.Goals.{After-word16-n}

pub returns-then-s-lt2 : goal.returns-then-s-lt2
returns-then-s-lt2 c = sym (whole_length-cut _ (let t = c.if-s-lt2.true in omega arith))

-- the length that the two bytes tell
told : (c : After-word16-n) → c.word16-n.result + 2 ≡ table_length c.args.s.now
told c = let e = c.word16-n.ensures in omega arith

pub overflow_add-n : goal.overflow_add-n
overflow_add-n c =
    let e = c.word16-n.ensures in
    let h = c.type_inv.s 0 in
    let l = c.type_inv.s 1 in
    omega arith

pub returns-then-n-s : goal.returns-then-n-s
returns-then-n-s c =
    let e = told (goal.at.returns-then-n-s c).After-word16-n in
    let h = c.type_inv.s 0 in
    let l = c.type_inv.s 1 in
    let q = whole_length-whole c.args.s.now (let t = c.if-n-s.true in omega arith) in
    ap (λ (x : ℕ). Some x) (omega arith) ∙ sym q

pub returns : goal.returns
returns c =
    let e = told (goal.at.returns c).After-word16-n in
    let h = c.type_inv.s 0 in
    let l = c.type_inv.s 1 in
    sym (whole_length-cut c.args.s.now (let t = c.if-n-s.false in omega arith))
