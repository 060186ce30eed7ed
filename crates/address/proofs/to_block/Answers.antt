-- `address::to_block` meets its contract: each test that holds puts the M:S:F outside rule 6, and with none it is in the range.
use mathlib.Core.Path.{sym, ap, ◌∙◌}
use Prim.Native.Nat.{ℕ, ◌-◌}
use native.Mathlib.Omega.{arith}
use Rattle.address.specs.Address.{block_at}
use Rattle.address.specs.Laws.{InRange, to_block-at, to_block-refused}
use borrow.Author.Rules.{rules}
use Rattle.address.proofs.to_block.Goals as goal

pub returns-then-minute-gt99 : goal.returns-then-minute-gt99
returns-then-minute-gt99 c = sym (to_block-refused _ _ _ (λ r. omega arith))

pub returns-then-frames-lt-LEAD : goal.returns-then-frames-lt-LEAD
returns-then-frames-lt-LEAD c = sym (to_block-refused _ _ _ (λ r. let e = c.frames_of-frames.ensures in omega arith))

pub returns : goal.returns
returns c =
    let e = c.frames_of-frames.ensures in
    let a = c.args in
    let r : InRange a.minute a.second a.frame = record { minute = search rules; second = search rules; frame = search rules; lead = omega arith } in
    ap (λ (n : ℕ). block_at (n - 150)) e ∙ sym (to_block-at r)
