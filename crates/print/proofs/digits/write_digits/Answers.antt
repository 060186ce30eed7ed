-- A turn moves one digit from those still to write to those written (`digits_step`).
use Rattle.std.proofs.Common.{ap, ◌∙◌, List, ℕ, ◌%◌, ◌++◌, append-nil, arith}
use Rattle.std.proofs.Math.Seq.{slice_empty}
use Rattle.print.specs.Digits.{last_digits}
use Rattle.print.proofs.Powers.{digits_step, digit_code}
use Rattle.print.proofs.digits.write_digits.Goals as goal

pub loop-i-init : goal.loop-i-init
loop-i-init c =
    let a = c.args in
    let all = last_digits 10 a.k a.n in
    ap (λ (l : List ℕ). all ++ l) (slice_empty a.k a.out.now) ∙ append-nil all

pub loop-i-preserved : goal.loop-i-preserved
loop-i-preserved c =
    let l = c.loop-i in
    let a = c.args in
    digits_step l.i a.k l.rest _ l.out (omega arith) (omega arith) (omega arith) (digit_code (l.rest % 10) (omega arith)) ∙ l.invariant
