-- One digit more takes one tenth.
use Rattle.std.proofs.Common.{ap, ◌∙◌, ℕ, ◌/◌, arith}
use Rattle.print.proofs.Powers.{tenth-pow_one, tenth-pow, pow-le_of_tenth, lt-pow_of_tenth}
use Rattle.print.proofs.digits.digit_count.Goals as goal

pub loop-rest-init : goal.loop-rest-init
loop-rest-init c = (omega arith, omega arith, tenth-pow_one c.args.n, omega arith)

pub loop-rest-preserved : goal.loop-rest-preserved
loop-rest-preserved c =
    let l = c.loop-rest in
    let n = c.args.n in (
      omega arith,
      omega arith,
      ap (λ (m : ℕ). m / 10) l.invariant.2 ∙ tenth-pow n l.k,
      λ _. pow-le_of_tenth n l.k (omega arith),
    )

pub returns : goal.returns
returns c = (omega arith, lt-pow_of_tenth c.args.n c.loop-rest.k (omega arith), c.loop-rest.invariant.3)
