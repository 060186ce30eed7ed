-- `play::Play::moved_on` meets its contract: each way out is one law of moving on.
use Rattle.std.proofs.Common.{◌≡◌, ◌+◌, sym, arith}
use Rattle.play.specs.PlayLaws.{moved_on-other, moved_on-on, moved_on-ends}
use Rattle.play.proofs.Play.moved_on.Goals as goal

pub returns-then-position-self : goal.returns-then-position-self
returns-then-position-self c =
    let r = c.args.self in
    let e : c.min-position.result ≡ r.end = omega arith in
    rw e (sym (moved_on-ends _ _ (omega arith) (omega arith)))

pub returns-else-position-self : goal.returns-else-position-self
returns-else-position-self c =
    let r = c.args.self in
    let e : c.min-position.result ≡ r.position + c.args.k = omega arith in
    rw e (sym (moved_on-on _ _ (omega arith) (omega arith)))

pub returns : goal.returns
returns c = sym (moved_on-other _ _ (λ h. omega arith))
