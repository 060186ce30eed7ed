-- `changer::slots::is_in_order` meets its contract: each test that stops it is one of refusal 11's.
use Rattle.std.proofs.Common.{sym, ap, ◌∙◌, arith, length, le-leb}
use Rattle.std.proofs.lemmas.Bool.{lt-leb}
use Rattle.std.proofs.Math.Bool.{not}
use Rattle.ground.specs.Tests.{and_on, and_off, and_late, or_left, or_else}
use Rattle.changer.specs.Changer.{is_in_order}
use Rattle.changer.proofs.slots.is_in_order.Goals as goal
use Rattle.changer.proofs.slots.is_in_order.Goals.{then-n-eq0-via-then-n-eq0, then-n-eq0-via-else-n-eq0+then-n-gt-MOST, then-n-eq0-via-else-n-eq0+else-n-gt-MOST+then-c}

pub returns-then-n-eq0 : goal.returns-then-n-eq0
unfolding is_in_order
returns-then-n-eq0 c =
    let n = length c.args.slots.now in
    elim c.then-n-eq0.branch [
      | then-n-eq0-via-then-n-eq0 w ↦ and_off _ _ (lt-leb 1 n (omega arith))
      | then-n-eq0-via-else-n-eq0+then-n-gt-MOST w ↦ and_late _ _ (and_off _ _ (lt-leb n 31 (omega arith)))
      | then-n-eq0-via-else-n-eq0+else-n-gt-MOST+then-c w ↦ and_late _ _ (and_late _ _ (and_off _ _ (ap not w.if-c.true)))
    ]

pub returns-then-not-c : goal.returns-then-not-c
unfolding is_in_order
returns-then-not-c c =
    let n = length c.args.slots.now in
    and_on _ _ (le-leb 1 n (omega arith)) (and_on _ _ (le-leb n 31 (omega arith)) (and_on _ _ (ap not c.if-c.false) (search or_left)))

pub returns-else-not-c : goal.returns-else-not-c
unfolding is_in_order
returns-else-not-c c =
    let n = length c.args.slots.now in
    and_on _ _ (le-leb 1 n (omega arith)) (and_on _ _ (le-leb n 31 (omega arith)) (and_on _ _ (ap not c.if-c.false)
    (rw c.wide.ensures.same at c.has_home.ensures ∙ sym (or_else _ _ c.if-not-c.false))))
