-- `disc::rules::rises` meets its contract: each turn compares two starts, the first pair that falls decides, and then the last start and the lead-out.
use mathlib.Core.Path.{sym, ap, ◌∙◌}
use native.Mathlib.Nat.{le_antisymm}
use borrow.Author.Tests.{lt-ltb, le-ltb}
use Rattle.ground.specs.Tests.{and_on, and_off, every-none, every_more, every-breaks}
use Rattle.table.specs.Row.{start_of}
use Rattle.disc.specs.Rules.{rises}
use Rattle.disc.proofs.rules.rises.Goals as goal

pub loop-i-init : goal.loop-i-init
loop-i-init c = (c.start_of-start.ensures ∙ ap start_of c.row_at.ensures, every-none _)

pub loop-i-preserved : goal.loop-i-preserved
loop-i-preserved c = (
  c.start_of-next.ensures ∙ ap start_of c.row_at-in-loop-i.ensures,
  every_more _ _
      c.loop-i.invariant.1 (lt-ltb _ _ (rw (
        c.loop-i.invariant.0,
        c.start_of-next.ensures,
        c.row_at-in-loop-i.ensures,
      ) at c.if-next-start.false)),
)

pub returns-then-next-start : goal.returns-then-next-start
unfolding rises
returns-then-next-start c =
    and_off _ _ (sym (every-breaks _ _ c.loop-i.i c.loop-i-test.true (le-ltb _
    _ (rw (c.loop-i.invariant.0, c.start_of-next.ensures, c.row_at-in-loop-i.ensures) at
    c.if-next-start.true))))

pub returns : goal.returns
unfolding rises
returns c =
    and_on _ _ (rw (le_antisymm c.loop-i.auto.i-end c.loop-i-test.false) at
    c.loop-i.invariant.1) (rw (
      c.loop-i.invariant.0,
      le_antisymm
          c.loop-i.auto.i-end c.loop-i-test.false,
      c.start_of.ensures,
      c.row_at-2.ensures,
    ))
