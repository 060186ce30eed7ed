-- `cue::sheet::every_adr` meets its contract: the entries gone over have ADR 1, and the first that has another decides.
use Rattle.std.proofs.Common.{sym}
use native.Mathlib.Nat.{le_antisymm}
use Rattle.ground.specs.Tests.{every-none, every_more, every-breaks}
use Rattle.cue.specs.Sheet.{every_adr}
use Rattle.cue.proofs.sheet.every_adr.Goals as goal

pub loop-i-init : goal.loop-i-init
loop-i-init c = every-none _

pub loop-i-preserved : goal.loop-i-preserved
loop-i-preserved c = every_more _ _ c.loop-i.invariant (sym (rw c.entry_at.ensures at c.if-not-has_adr.ensures))

pub returns-then-not-has_adr : goal.returns-then-not-has_adr
unfolding every_adr
returns-then-not-has_adr c = every-breaks _ _ c.loop-i.i c.loop-i-test.true (sym (rw c.entry_at.ensures at c.if-not-has_adr.ensures))

pub returns : goal.returns
unfolding every_adr
returns c = sym (rw (le_antisymm c.loop-i.auto.i-end c.loop-i-test.false) at c.loop-i.invariant)
