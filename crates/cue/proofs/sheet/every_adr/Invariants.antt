-- `cue::sheet::every_adr` meets its contract: the entries gone over have ADR 1, and the first that has another decides.
use Rattle.std.proofs.Common.{◌≡◌, true}
use Rattle.ground.specs.Tests.{every}
use Rattle.cue.specs.Sheet.{entry_at, has_adr}
use Rattle.cue.proofs.sheet.every_adr.Given as goal

abbrev pub invariant-loop-i : goal.invariant-loop-i
invariant-loop-i l = every l.i (λ k. has_adr (entry_at l.s k)) ≡ true
