-- `cue::sheet::span_of` meets its contract: what is kept of the entries gone over is their tracks' (`span_of-entry`).
use Rattle.std.proofs.Common.{◌≡◌}
use Rattle.cue.specs.Sheet.{tracks_in}
use Rattle.cue.specs.SpanLaws.{span_of}
use Rattle.cue.proofs.sheet.span_of.Given as goal

abbrev pub invariant-loop-j : goal.invariant-loop-j
invariant-loop-j l = l.span ≡ span_of (tracks_in l.s l.j)
