-- `cue::sheet::span_of` meets its contract: what is kept of the entries gone over is their tracks' (`span_of-entry`).
use Rattle.std.proofs.Common.{ℕ, sym, ap, ◌∙◌}
use native.Mathlib.Nat.{le_antisymm}
use Rattle.cue.specs.Sheet.{tracks_in}
use Rattle.cue.specs.SpanLaws.{span_of, span_of-none, span_of-entry}
use Rattle.cue.proofs.sheet.span_of.Goals as goal

pub loop-j-init : goal.loop-j-init
loop-j-init c = sym (span_of-none _)

pub loop-j-preserved : goal.loop-j-preserved
loop-j-preserved c =
    c.with_entry-span.ensures ∙ rw (c.loop-j.invariant, c.entry_at.ensures) (sym (span_of-entry c.args.s.now c.loop-j.j))

pub returns : goal.returns
returns c =
    c.loop-j.invariant
    ∙ ap (λ (k : ℕ). span_of (tracks_in c.args.s.now k)) (le_antisymm c.loop-j.auto.j-end c.loop-j-test.false ∙ c.saturating_sub-n.ensures)
