-- `cue::write::write_whole` meets its contract: a described sheet has two entries, so its last is there; any other is refused.
use mathlib.Core.Path.{refl, sym, ◌∙◌}
use native.Mathlib.Omega.{arith}
use Rattle.ground.specs.Tests.{and_late}
use Rattle.cue.specs.Sheet.{is_described}
use Rattle.cue.specs.SheetLaws.{is_described_parts}
use Rattle.cue.specs.SpanLaws.{is_run-numbered, span_of-numbered}
use Rattle.cue.specs.WriteLaws.{turned-refuse, whole_answer-described, whole_answer_not}
use Rattle.cue.proofs.write.write_whole.Goals as goal

pub returns-in_default : goal.returns-in_default
unfolding is_described
returns-in_default c = rw (whole_answer_not _ (sym (and_late _ _ (and_late _ _ (sym (span_of-numbered _ c.in_default.ensures)))))) (turned-refuse _ _ refl)

pub is_described-requires : goal.is_described-requires
is_described-requires c = c.in-Some.ensures

pub returns-then-not-is_described : goal.returns-then-not-is_described
returns-then-not-is_described c = rw (whole_answer_not _ (sym c.if-not-is_described.ensures)) (turned-refuse _ _ refl)

pub overflow_sub-s : goal.overflow_sub-s
overflow_sub-s c = let d = is_described_parts _ (sym c.if-not-is_described.ensures) in omega arith

pub entry_at-last-requires : goal.entry_at-last-requires
entry_at-last-requires c = let d = is_described_parts _ (sym c.if-not-is_described.ensures) in omega arith

pub write_made-requires : goal.write_made-requires
write_made-requires c =
    let d = is_described_parts _ (sym c.if-not-is_described.ensures) in
    (c.in-Some.ensures, is_run-numbered _ c.in-Some.ensures ∙ d.numbered, c.requires)

pub returns : goal.returns
returns c = rw (whole_answer-described _ (sym c.if-not-is_described.ensures)) (rw c.entry_at-last.ensures at c.write_made.ensures)
