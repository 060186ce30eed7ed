-- `target::perform::answer` meets its contract: a bad field decides, and what passes is laid, cut to the limit.
use Rattle.target.specs.PerformLaws.{performed-bad, performed-answer}
use Rattle.target.proofs.perform.answer.Goals as goal

pub returns-then-bad : goal.returns-then-bad
returns-then-bad c = performed-bad _ _ _ _ c.if-bad.true

pub returns : goal.returns
returns c = rw c.went_with.ensures (performed-answer _ _ _ c.if-bad.false c.requires c.put_cut-len.ensures)
