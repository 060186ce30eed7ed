-- `cue::write::write_table` meets its contract: 14 is tested first and 12 next, as in the definition.
use lib.ListN.{length}
use mathlib.Core.Path.{refl}
use Rattle.cue.specs.WriteLaws.{turned-refuse, answer-no_room, answer-whole, answer-not_whole}
use Rattle.cue.proofs.write.write_table.Goals as goal

pub returns-then-memory-lt-BOUND : goal.returns-then-memory-lt-BOUND
returns-then-memory-lt-BOUND c = let x = c.args in
    rw (answer-no_room x.sheet.now (length x.memory.now) c.if-memory-lt-BOUND.true) (turned-refuse _ _ refl)

pub returns-then-sheet-ne0 : goal.returns-then-sheet-ne0
returns-then-sheet-ne0 c = let x = c.args in
    rw (answer-not_whole x.sheet.now (length x.memory.now) c.if-memory-lt-BOUND.false c.if-sheet-ne0.true) (turned-refuse _ _ refl)

pub returns : goal.returns
returns c = let x = c.args in
    rw (answer-whole x.sheet.now (length x.memory.now) c.if-memory-lt-BOUND.false c.if-sheet-ne0.false) c.write_whole.ensures
