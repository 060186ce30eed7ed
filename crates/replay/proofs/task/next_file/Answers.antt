-- `replay::task::next_file` meets its contract: the pieces are laid one after the other (`laid_more`).
use Rattle.ground.specs.Memory.{laid_more}
use Rattle.replay.specs.Task.{file_text}
use Rattle.replay.proofs.task.next_file.Goals as goal

pub returns : goal.returns
unfolding file_text
returns c = rw (← c.left_of.ensures, ← c.phase_of.ensures, ← c.phase_letter.ensures) (laid_more (laid_more c.copy_front-at.ensures c.next_held-at.ensures) c.next_decimal-at.ensures)
