-- `cue::made::put_tracks` meets its contract: the descriptors of the entries gone over are laid, and the next one's goes into the rest
-- that begins where they ended (`laid_more`, `rows_of-entry`).
use Rattle.std.proofs.Common.{◌≡◌, length}
use Rattle.ground.specs.Memory.{Laid}
use Rattle.cue.specs.Sheet.{tracks_in}
use Rattle.cue.specs.Made.{rows_of}
use Rattle.cue.proofs.made.put_tracks.Given as goal

abbrev pub invariant-loop-j : goal.invariant-loop-j
invariant-loop-j l = Laid l.initial.part (rows_of (tracks_in l.s l.j)) l.at l.part × (length l.part ≡ length l.initial.part)
