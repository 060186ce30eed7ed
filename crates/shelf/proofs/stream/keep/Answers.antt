-- `shelf::stream::keep` meets its contract: what is left is moved to the front, or stands there (`keep-copied`, `keep-none`).
use Rattle.std.proofs.Common.{◌≡◌, refl, arith}
use Rattle.shelf.specs.Stream.{taken_by}
use Rattle.shelf.specs.StreamLaws.{keep-none, keep-copied}
use Rattle.shelf.proofs.stream.keep.Goals as goal
use Rattle.shelf.proofs.stream.keep.Goals.{then-p-gt0, else-p-gt0}

pub returns : goal.returns
unfolding taken_by
returns c = (
  refl,
  elim c.if-p-gt0.branch [
    | then-p-gt0 w ↦ rw (w.room-is, w.copy_within.ensures.after) (keep-copied _ _ _ c.requires.0 c.requires.1)
    | else-p-gt0 w ↦ let t = w.if-p-gt0.false in let z : c.args.p.used ≡ 0 = omega arith in rw w.room-is (keep-none _ _ _ z c.requires.1).1
  ],
)
