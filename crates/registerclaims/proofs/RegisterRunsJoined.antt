-- Runs that leave the bytes, joined and counted at once.
use Rattle.std.specs.Prelude.{ℕ, List}
use Rattle.registerclaims.specs.Transfer.{Transfer}
use Rattle.registerclaims.specs.RegisterRuns.{Leaves, Joined, leaves-joined, leaves-number}

pub leaves-whole : {m : ℕ} {b t : List ℕ} {x : Transfer} → Leaves m b t x → Joined m b t x
leaves-whole w k e = (leaves-joined w k e, leaves-number w k e)
