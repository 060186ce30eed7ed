-- `changer::status::mechanism_status` meets its contract: the answer of at most 132 bytes is laid, cut to the allocation length.
use Prim.Native.Nat.{◌≤◌}
use native.Mathlib.Omega.{arith}
use lib.ListN.{length}
use Rattle.changer.specs.Status.{status_bytes, home_shown}
use Rattle.changer.specs.StatusLaws.{status_bytes-length}
use Rattle.changer.specs.ChangerPacket.{mechanism_of}
use Rattle.changer.specs.MechanismLaws.{acted_on_status}
use Rattle.changer.proofs.status.mechanism_status.Goals as goal

pub returns : goal.returns
returns c = let x = c.args in
    let m = mechanism_of x.c x.slots.now in
    let full = status_bytes (home_shown m) x.slots.now in
    let h : length full ≤ length x.mem.now = let e = status_bytes-length (home_shown m) x.slots.now in let r = c.requires in omega arith in
    rw (c.staying.ensures, c.went_with.ensures) (acted_on_status m full h (rw c.home_shown.ensures at c.put_status-len.ensures))
