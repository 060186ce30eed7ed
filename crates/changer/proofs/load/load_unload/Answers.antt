-- `changer::load::load_unload` meets its contract: the pair, the slot and the lock stop it in this order.
use Rattle.changer.specs.ChangerPacket.{mechanism_of}
use Rattle.changer.specs.MechanismLaws.{acted-fails, load_unload-pair, load_unload-slot, load_unload-locked, load_unload-loads, load_unload-unloads}
use Rattle.changer.proofs.load.load_unload.Goals as goal
use Rattle.changer.proofs.load.load_unload.Goals.{then-not-lo-via-then-not-lo, then-not-lo-via-else-not-lo+then-slots-wide}

pub returns-then-not-lo : goal.returns-then-not-lo
returns-then-not-lo c = let x = c.args in
    let m = mechanism_of x.c x.slots.now in
    elim c.then-not-lo.branch [
      | then-not-lo-via-then-not-lo w ↦ rw c.failed.ensures (acted-fails m _ (load_unload-pair m x.start x.i w.if-not-lo.true))
      | then-not-lo-via-else-not-lo+then-slots-wide w ↦
          rw c.failed.ensures (acted-fails m _ (load_unload-slot m x.start x.i w.if-not-lo.false (rw w.wide.ensures.same at w.if-slots-wide.true)))
    ]

pub returns-then-c : goal.returns-then-c
returns-then-c c = let x = c.args in
    let m = mechanism_of x.c x.slots.now in
    let h = rw c.wide.ensures.same at c.if-slots-wide.false in
    rw c.failed-then-c.ensures (acted-fails m _ (load_unload-locked m x.start x.i c.if-not-lo.false h c.if-c.true))

pub load-requires : goal.load-requires
load-requires c = (c.requires, rw c.wide.ensures.same at c.if-slots-wide.false)

pub returns-then-start : goal.returns-then-start
returns-then-start c = let x = c.args in
    let m = mechanism_of x.c x.slots.now in
    let h = rw c.wide.ensures.same at c.if-slots-wide.false in
    rw (load_unload-loads m x.start x.i c.if-not-lo.false h c.if-c.false c.if-start.true) c.load.ensures

pub returns : goal.returns
returns c = let x = c.args in
    let m = mechanism_of x.c x.slots.now in
    let h = rw c.wide.ensures.same at c.if-slots-wide.false in
    rw (load_unload-unloads m x.start x.i c.if-not-lo.false h c.if-c.false c.if-start.false) c.unload.ensures
