-- `changer::load::exchange` meets its contract: the home and the named slot change where that one then holds a disc, else the home alone.
use mathlib.Core.Path.{sym, ◌∙◌}
use Rattle.changer.specs.ChangerPacket.{mechanism_of}
use Rattle.changer.specs.MechanismLaws.{acted-exchange, loads-none}
use Rattle.changer.proofs.load.exchange.Goals as goal

pub holds-requires : goal.holds-requires
holds-requires c = rw c.wide-at.ensures.same (c.requires.1 c.requires.0)

pub returns-then-holds : goal.returns-then-holds
returns-then-holds c = let x = c.args in
    let q = c.requires in
    let p = rw (c.wide.ensures.same, c.wide-at.ensures.same) at (sym c.holds.ensures ∙ c.if-holds.true) in
    rw (c.moving-then-holds.ensures, c.empty_slot.ensures, c.wide-then-holds.ensures.same, c.moving.ensures, c.closing-next.ensures, c.with_disc.ensures, c.returned_deck.ensures, c.full_slot-back.ensures, c.slot_of.ensures, c.wide-at.ensures.same)
    (acted-exchange (mechanism_of x.c x.slots.now) q.0 (q.1 q.0) x.i q.2 p)

pub returns : goal.returns
returns c = let x = c.args in
    let q = c.requires in
    let p = rw (c.wide.ensures.same, c.wide-at.ensures.same) at (sym c.holds.ensures ∙ c.if-holds.false) in
    rw (loads-none (mechanism_of x.c x.slots.now) q.0 (q.1 q.0) x.i p) c.unload.ensures
