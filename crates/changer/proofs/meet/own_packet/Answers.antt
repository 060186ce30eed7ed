-- `changer::meet::own_packet` meets its contract: with a disc in the drive its table is fit or the call is refused.
use mathlib.Core.Path.{◌≡◌, sym, ap, ◌∙◌}
use mathlib.Core.Bool.{true, true≢false}
use Prim.Native.Nat.{ℕ}
use Rattle.deck.specs.Deck.{is_loaded}
use Rattle.disc.specs.Rules.{is_fit}
use Rattle.disc.specs.Part.{unfit}
use Rattle.disc.specs.DiscLaws.{reading_fit, reading-unfit}
use Rattle.changer.specs.ChangerPacketLaws.{refused_with, changer-4, changer-own, in_order_homed, in_order_most, answered_by-refused}
use Rattle.changer.proofs.meet.own_packet.Goals as goal
use Rattle.changer.proofs.meet.own_packet.Goals.{then-is_loaded+in_default, else-is_loaded}

pub gated-requires : goal.gated-requires
gated-requires c = let x = c.args in let q = c.requires in (q.0.room, in_order_most x.c x.slots.now q.0.order, in_order_homed x.c x.slots.now q.0.order)

pub returns-in-Err : goal.returns-in-Err
returns-in-Err c = let x = c.args in
    let q = c.requires in
    let r = reading-unfit _ _ (sym c.in-Err.ensures) in
    let l = sym c.is_loaded.ensures ∙ c.if-is_loaded.true in
    rw (changer-4 x.c x.slots.now x.p.now x.t.now x.list.now _ q.0 l r.0, c.refused.ensures ∙ ap (λ (n : ℕ). refused_with unfit n x.c) r.1)
    (answered_by-refused _ _ _ _ _)

pub returns : goal.returns
returns c = let x = c.args in
    let q = c.requires in
    let f : is_loaded x.c.drive.deck ≡ true → is_fit x.t.now ≡ true = elim c.if-is_loaded.branch [
      | then-is_loaded+in_default w ↦ λ h. (reading_fit _ _ (sym w.in_default.ensures)).0
      | else-is_loaded w ↦ λ h. absurd (true≢false (sym h ∙ sym c.is_loaded.ensures ∙ w.if-is_loaded.false))
    ] in
    rw (changer-own x.c x.slots.now x.p.now x.t.now x.list.now _ q.0 q.1 f) c.gated.ensures
