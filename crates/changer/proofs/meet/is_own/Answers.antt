-- `changer::meet::is_own` meets its contract: the packet's code is one of the three, or none of them.
use Rattle.std.proofs.Common.{get_or, inl, inr, arith, ne_eqb}
use Rattle.ground.specs.Tests.{◌and◌, ◌or◌}
use Rattle.changer.specs.ChangerPacket.{is_own}
use Rattle.changer.proofs.meet.is_own.Goals as goal

pub returns-in-166 : goal.returns-in-166
unfolding is_own ◌or◌
returns-in-166 c = elim c.in-166.is [ inl e ↦ rw e | inr e ↦ rw e ]

pub returns-in-27 : goal.returns-in-27
unfolding is_own ◌or◌ ◌and◌
returns-in-27 c = rw c.in-27.is c.bit.ensures

pub returns-in_default : goal.returns-in_default
unfolding is_own ◌or◌ ◌and◌
returns-in_default c =
    let k = get_or c.args.p.now 0 0 in
    rw (ne_eqb k 0xA6 (λ h. grind arith), ne_eqb k 0xBD (λ h. grind arith), ne_eqb k 0x1B (λ h. omega arith))
