-- `changer::packet` meets its contract: `settle` writes what becomes of the slots as `meet` answers.
use Rattle.std.proofs.Common.{◌∙◌}
use Rattle.changer.proofs.packet.Goals as goal

pub settle-requires : goal.settle-requires
settle-requires c = c.meet-d.ensures.within

pub returns : goal.returns
returns c = let x = c.meet-d.ensures in record { outcome = x.outcome; memory = x.memory; slots = c.settle.ensures ∙ x.slots }
