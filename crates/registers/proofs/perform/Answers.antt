-- `registers::perform` meets its contract: what the target hands back is what the definition takes.
use Rattle.registers.proofs.perform.Goals as goal

pub returns : goal.returns
returns c = let o = c.packet-o.ensures in record { step = rw (c.answered.ensures, o.outcome); memory = o.memory }
