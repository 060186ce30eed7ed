-- `changer::status::put_slot` meets its contract: the slot's byte and three zeros are laid.
use Rattle.changer.proofs.status.put_slot.Goals as goal

pub returns : goal.returns
returns c = rw (← c.flags.ensures) c.copy_front.ensures
