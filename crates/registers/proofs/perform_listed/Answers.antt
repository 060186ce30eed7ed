-- `registers::perform_listed` meets its contract: the list is the record's own.
use Rattle.registers.proofs.perform_listed.Goals as goal

pub returns : goal.returns
returns c = c.perform.ensures
