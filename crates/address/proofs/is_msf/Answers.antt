-- `address::is_msf` meets its contract: the conversion refuses exactly outside rule 6.
use Rattle.std.proofs.Common.{◌∙◌}
use Rattle.address.specs.Laws.{to_block-tells}
use Rattle.address.proofs.is_msf.Goals as goal

pub returns : goal.returns
returns c = c.is_ok.ensures.value ∙ to_block-tells _ _ _ _ c.to_block.ensures
