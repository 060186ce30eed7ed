-- `attention::sense::sense_at` meets its contract: the code's table is the definition's, row by row.
use Rattle.std.proofs.Common.{◌∙◌, ap, arith}
use Rattle.std.specs.Option.{unwrap_or}
use Rattle.attention.specs.Sense.{triple, sense_at}
use Rattle.attention.proofs.sense.sense_at.Goals as goal

pub returns : goal.returns
unfolding sense_at
returns c =
    c.unwrap_or.ensures
    ∙ ap (λ o. unwrap_or o (triple 0 0 0)) c.copied.ensures
    ∙ c.get.ensures.lookup.4 (omega arith) (triple 0 0 0)
