-- `shelf::totals::plus` meets its contract: std's checked sum is there exactly where it is within 64 bits.
use Rattle.std.specs.Prelude.{◌≡◌, ℕ, ◌+◌, ◌≤◌, ◌<◌, Option, Some, None}
use Rattle.std.specs.Option.{SomeIff, ok_or}
use Rattle.std.proofs.Common.{sym, ◌∙◌, arith, le-leb}
use Rattle.std.proofs.lemmas.Bool.{lt-leb}
use Rattle.ground.specs.Tests.{when, unless}
use Rattle.shelf.specs.Totals.{most, too_large}
use Rattle.shelf.specs.TotalsLaws.{plus}
use Rattle.shelf.proofs.totals.plus.Goals as goal

checked : (a b : ℕ) (o : Option ℕ) → SomeIff o (a + b < 18446744073709551616) (a + b) → ok_or o too_large ≡ plus a b
unfolding plus
checked a b (Some n) h = let l : a + b ≤ most = let k = h.0 in omega arith in rw h.1 (sym (when _ _ _ (le-leb _ _ l)))
checked a b None h = let l : most < a + b = omega arith in sym (unless _ _ _ (lt-leb _ _ l))

pub returns : goal.returns
returns c = c.ok_or.ensures.value ∙ checked _ _ _ c.checked_add.ensures
