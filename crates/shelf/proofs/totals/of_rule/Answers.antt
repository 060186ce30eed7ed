-- `shelf::totals::of_rule` meets its contract: each of the tests is the definition's.
use Rattle.shelf.proofs.totals.of_rule.Goals as goal

pub returns : goal.returns
returns c =
    rw (
      c.nothing.ensures,
      c.one_if-8.ensures,
      c.one_if-7.ensures,
      c.one_if-6.ensures,
      c.one_if-5.ensures,
      c.one_if-4.ensures,
      c.one_if-3.ensures,
      c.one_if-2.ensures,
      c.one_if.ensures,
    )
