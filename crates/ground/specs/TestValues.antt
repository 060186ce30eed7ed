-- The tests of Tests.antt at their values: a rule set by which `grind` proves a chain of `&&` or `||` against a definition that is opened.
use Rattle.std.specs.Prelude.{◌≡◌, refl, Bool, true, false}
use Rattle.std.proofs.lemmas.Bool.Decides.{nat_tests}
use Rattle.ground.specs.Tests.{◌and◌, ◌or◌}

pub true-and : (b : Bool) → true and b ≡ b
unfolding ◌and◌
true-and b = refl

pub false-and : (b : Bool) → false and b ≡ false
unfolding ◌and◌
false-and b = refl

pub true-or : (b : Bool) → true or b ≡ true
unfolding ◌or◌
true-or b = refl

pub false-or : (b : Bool) → false or b ≡ b
unfolding ◌or◌
false-or b = refl

pub ruleset test_values = (nat_tests, true-and, false-and, true-or, false-or)
