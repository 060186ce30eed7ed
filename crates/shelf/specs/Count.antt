-- Sums over the numbers below a bound, and how many of them pass a test.
use Rattle.std.specs.Prelude.{ℕ, zero, suc, ◌+◌, Bool}
use Rattle.ground.specs.Tests.{choose◌then◌else◌}

-- f 0 + f 1 + .. of the numbers below n
unfoldable pub sum_below : ℕ → (ℕ → ℕ) → ℕ
sum_below zero f = 0
sum_below (suc n) f = sum_below n f + f n

-- 1 where the test holds, else 0
unfoldable pub one_if : Bool → ℕ
one_if b = choose b then 1 else 0

-- how many of the numbers below n pass the test
unfoldable pub count_below : ℕ → (ℕ → Bool) → ℕ
count_below n p = sum_below n (λ i. one_if (p i))
