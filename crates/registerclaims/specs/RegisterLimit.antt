-- K14: what the byte count comes to as a limit; true by cases at 0 and 1, and by halving above them.
use Rattle.std.specs.Prelude.{ℕ, ◌-◌, ◌%◌, ◌≤◌, ◌<◌, ◌≡◌, refl, true, eqb}
use Rattle.std.proofs.Common.{◌∙◌, arith, ltb-true, lt-ltb, eqb-true, eq-eqb, ne_eqb}
use Rattle.std.proofs.lemmas.Bool.{eqb-false}
use Rattle.ground.specs.Tests.{choose◌then◌else◌, either, unless, and_head, and_tail, and_both}
use Rattle.taskfile.specs.Run.{limit_of, is_limit}

-- "0 and FFFFh count as 65,534"
pub limit-zero : limit_of 0 ≡ 65534
unfolding limit_of choose◌then◌else◌
limit-zero = refl

pub limit-most : limit_of 0xFFFF ≡ 65534
unfolding limit_of choose◌then◌else◌
limit-most = refl

-- "1 as 2"
pub limit-one : limit_of 1 ≡ 2
unfolding limit_of choose◌then◌else◌
limit-one = refl

-- past 1 what is over an even number is taken off
limit_halved : (c : ℕ) → 2 ≤ c → limit_of c ≡ c - c % 2
unfolding limit_of
limit_halved c h = unless _ _ _ (ne_eqb c 0 (λ e. omega arith)) ∙ unless _ _ _ (ne_eqb c 1 (λ e. omega arith))

-- "an odd limit as one less"
pub limit_odd : (c : ℕ) → 3 ≤ c → c % 2 ≡ 1 → limit_of c ≡ c - 1
limit_odd c h e = let w = limit_halved c (omega arith) in omega arith

-- and any other as it is
pub limit_even : (c : ℕ) → 2 ≤ c → c % 2 ≡ 0 → limit_of c ≡ c
limit_even c h e = let w = limit_halved c h in omega arith

-- a limit: even, at least 2 and at most 65,534
pub record Limit (m : ℕ) : Type 0 where
  pub even : m % 2 ≡ 0
  pub least : 2 ≤ m
  pub most : m ≤ 65534

-- every byte count gives one
pub limit_limit : (c : ℕ) → c < 65536 → Limit (limit_of c)
unfolding limit_of
limit_limit c h =
    either Limit (eqb c 0) (λ e. record { even = omega arith; least = omega arith; most = omega arith })
    (λ e. either Limit (eqb c 1) (λ f. record { even = omega arith; least = omega arith; most = omega arith })
    (λ f. let x = eqb-false c 0 e in let y = eqb-false c 1 f in
    record { even = omega arith; least = halved x y; most = omega arith }))
  where
    halved : (c ≡ 0 → ⊥) → (c ≡ 1 → ⊥) → 2 ≤ c - c % 2
    halved x y = omega (arith, x, y)

-- and counts as itself
pub limit_itself : (m : ℕ) → Limit m → limit_of m ≡ m
limit_itself m l = limit_even m l.least l.even

pub limit_again : (c : ℕ) → c < 65536 → limit_of (limit_of c) ≡ limit_of c
limit_again c h = limit_itself (limit_of c) (limit_limit c h)

-- the record's test of a limit is that
pub limit-is_limit : (m : ℕ) → Limit m → is_limit m ≡ true
unfolding is_limit
limit-is_limit m l = and_both _ _ (lt-ltb m 65536 (omega arith)) (eq-eqb _ _ (limit_itself m l))

pub is_limit_limit : (m : ℕ) → is_limit m ≡ true → Limit m
unfolding is_limit
is_limit_limit m h = rw (eqb-true (limit_of m) m (and_tail _ _ h)) at (limit_limit m (ltb-true m 65536 (and_head _ _ h)))
