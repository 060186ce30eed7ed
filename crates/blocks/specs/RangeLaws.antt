-- The laws of the range: what it tells of address and count, and each way out.
use Rattle.std.specs.Prelude.{◌≡◌, Bool, ℕ, ◌+◌, ◌-◌, ◌≤◌, ◌<◌, leb, ltb}
use Rattle.std.proofs.Math.Path.{refl, ap}
use Rattle.std.proofs.Common.{sym, ◌∙◌, lt_of_not-le}
use Rattle.std.proofs.Math.Bool.{true, false, not}
use Rattle.std.proofs.lemmas.Bool.{false≢true}
use native.Mathlib.Omega.{arith}
use Rattle.std.proofs.Math.Decide.{dec_le}
use borrow.Author.Tests.{le-leb, lt-leb, lt-ltb, le-ltb, ltb-false, not-true}
use Rattle.ground.specs.Tests.{◌and◌, ◌or◌, choose◌then◌else◌, when, unless, or_left, or_right, or_else}
use Rattle.deck.specs.declared.Deck.{Deck}
use Rattle.gate.specs.declared.fault.Fault.TheVariants.{OutOfRange, IllegalMode}
use Rattle.gate.specs.Gate.{Result, fails}
use Rattle.blocks.specs.Range.{over, in_range, ranged}

-- neither holds: the second does not
neither_right : (x y : Bool) → not (x or y) ≡ true → y ≡ false
unfolding ◌or◌
neither_right true y h = absurd (false≢true h)
neither_right false y h = not-true _ h

module _ (a n l : ℕ) where
  -- an address that is over is out of range
  pub in_range-over : over a l ≡ true → in_range a n l ≡ false
  unfolding in_range
  in_range-over h = ap not (or_left _ _ h)

  -- any other is within L, and the count decides
  pub in_range-within : over a l ≡ false → a ≤ l
  unfolding over
  in_range-within h = let b = ltb-false (l - 1) a h in omega arith

  in_range-fits : over a l ≡ false → a + n ≤ l → in_range a n l ≡ true
  unfolding in_range
  in_range-fits h k = ap not (or_else _ _ h ∙ le-ltb _ _ k)

  in_range-past : l < a + n → in_range a n l ≡ false
  unfolding in_range
  in_range-past h = ap not (or_right _ _ (lt-ltb _ _ h))

  pub in_range-counts : over a l ≡ false → in_range a n l ≡ leb n (l - a)
  in_range-counts h = let w = in_range-within h in elim (dec_le (a + n) l) [
    | yes k ↦ in_range-fits h k ∙ sym (le-leb n (l - a) (omega arith))
    | no k ↦ in_range-past (lt_of_not-le k) ∙ sym (lt-leb n (l - a) (omega arith))
  ]

  -- blocks in range end at L or before
  pub in_range-end : in_range a n l ≡ true → a + n ≤ l
  unfolding in_range
  in_range-end h = ltb-false _ _ (neither_right (over a l) (ltb l (a + n)) h)

module _ (all : Bool) (a n l : ℕ) (r : Result Deck) where
  pub ranged-out : in_range a n l ≡ false → ranged all a n l r ≡ fails OutOfRange
  unfolding ranged
  ranged-out h = unless _ _ _ h

  -- whether the blocks lie in such tracks need not be known of a run that is out of range
  pub ranged-looked : ranged (in_range a n l and all) a n l r ≡ ranged all a n l r
  unfolding ranged choose◌then◌else◌ ◌and◌
  ranged-looked = go (in_range a n l)
    where
      go : (b : Bool) → (choose b then (choose b and all then r else fails IllegalMode) else fails OutOfRange) ≡ (choose b then (choose all then r else fails IllegalMode) else fails OutOfRange)
      go true = refl
      go false = refl

  pub ranged-mode : in_range a n l ≡ true → all ≡ false → ranged all a n l r ≡ fails IllegalMode
  unfolding ranged
  ranged-mode h k = when _ _ _ h ∙ unless _ _ _ k

  pub ranged-goes : in_range a n l ≡ true → all ≡ true → ranged all a n l r ≡ r
  unfolding ranged
  ranged-goes h k = when _ _ _ h ∙ when _ _ _ k
