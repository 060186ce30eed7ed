-- The front of a slice: the same place in memory, and its first bytes.
use Rattle.std.specs.Prelude.{◌≡◌, List, ℕ, take}
use Rattle.std.specs.Borrow.{Bor}

-- r is the first n bytes of s, uncopied
pub record FrontOf (s r : Bor (List ℕ)) (n : ℕ) : Type 0 where
  pub place : r.ref_ptr ≡ s.ref_ptr
  pub shows : r.now ≡ take n s.now
