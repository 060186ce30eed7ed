-- What `all` answers of the numbers of `0..n` is `every` of them.
use Rattle.std.specs.Prelude.{◌≡◌, Bool, true, false, ℕ, ◌<◌, length}
use Rattle.std.specs.Bool.{MatchBool}
use Rattle.std.specs.List.{range_with_len, AllWithin, HoldsAt}
use Rattle.std.proofs.Common.{sym, zero-add, arith}
use Rattle.std.proofs.lemmas.List.FromFn.{length-range_with_len, get_or-range_with_len}
use Rattle.ground.specs.Tests.{every, every-all, every-breaks}

-- as `cases_from_all` tells the answer: each number passed, or one did not
pub every-answered :
    (n : ℕ) (p : ℕ → Bool) (r : Bool)
    → MatchBool r (AllWithin (λ i. p i ≡ true) (range_with_len 0 n) 0 (length (range_with_len 0 n)))
    ((k : ℕ) × (k < length (range_with_len 0 n)) × HoldsAt (λ i. p i ≡ false) (range_with_len 0 n) k)
    → r ≡ every n p
every-answered n p true h = sym (every-all n p (λ i l.
    let m = length-range_with_len 0 n in
    rw (get_or-range_with_len 0 n i 0 l, zero-add) at (h i 0 (omega arith) (omega arith))))
every-answered n p false h =
    let m = length-range_with_len 0 n in
    let i = h.0 in
    let l : i < n = let k = h.1 in omega arith in
    every-breaks n p i l (rw (get_or-range_with_len 0 n i 0 l, zero-add) at (h.2 0))
