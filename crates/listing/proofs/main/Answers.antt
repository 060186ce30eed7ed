-- `listing::main` is safe and ends: the packets that it hands on are at most 49,152 bytes.
use Rattle.std.proofs.Common.{◌≡◌, refl, List, ℕ, ◌≤◌, arith, length, take, length-take}
use Rattle.listing.proofs.main.Goals as goal

-- the front of n bytes has at most n
few : (r s : List ℕ) (n most : ℕ) → r ≡ take n s → n ≤ most → length r ≤ most
few r s n most e h = rw e (let k = length-take n s in omega arith)

pub list-requires : goal.list-requires
list-requires c = let h : c.in-Some-load.p ≤ 49152 = omega arith in (few _ _ _ _ c.front-2.ensures.shows h, refl)
