-- Adler-32: two sums modulo 65,521, the one of the bytes, begun at 1, and the one of its values.
use Rattle.std.specs.Prelude.{ℕ, zero, suc, ◌+◌, ◌*◌, ◌%◌, ◌≡◌, refl, List, length, get_or}
use Rattle.std.proofs.Common.{add-one}

-- the first sum over the first i bytes
unfoldable pub low : List ℕ → ℕ → ℕ
low s zero = 1
low s (suc i) = (low s i + get_or s i 0) % 65521

-- the second sum over the first i bytes
unfoldable pub high : List ℕ → ℕ → ℕ
high s zero = 0
high s (suc i) = (high s i + low s (suc i)) % 65521

unfoldable pub adler32 : List ℕ → ℕ
adler32 s = high s (length s) * 65536 + low s (length s)

-- ---- laws

pub low-none : (s : List ℕ) → 1 ≡ low s 0
unfolding low
low-none s = refl

pub high-none : (s : List ℕ) → 0 ≡ high s 0
unfolding high
high-none s = refl

pub low_more : (s : List ℕ) (i : ℕ) → low s (i + 1) ≡ (low s i + get_or s i 0) % 65521
unfolding low
low_more s i = rw add-one

pub high_more : (s : List ℕ) (i : ℕ) → high s (i + 1) ≡ (high s i + low s (i + 1)) % 65521
unfolding high
high_more s i = rw add-one

-- one byte more
pub sums_more :
    (s : List ℕ) (i a b x : ℕ) → a ≡ low s i → b ≡ high s i → x ≡ get_or s i 0
    → ((a + x) % 65521 ≡ low s (i + 1)) × ((b + (a + x) % 65521) % 65521 ≡ high s (i + 1))
sums_more s i a b x p q r =
    let e : (a + x) % 65521 ≡ low s (i + 1) = rw (low_more s i, p, r) refl in
    (e, rw (e, high_more s i, q) refl)
