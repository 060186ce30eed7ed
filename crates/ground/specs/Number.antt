-- Numbers in bytes, the high byte first ("Multi-byte numbers are big-endian").
use Rattle.std.specs.Prelude.{◌≡◌, refl, List, [], ◌∷◌, ℕ, ◌+◌, ◌*◌, ◌/◌, ◌%◌, ◌<◌, length, get_or}
use Rattle.std.proofs.Common.{arith}
use Rattle.std.proofs.Math.Nat.{div-div-eq-div-mul}

-- r is the byte b as a wide number
pub record Byte (b r : ℕ) : Type 0 where
  pub same : r ≡ b
  pub small : r < 256

-- the number that two bytes write
abbrev pub word16 : ℕ → ℕ → ℕ
word16 high low = high * 256 + low

-- the number that four bytes write
abbrev pub word32 : ℕ → ℕ → ℕ → ℕ → ℕ
word32 a b c d = word16 a b * 65536 + word16 c d

-- the two bytes that write n, cut to 16 bits
abbrev pub bytes16 : ℕ → List ℕ
bytes16 n = n / 256 % 256 ∷ n % 256 ∷ []

-- the four bytes that write n, cut to 32 bits
abbrev pub bytes32 : ℕ → List ℕ
bytes32 n = n / 16777216 % 256 ∷ n / 65536 % 256 ∷ n / 256 % 256 ∷ n % 256 ∷ []

-- a number of 16 bits is what its two bytes write
pub bytes16_exact : (n : ℕ) → n < 65536 → word16 (n / 256 % 256) (n % 256) ≡ n
bytes16_exact n h = omega arith

-- a number of 32 bits is what its four bytes write
pub bytes32_exact : (n : ℕ) → n < 4294967296 → word32 (n / 16777216 % 256) (n / 65536 % 256) (n / 256 % 256) (n % 256) ≡ n
bytes32_exact n h =
    let p : n / 256 / 256 ≡ n / 65536 = div-div-eq-div-mul n 256 256 in
    let q : n / 65536 / 256 ≡ n / 16777216 = div-div-eq-div-mul n 65536 256 in
    let a : n / 256 ≡ n / 65536 * 256 + n / 256 % 256 = omega arith in
    let b : n / 65536 ≡ n / 16777216 * 256 + n / 65536 % 256 = omega arith in
    let c : n / 16777216 % 256 ≡ n / 16777216 = omega arith in
    omega arith

-- two bytes are what their number is written as
pub word16_exact : (a b : ℕ) → a < 256 → b < 256 → bytes16 (word16 a b) ≡ a ∷ b ∷ []
word16_exact a b h k =
    let p : word16 a b / 256 % 256 ≡ a = omega arith in
    let q : word16 a b % 256 ≡ b = omega arith in
    rw (p, q)

-- a list of four is its elements
pub four : (l : List ℕ) → length l ≡ 4 → get_or l 0 0 ∷ get_or l 1 0 ∷ get_or l 2 0 ∷ get_or l 3 0 ∷ [] ≡ l
four [] h = absurd (omega arith)
four (a ∷ []) h = absurd (omega arith)
four (a ∷ b ∷ []) h = absurd (omega arith)
four (a ∷ b ∷ c ∷ []) h = absurd (omega arith)
four (a ∷ b ∷ c ∷ d ∷ []) h = refl
four (a ∷ b ∷ c ∷ d ∷ e ∷ l) h = absurd (omega arith)
