-- Bytes as hex: "Capital hex, two digits; - where no bytes".
use Rattle.std.specs.Prelude.{ℕ, ◌+◌, ◌*◌, ◌/◌, ◌%◌, ◌≤◌, ◌<◌, ◌≡◌, refl, List, [], ◌∷◌, ◌++◌, ltb, length, take, get_or}
use Rattle.std.proofs.Common.{sym, ap, ◌∙◌, append_assoc, add-one, arith, take-suc, lt-ltb, le-ltb}
use Rattle.ground.specs.Tests.{choose◌then◌else◌, when, unless}

-- the ASCII code of the digit that the last four bits of n write: `0` to `9`, then `A` to `F`
unfoldable pub hex_digit : ℕ → ℕ
hex_digit n = choose ltb (n % 16) 10 then 48 + n % 16 else 55 + n % 16

-- a byte's two digits
abbrev pub hex_byte : ℕ → List ℕ
hex_byte b = hex_digit (b / 16) ∷ hex_digit b ∷ []

-- the digits of the bytes, one byte after the other
unfoldable pub hexes : List ℕ → List ℕ
hexes [] = []
hexes (b ∷ s) = hex_byte b ++ hexes s

-- the digits of the bytes, or "-" where there are none
unfoldable pub shown : List ℕ → List ℕ
shown [] = 45 ∷ []
shown (b ∷ s) = hexes (b ∷ s)

-- ---- laws

pub hex_digit_below : (n : ℕ) → n % 16 < 10 → hex_digit n ≡ 48 + n % 16
unfolding hex_digit
hex_digit_below n h = when _ _ _ (lt-ltb _ _ h)

pub hex_digit_above : (n : ℕ) → 10 ≤ n % 16 → hex_digit n ≡ 55 + n % 16
unfolding hex_digit
hex_digit_above n h = unless _ _ _ (le-ltb _ _ h)

pub hexes-append : (s t : List ℕ) → hexes (s ++ t) ≡ hexes s ++ hexes t
unfolding hexes
hexes-append [] t = refl
hexes-append (b ∷ s) t = ap (λ (x : List ℕ). hex_byte b ++ x) (hexes-append s t) ∙ sym (append_assoc (hex_byte b) (hexes s) (hexes t))

pub hexes-none : hexes [] ≡ []
unfolding hexes
hexes-none = refl

pub hexes-one : (b : ℕ) → hexes (b ∷ []) ≡ hex_byte b
unfolding hexes
hexes-one b = refl

-- one byte more
pub hexes_more : (s : List ℕ) (i : ℕ) → i < length s → hexes (take (i + 1) s) ≡ hexes (take i s) ++ hex_byte (get_or s i 0)
hexes_more s i h =
    ap hexes (ap (λ (n : ℕ). take n s) (add-one i) ∙ take-suc s i 0 h)
    ∙ hexes-append (take i s) (get_or s i 0 ∷ [])
    ∙ ap (λ (x : List ℕ). hexes (take i s) ++ x) (hexes-one (get_or s i 0))

pub shown-none : (s : List ℕ) → length s ≡ 0 → shown s ≡ 45 ∷ []
unfolding shown
shown-none [] h = refl
shown-none (b ∷ s) h = absurd (omega arith)

pub shown_some : (s : List ℕ) → (length s ≡ 0 → ⊥) → shown s ≡ hexes s
unfolding shown
shown_some [] h = absurd (h refl)
shown_some (b ∷ s) h = refl

pub ruleset shown_cases = (shown-none, shown_some)

-- ---- lengths

pub hexes-length : (s : List ℕ) → length (hexes s) ≡ 2 * length s
unfolding hexes
hexes-length [] = refl
hexes-length (b ∷ s) = let h = hexes-length s in omega arith

pub shown-length : (s : List ℕ) → length (shown s) ≤ 2 * length s + 1
unfolding shown
shown-length [] = omega arith
shown-length (b ∷ s) = let h = hexes-length (b ∷ s) in omega arith
