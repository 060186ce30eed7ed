-- A law for each public function, by its name: two results that meet its promise are equal.
use Rattle.std.specs.Prelude.{◌≡◌, List, ℕ, length}
use Rattle.std.proofs.Common.{sym, ap, ◌∙◌}
use Rattle.std.specs.Borrow.{Bor}
use denote.Slice.{shr_slice_vals}
use Rattle.ground.specs.Memory.{Laid, laid-only}
use Rattle.print.specs.Front.{FrontOf}
use Rattle.print.specs.Hex.{hex_digit, hex_byte, hexes, shown}
use Rattle.print.specs.Decimal.{decimal}
use Rattle.print.specs.Joined.{spaced, ◌next◌}
use Rattle.print.specs.Numbers.{joined}
use Rattle.print.specs.Sum.{adler32}

-- text laid into lent memory: how many bytes went in, and what the memory holds then
abbrev Once : List ℕ → Type 0
Once text = (m m₁ m₂ : List ℕ) (r s : ℕ) → Laid m text r m₁ → Laid m text s m₂ → (r ≡ s) × (m₁ ≡ m₂)

laid_once : (text : List ℕ) → Once text
laid_once text m m₁ m₂ r s = laid-only

pub unique_put-decimal : (n : ℕ) → Once (decimal n)
unique_put-decimal n = laid_once (decimal n)

pub unique-next-decimal : (n : ℕ) → Once (spaced (decimal n))
unique-next-decimal n = laid_once (spaced (decimal n))

pub unique_put-joined : (numbers : List ℕ) (mark : ℕ) → Once (joined mark numbers)
unique_put-joined numbers mark = laid_once (joined mark numbers)

-- the same machine value: place and length
pub unique_front : (s r q : Bor (List ℕ)) (n : ℕ) → FrontOf s r n → FrontOf s q n → shr_slice_vals r ≡ shr_slice_vals q
unique_front s r q n a b =
    let p : r.ref_ptr ≡ q.ref_ptr = a.place ∙ sym b.place in
    let l : length r.now ≡ length q.now = ap length (a.shows ∙ sym b.shows) in
    rw (p, l)

pub unique_hex-digit : (n r s : ℕ) → r ≡ hex_digit n → s ≡ hex_digit n → r ≡ s
unique_hex-digit n r s p q = p ∙ sym q

pub unique_put_hex : (b : ℕ) → Once (hex_byte b)
unique_put_hex b = laid_once (hex_byte b)

pub unique_put-hexes : (bytes : List ℕ) → Once (hexes bytes)
unique_put-hexes bytes = laid_once (hexes bytes)

pub unique_put-shown : (bytes : List ℕ) → Once (shown bytes)
unique_put-shown bytes = laid_once (shown bytes)

pub unique_next_hex : (b : ℕ) → Once (spaced (hex_byte b))
unique_next_hex b = laid_once (spaced (hex_byte b))

pub unique_next_three : (a b c : ℕ) → Once (spaced (hex_byte a) next spaced (hex_byte b) next spaced (hex_byte c))
unique_next_three a b c = laid_once (spaced (hex_byte a) next spaced (hex_byte b) next spaced (hex_byte c))

pub unique-next-shown : (bytes : List ℕ) → Once (spaced (shown bytes))
unique-next-shown bytes = laid_once (spaced (shown bytes))

pub unique-adler32 : (t : List ℕ) (r s : ℕ) → r ≡ adler32 t → s ≡ adler32 t → r ≡ s
unique-adler32 t r s p q = p ∙ sym q
