-- "addresses convert exactly both ways": "The address of M:S:F is (M × 60 + S) × 75 + F − 150: 0 to 449,849."
use Rattle.std.specs.Prelude.{◌≡◌, ◌↔◌, ℕ, ◌+◌, ◌-◌, ◌*◌, ◌≤◌, ◌<◌}
use Rattle.address.specs.Address.{minute_of, second_of, frame_of, msf_at, msf_refused, block_at, block_refused, to_msf, to_block}
use Rattle.address.specs.Laws.{InRange, Earlier, to_block-at, to_block-refused, to_block_range, to_msf-at, to_msf-refused, to_msf_range, to_msf-to_block, to_block-to_msf, to_block-rises, to_msf-rises}
use Rattle.claims.specs.AddressLaws.{to_msf_exactly, to_block_exactly}

-- ---- exactly the stated ranges convert

-- "8: address over 449,849, ..": any other address converts, to an M:S:F of rule 6
pub addresses_convert : (a : ℕ) → ((to_msf a).number ≡ 0) ↔ (a ≤ 449849)
addresses_convert = to_msf_exactly

pub addresses-refused : (a : ℕ) → 449849 < a → to_msf a ≡ msf_refused
addresses-refused = to_msf-refused

pub addresses_msf : (a : ℕ) → a ≤ 449849 → (to_msf a ≡ msf_at (minute_of a) (second_of a) (frame_of a)) × InRange (minute_of a) (second_of a) (frame_of a)
addresses_msf a h = (to_msf-at a h, to_msf_range a h)

-- ".. or M:S:F outside rule 6": "from 00:02:00 to 99:59:74, seconds to 59, frames to 74"; any other converts, to an address up to 449,849
pub msf_convert : (m s f : ℕ) → ((to_block m s f).number ≡ 0) ↔ InRange m s f
msf_convert = to_block_exactly

pub msf-refused : (m s f : ℕ) → (InRange m s f → ⊥) → to_block m s f ≡ block_refused
msf-refused = to_block-refused

pub msf_address : (m s f : ℕ) → InRange m s f → (to_block m s f ≡ block_at ((m * 60 + s) * 75 + f - 150)) × ((m * 60 + s) * 75 + f - 150 ≤ 449849)
msf_address m s f r = (to_block-at r, to_block_range r)

-- ---- both round trips

pub addresses_return : (a : ℕ) → a ≤ 449849 → to_block (to_msf a).minute (to_msf a).second (to_msf a).frame ≡ block_at a
addresses_return a h = rw (to_msf-at a h) (to_msf-to_block a h)

pub msf_return : (m s f : ℕ) → InRange m s f → to_msf (to_block m s f).address ≡ msf_at m s f
msf_return m s f r = rw (to_block-at r) (to_block-to_msf r)

-- ---- strictly rising

pub addresses_rise : (a b : ℕ) → a < b → b ≤ 449849 → Earlier (minute_of a) (second_of a) (frame_of a) (minute_of b) (second_of b) (frame_of b)
addresses_rise = to_msf-rises

pub msf_rise : (m s f n t g : ℕ) → InRange m s f → InRange n t g → Earlier m s f n t g → (to_block m s f).address < (to_block n t g).address
msf_rise m s f n t g p q e = rw (to_block-at p, to_block-at q) (to_block-rises p q e)
