-- The tables of the slots grow by one slot at a time, and the whole answer fits a response memory.
use Rattle.std.specs.Prelude.{ℕ, zero, suc, ◌+◌, ◌*◌, ◌≡◌, refl, List, [], ◌++◌, length}
use Rattle.std.proofs.Common.{ap, ◌∙◌, arith, add-one, length-append}
use Rattle.changer.specs.declared.Slot.{Slot}
use Rattle.changer.specs.Slot.{slot_at}
use Rattle.changer.specs.Status.{slot_bytes, slot_tables, header_of, status_bytes}

pub slot_tables-none : (s : List Slot) → slot_tables s 0 ≡ []
unfolding slot_tables
slot_tables-none s = refl

pub slot_tables_more : (s : List Slot) (n : ℕ) → slot_tables s (n + 1) ≡ slot_tables s n ++ slot_bytes (slot_at s n)
unfolding slot_tables
slot_tables_more s n = ap (slot_tables s) (add-one n)

pub slot_tables-length : (s : List Slot) (n : ℕ) → length (slot_tables s n) ≡ 4 * n
unfolding slot_tables
slot_tables-length s zero = refl
slot_tables-length s (suc n) = length-append (slot_tables s n) (slot_bytes (slot_at s n)) ∙ (let h = slot_tables-length s n in omega arith)

-- "4 bytes a slot" behind eight of header
pub status_bytes-length : (home : ℕ) (s : List Slot) → length (status_bytes home s) ≡ 8 + 4 * length s
unfolding status_bytes
status_bytes-length home s = length-append (header_of home (length s)) (slot_tables s (length s)) ∙ ap (λ (n : ℕ). 8 + n) (slot_tables-length s (length s))
