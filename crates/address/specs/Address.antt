-- Block addresses and M:S:F, as 01 fixes them under "The lent disc table" and refusal 8.
use Rattle.std.specs.Prelude.{ℕ, ◌+◌, ◌-◌, ◌*◌, ◌/◌, ◌%◌, Bool, List, [], ◌∷◌, leb, Result, Ok, Err}
use Rattle.ground.specs.Tests.{◌and◌, choose◌then◌else◌}
use Rattle.ground.specs.Number.{bytes32}
use Rattle.address.specs.declared.Msf.{Msf}
use Rattle.address.specs.declared.OutOfRange.{OutOfRange}

-- "8: address over 449,849, or M:S:F outside rule 6"
abbrev pub refused : ℕ
refused = 8

-- "The address of M:S:F is .. : 0 to 449,849."
abbrev pub last : ℕ
last = 449849

-- frames from 00:00:00 on
abbrev pub frames : ℕ → ℕ → ℕ → ℕ
frames m s f = (m * 60 + s) * 75 + f

-- "The address of M:S:F is (M × 60 + S) × 75 + F − 150"
abbrev pub address_of : ℕ → ℕ → ℕ → ℕ
address_of m s f = frames m s f - 150

-- rule 6: "an address from 00:02:00 to 99:59:74, seconds to 59, frames to 74"
unfoldable pub is_msf : ℕ → ℕ → ℕ → Bool
is_msf m s f = leb m 99 and leb s 59 and leb f 74 and leb 150 (frames m s f)

-- the minute, second and frame of a block address
abbrev pub minute_of : ℕ → ℕ
minute_of a = (a + 150) / 75 / 60

abbrev pub second_of : ℕ → ℕ
second_of a = (a + 150) / 75 % 60

abbrev pub frame_of : ℕ → ℕ
frame_of a = (a + 150) % 75

-- an answer: the refusal's number or 0, and the M:S:F, zeros where refused
pub record MsfAnswer : Type 0 where
  pub number : ℕ
  pub minute : ℕ
  pub second : ℕ
  pub frame : ℕ

-- an answer: the refusal's number or 0, and the address, zero where refused
pub record BlockAnswer : Type 0 where
  pub number : ℕ
  pub address : ℕ

abbrev pub msf_at : ℕ → ℕ → ℕ → MsfAnswer
msf_at m s f = record { number = 0; minute = m; second = s; frame = f }

abbrev pub msf_refused : MsfAnswer
msf_refused = record { number = refused; minute = 0; second = 0; frame = 0 }

abbrev pub block_at : ℕ → BlockAnswer
block_at a = record { number = 0; address = a }

abbrev pub block_refused : BlockAnswer
block_refused = record { number = refused; address = 0 }

-- the M:S:F of a block address: refused over 449,849
unfoldable pub to_msf : ℕ → MsfAnswer
to_msf a = choose leb a last then msf_at (minute_of a) (second_of a) (frame_of a) else msf_refused

-- the block address of an M:S:F: refused outside rule 6
unfoldable pub to_block : ℕ → ℕ → ℕ → BlockAnswer
to_block m s f = choose is_msf m s f then block_at (address_of m s f) else block_refused

-- an address as an answer shows it: "address (4 bytes, or 0 M S F)"
unfoldable pub shown_address : Bool → ℕ → List ℕ
shown_address msf a = choose msf then 0 ∷ (to_msf a).minute ∷ (to_msf a).second ∷ (to_msf a).frame ∷ [] else bytes32 a

-- the number and values of each case of the code's answers
abbrev pub msf_meaning : Result Msf OutOfRange → MsfAnswer
msf_meaning (Ok m) = msf_at m.minute m.second m.frame
msf_meaning (Err e) = msf_refused

abbrev pub block_meaning : Result ℕ OutOfRange → BlockAnswer
block_meaning (Ok a) = block_at a
block_meaning (Err e) = block_refused
