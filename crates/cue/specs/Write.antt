-- K12: "Turn a one-session sheet into a disc table": how a sheet is answered, and what the output memory then holds.
use Rattle.std.specs.Prelude.{◌≡◌, Result, Ok, Err, List, [], ℕ, ◌%◌, length, ltb, eqb}
use Rattle.ground.specs.Tests.{choose◌then◌else◌}
use Rattle.ground.specs.Memory.{fill}
use Rattle.table.specs.Layout.{bound}
use Rattle.disc.specs.Rules.{is_fit}
use Rattle.cue.specs.declared.write.Refusal.{Refusal}
use Rattle.cue.specs.declared.write.Refusal.TheVariants.{NotWhole, NoTable, NoRoom}
use Rattle.cue.specs.declared.write.Written.{Written}
use Rattle.cue.specs.Sheet.{entry_size, is_described}
use Rattle.cue.specs.Made.{table_of}

-- the refusal's number or 0, and the bytes written
pub record Answer : Type 0 where
  pub number : ℕ
  pub bytes : List ℕ

abbrev pub refuse : ℕ → Answer
refuse n = record { number = n; bytes = [] }

-- "12 for a length not a multiple of 8, 13 for such a sheet", "14 for output memory under 6,538 bytes"
abbrev pub not_whole : ℕ
not_whole = 12

abbrev pub no_table : ℕ
no_table = 13

abbrev pub no_room : ℕ
no_room = 14

-- "The written table is fit"
unfoldable pub hand_out : List ℕ → Answer
hand_out t = choose is_fit t then record { number = 0; bytes = t } else refuse no_table

-- "no fit table has those tracks, controls and addresses or the entries aren't as described here": of a sheet of whole entries
unfoldable pub whole_answer : List ℕ → Answer
whole_answer s = choose is_described s then hand_out (table_of s) else refuse no_table

-- "Refusals, in order of test: 14 .., 12 .., 13 ..": of a sheet and the length of the output memory
unfoldable pub answer : List ℕ → ℕ → Answer
answer s m =
    choose ltb m bound then refuse no_room else (choose eqb (length s % entry_size) 0 then whole_answer s else refuse not_whole)

-- what the call hands back: the refusal's number or 0, and how many bytes were written, of each case
abbrev pub written_meaning : Result ℕ Refusal → Written
written_meaning (Ok n) = record { number = 0; len = n }
written_meaning (Err NotWhole) = record { number = not_whole; len = 0 }
written_meaning (Err NoTable) = record { number = no_table; len = 0 }
written_meaning (Err NoRoom) = record { number = no_room; len = 0 }

abbrev pub written_of : Answer → Written
written_of a = record { number = a.number; len = length a.bytes }

-- "memory past the table stays as it was", and all of it where nothing is written
pub record Turned (a : Answer) (m : List ℕ) (r : Written) (m' : List ℕ) : Type 0 where
  pub outcome : r ≡ written_of a
  pub memory : m' ≡ fill m a.bytes
