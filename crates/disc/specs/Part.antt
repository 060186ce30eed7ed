-- "A caller may ask for a session: its descriptors are shown as that part of the lent table itself, uncopied."
use Rattle.std.specs.Prelude.{◌≡◌, Option, Some, None, ℕ, ◌+◌, ◌-◌, List, take, drop, leb, eqb}
use Rattle.std.specs.Borrow.{Bor}
use Rattle.ground.specs.Tests.{◌and◌, choose◌then◌else◌}
use Rattle.table.specs.Layout.{header, descriptors, last_session}
use Rattle.sessions.specs.Session.{size, starts, session}
use Rattle.disc.specs.Rules.{fault, is_fit}
use Rattle.disc.specs.declared.part.Refusal.{Refusal}
use Rattle.disc.specs.declared.part.Refusal.TheVariants as refusal
use Rattle.disc.specs.declared.part.Ruled.{Ruled}

abbrev pub unfit : ℕ
unfit = 4

abbrev pub no_session : ℕ
no_session = 10

-- "The session part tests fitness (4, empty part) before 10": 10 where "a session asked for is 0 or over S"
unfoldable pub part_refusal : List ℕ → ℕ → ℕ
part_refusal t k = choose is_fit t then (choose leb 1 k and leb k (last_session t) then 0 else no_session) else unfit

-- K6: "Refusal 4 carries that number": the first broken rule of the table beside 4, and 0 beside every other number
unfoldable pub rule_with : ℕ → List ℕ → ℕ
rule_with number t = choose eqb number unfit then fault t else 0

-- a number and the rule beside it
abbrev pub refusal_with : ℕ → ℕ → Ruled
refusal_with number rule = record { number = number; rule = rule }

-- what the caller is told who asks for it apart
unfoldable pub part_refused : List ℕ → ℕ → Ruled
part_refused t k = refusal_with (part_refusal t k) (rule_with (part_refusal t k) t)

-- the number and the rule that a refusal stands for; 0 and 0 where there is none
abbrev pub refusal_meaning : Option Refusal → Ruled
refusal_meaning None = refusal_with 0 0
refusal_meaning (Some (refusal.Unfit u)) = refusal_with unfit u.rule
refusal_meaning (Some refusal.NoSession) = refusal_with no_session 0

-- where the part begins and how long it is: exactly the session's descriptors, or empty at 0
unfoldable pub part_start : List ℕ → ℕ → ℕ
part_start t k = choose eqb (part_refusal t k) 0 then header + starts (descriptors t) (k - 1) else 0

unfoldable pub part_size : List ℕ → ℕ → ℕ
part_size t k = choose eqb (part_refusal t k) 0 then size (session (descriptors t) (k - 1)) else 0

-- r is the part of s that begins at `at` and is n long: the same place in memory, the bytes uncopied
pub record PartOf (s r : Bor (List ℕ)) (at n : ℕ) : Type 0 where
  pub block : r.ref_ptr.0 ≡ s.ref_ptr.0
  pub offset : r.ref_ptr.1 ≡ at + s.ref_ptr.1
  pub shows : r.now ≡ take n (drop at s.now)
