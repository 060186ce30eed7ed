-- K4: of all packets MODE SELECT alone looks at the lent parameter list; to any other a caller may lend an empty one.
use Rattle.std.specs.Prelude.{◌≡◌, false, List, ℕ, length, eqb}
use Rattle.std.proofs.Common.{ap}
use Rattle.drive.specs.declared.state.Drive.{Drive}
use Rattle.command.specs.Command.{code_of}
use Rattle.outcome.specs.Outcome.{state_of}
use Rattle.claims.specs.Telling.{answer_of}
use Rattle.claims.specs.Call.{packet, answer, next}
use Rattle.claims.proofs.ListedLaws.{reply_unlisted}

-- in any state, with any table and memory, pending or not, refused or not: the same answer, response bytes and next state with any two lists
pub listed_by_select : (d : Drive) (p t k l m : List ℕ) → eqb (code_of p) 0x55 ≡ false
    → (answer (packet p t k m) d ≡ answer (packet p t l m) d) × (next (packet p t k m) d ≡ next (packet p t l m) d)
listed_by_select d p t k l m h = let e = reply_unlisted d p t k l (length m) h in (ap (answer_of m) e, ap state_of e)
