-- A packet met by the drive: "Numbers of refusal", then "Steps for a packet".
use Rattle.std.specs.Prelude.{ℕ, not, List, length, eqb, ltb}
use Rattle.ground.specs.Tests.{◌and◌, choose◌then◌else◌}
use Rattle.attention.specs.declared.Unit.{Unit}
use Rattle.deck.specs.declared.Deck.{Deck}
use Rattle.drive.specs.declared.state.Drive.{Drive}
use Rattle.deck.specs.Deck.{is_loaded}
use Rattle.drive.specs.State.{is_known_state, unknown_state}
use Rattle.table.specs.Layout.{bound}
use Rattle.disc.specs.Rules.{is_fit}
use Rattle.disc.specs.Part.{unfit, rule_with}
use Rattle.gate.specs.Gate.{Reply, refuse, gate, pass, request_sense}
use Rattle.command.specs.declared.decode.Command.{Command}
use Rattle.command.specs.declared.decode.Kind.{Kind}
use Rattle.command.specs.declared.decode.Kind.TheVariants.{Asks, Passes, Gates}
use Rattle.command.specs.Command.{byte, code_of, decode, kind_of}
use Rattle.target.specs.Perform.{perform}

-- the refusals that only packets give
abbrev pub not_twelve : ℕ
not_twelve = 1

abbrev pub short_memory : ℕ
short_memory = 3

-- steps 1 and 2, by how the command meets a pending attention
abbrev pub steps_by : Kind → Command → Unit → Deck → List ℕ → List ℕ → List ℕ → Reply Deck
steps_by Asks c u m p t l = request_sense (byte p 4) u m
steps_by Passes c u m p t l = pass u m (perform c p m t l)
steps_by Gates c u m p t l = gate u m (perform c p m t l)

abbrev pub steps : Command → Unit → Deck → List ℕ → List ℕ → List ℕ → Reply Deck
steps c u m p t l = steps_by (kind_of c) c u m p t l

-- "Packets test 1, 2, 3, 4, then the steps below": n is the length of the response memory. "When not loaded, the table isn't looked at."
unfoldable pub refusal_of : Drive → List ℕ → List ℕ → ℕ → ℕ
refusal_of d p t n =
    choose not (eqb (length p) 12) then not_twelve
    else (choose not (is_known_state d) then unknown_state
    else (choose ltb n bound then short_memory
    else (choose is_loaded d.deck and not (is_fit t) then unfit else 0)))

-- the answer to the packet p with the table t, K4's parameter list l and a response memory of n bytes; K6: "Refusal 4 carries that number";
-- K9: no number is tested after the steps (claims' Whole: no full answer passes the bound)
unfoldable pub answer : Drive → List ℕ → List ℕ → List ℕ → ℕ → Reply Deck
answer d p t l n =
    choose eqb (refusal_of d p t n) 0 then steps (decode (code_of p)) d.unit d.deck p t l
    else refuse (refusal_of d p t n) (rule_with (refusal_of d p t n) t) d.unit d.deck
