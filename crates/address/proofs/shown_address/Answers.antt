-- `address::shown_address` meets its contract: each case of the conversion's answer shows that answer's three numbers.
use mathlib.Core.Path.{sym, ap, ◌∙◌}
use mathlib.Core.List.{List, [], ◌∷◌}
use Prim.Native.Nat.{ℕ}
use Rattle.ground.specs.Tests.{when, unless}
use Rattle.address.specs.Address.{MsfAnswer, shown_address}
use Rattle.address.proofs.shown_address.Goals as goal

fields : MsfAnswer → List ℕ
fields r = 0 ∷ r.minute ∷ r.second ∷ r.frame ∷ []

pub returns-then-not-msf : goal.returns-then-not-msf
unfolding shown_address
returns-then-not-msf c = c.bytes32.ensures ∙ sym (unless _ _ _ c.if-not-msf.true)

pub returns-in-Ok : goal.returns-in-Ok
unfolding shown_address fields
returns-in-Ok c = ap fields c.in-Ok.ensures ∙ sym (when _ _ _ c.if-not-msf.false)

pub returns-in-Err : goal.returns-in-Err
unfolding shown_address fields
returns-in-Err c = ap fields c.in-Err.ensures ∙ sym (when _ _ _ c.if-not-msf.false)
