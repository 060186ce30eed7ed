-- Demand 1, of the states that this drive hands back: from power-on, over any calls, refusal 2 meets none of them.
use Rattle.std.specs.Prelude.{◌≡◌, true, false, List, ◌∷◌, ◌≤◌, eqb}
use Rattle.std.proofs.Common.{leb-true}
use Rattle.address.specs.Address.{last}
use Rattle.drive.specs.declared.state.Drive.{Drive}
use Rattle.play.specs.Play.{is_status}
use Rattle.page.specs.Page.{settings, among, is_setting}
use Rattle.drive.specs.State.{is_known_state}
use Rattle.drive.specs.StateLaws.{is_known_state_deck}
use Rattle.claims.specs.Call.{Form, Call, powering, answer, next, final}
use Rattle.claims.proofs.KnownLaws.{power_state, call_state, known-final, known_never_2}

-- power-on, in either form, hands back such a state, whatever it was handed
pub known_power : (f : Form) (d : Drive) → is_known_state (next (powering f) d) ≡ true
known_power = power_state

-- and any call does, where it was handed one
pub known_next : (c : Call) (d : Drive) → is_known_state d ≡ true → is_known_state (next c d) ≡ true
known_next = call_state

-- so the state is one after a power-on and any calls
pub known_always : (f : Form) (handed : Drive) (calls : List Call) → is_known_state (final handed (powering f ∷ calls)) ≡ true
known_always f handed calls = known-final calls _ (power_state f handed)

-- and no call then gives 2
pub known_not_2 : (f : Form) (handed : Drive) (calls : List Call) (c : Call)
    → eqb (answer c (final handed (powering f ∷ calls))).number 2 ≡ false
known_not_2 f handed calls c = known_never_2 c _ (known_always f handed calls)

-- K2's part of it: the status is one of the four, the position at most the end, the end at most 449,849
pub known_record : (f : Form) (handed : Drive) (calls : List Call) →
    let r = (final handed (powering f ∷ calls)).deck.play in
    (is_status r.status ≡ true) × (r.position ≤ r.end) × (r.end ≤ last)
known_record f handed calls = let s = (is_known_state_deck _ (known_always f handed calls)).play in (s.status, s.within, s.most)

-- K4's: the recovery byte is one of the twenty
pub known-page : (f : Form) (handed : Drive) (calls : List Call) → among settings (final handed (powering f ∷ calls)).deck.page.recovery ≡ true
unfolding is_setting
known-page f handed calls = (is_known_state_deck _ (known_always f handed calls)).page

-- K7's: the event is not over 3
pub known-event : (f : Form) (handed : Drive) (calls : List Call) → (final handed (powering f ∷ calls)).deck.event ≤ 3
known-event f handed calls = leb-true _ _ (is_known_state_deck _ (known_always f handed calls)).event
