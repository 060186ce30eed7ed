-- The states of the listing's run, one packet after the other.
use Rattle.std.specs.Prelude.{ℕ, ◌+◌, ◌*◌, ◌≡◌, refl, List, [], length, take, drop}
use Rattle.std.proofs.Common.{sym, ap, ◌∙◌, add-one}
use Rattle.drive.specs.declared.state.Drive.{Drive}
use Rattle.table.specs.Layout.{bound}
use Rattle.outcome.specs.declared.Outcome.{Outcome}
use Rattle.outcome.specs.Outcome.{state_of, Answered}
use Rattle.target.specs.Packet.{answer}
use Rattle.listing.specs.Run.{loaded, packet_at, state_after}

-- before the first packet
pub state_after-none : (t f : List ℕ) → state_after t f 0 ≡ loaded
unfolding state_after
state_after-none t f = refl

-- after one packet more, with the counter as the code has it
pub state_after_more : (t f : List ℕ) (n : ℕ) → state_after t f (n + 1) ≡ state_of (answer (state_after t f n) (packet_at f n) t [] bound)
unfolding state_after
state_after_more t f n = rw add-one

-- one packet more: what meets the packet's promise hands back the next of these states
pub state_after_met :
    (t f : List ℕ) (n : ℕ) (d : Drive) {at : ℕ} {p m m' : List ℕ} {o : Outcome Drive}
    → at ≡ 12 * n → d ≡ state_after t f n → p ≡ take 12 (drop at f) → length m ≡ bound → Answered (answer d p t [] (length m)) m o m'
    → o.state ≡ state_after t f (n + 1)
state_after_met t f n d {at} {p} {m} x y z w a =
    let e : state_of (answer d p t [] (length m)) ≡ state_of (answer (state_after t f n) (packet_at f n) t [] bound)
    = rw (y, z, w, x) in
    ap (λ (r : Outcome Drive). r.state) a.outcome ∙ e ∙ sym (state_after_more t f n)
