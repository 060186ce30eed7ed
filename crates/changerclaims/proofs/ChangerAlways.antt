-- Demand 1 over histories of the changer, where each call is lent the slots that the one before left: from power-on, over any calls, no state
-- meets refusal 2, and none meets 11 where there are 1 to 31 slots. K11: "the discs in slots and drive keep their total over every packet":
-- over any run of them.
use Rattle.std.specs.Prelude.{◌≡◌, refl, Bool, true, List, [], ◌∷◌, ℕ, ◌+◌, ◌≤◌, length}
use Rattle.std.proofs.Common.{ap, ◌∙◌, true≢false, le-leb}
use Rattle.ground.specs.Tests.{either, and_both}
use Rattle.drive.specs.declared.state.Moved.{Moved}
use Rattle.drive.specs.State.{is_known_state, move_on}
use Rattle.claims.specs.Call.{Form, by_default, without_change}
use Rattle.claims.specs.History.{None, end, but}
use Rattle.changer.specs.declared.Changer.{Changer}
use Rattle.changer.specs.Changer.{is_in_order, moves_on}
use Rattle.changer.specs.ChangerPacket.{mechanism_of}
use Rattle.changerclaims.specs.ChangerCall.{Call, powering, moving_on, packet, is_powering, Board, final_on}
use Rattle.changerclaims.specs.ChangerDiscs.{one, discs_in, discs}
use Rattle.changerclaims.proofs.ChangerKeptLaws.{Order, is_in_order_order}
use Rattle.changerclaims.proofs.ChangerKept.{changer-discs}
use Rattle.changerclaims.proofs.ChangerKnown.{changer_known_power, changer_known-next, changer_known_move, changer_order_power, changer_order-next, changer_order_move}
use Rattle.changerclaims.specs.ChangerAlways.{after, Known, InOrder}

-- what each call keeps a run of calls keeps
run_keeps : (P : Board → Type 0) → ((c : Call) (b : Board) → P b → P (after c b)) → (calls : List Call) (b : Board) → P b → P (final_on b calls)
run_keeps P f [] b h = h
run_keeps P f (c ∷ calls) b h = run_keeps P f calls (after c b) (f c b h)

power_known : (f : Form) (b : Board) → Known (after (powering f) b)
power_known by_default b = (changer_known_power b.state).0
power_known without_change b = (changer_known_power b.state).1

call_known : (c : Call) (b : Board) → Known b → Known (after c b)
call_known (powering f) b h = power_known f b
call_known (moving_on k) b h = changer_known_move k b.state h
call_known (packet p t l m s) b h = changer_known-next b.state b.memory.slots p t l (length b.memory.response) h

pub changer_known_always : (f : Form) (b : Board) (calls : List Call) → is_known_state (final_on b (powering f ∷ calls)).state.drive ≡ true
changer_known_always f b calls = run_keeps Known call_known calls (after (powering f) b) (power_known f b)

power_order : (f : Form) (b : Board) → 1 ≤ length b.memory.slots → length b.memory.slots ≤ 31 → InOrder (after (powering f) b)
power_order by_default b h k = (changer_order_power b.state b.memory.slots).0 ∙ and_both _ _ (le-leb _ _ h) (le-leb _ _ k)
power_order without_change b h k = (changer_order_power b.state b.memory.slots).1 ∙ and_both _ _ (le-leb _ _ h) (le-leb _ _ k)

call_order : (c : Call) (b : Board) → InOrder b → InOrder (after c b)
call_order (powering f) b h = let o : Order (mechanism_of b.state b.memory.slots) = is_in_order_order _ _ h in power_order f b o.some o.few
call_order (moving_on k) b h = changer_order_move k b.state b.memory.slots h
call_order (packet p t l m s) b h = changer_order-next b.state b.memory.slots p t l (length b.memory.response) h

pub changer_order_always : (f : Form) (b : Board) (calls : List Call) → 1 ≤ length b.memory.slots → length b.memory.slots ≤ 31 →
    let e : Board = final_on b (powering f ∷ calls) in
    is_in_order e.state e.memory.slots ≡ true
changer_order_always f b calls h k = run_keeps InOrder call_order calls (after (powering f) b) (power_order f b h k)

move-disc : (k : ℕ) (c : Changer) → (moves_on k c).state.drive.deck.disc_in ≡ c.drive.deck.disc_in
unfolding moves_on move_on
move-disc k c = either (λ (r : Moved). r.state.deck.disc_in ≡ c.drive.deck.disc_in) (is_known_state c.drive) (λ h. refl) (λ h. refl)

-- over any calls but power-on, which takes an empty drive
pub changer_discs_always : (b : Board) (calls : List Call) → None is_powering calls →
    let e : Board = final_on b calls in
    discs e.state e.memory.slots ≡ discs b.state b.memory.slots
changer_discs_always b [] end = refl
changer_discs_always b (powering f ∷ calls) (but h n) = absurd (true≢false h)
changer_discs_always b (moving_on k ∷ calls) (but h n) =
    changer_discs_always (after (moving_on k) b) calls n ∙ ap (λ (d : Bool). discs_in b.memory.slots + one d) (move-disc k b.state)
changer_discs_always b (packet p t l m s ∷ calls) (but h n) =
    changer_discs_always (after (packet p t l m s) b) calls n
    ∙ changer-discs b.state b.memory.slots p t l (length b.memory.response)
