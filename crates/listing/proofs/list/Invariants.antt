-- `listing::list` meets its contract: each turn takes the next twelve bytes, and its packet meets the state that the one before left.
use Rattle.std.proofs.Common.{◌≡◌, ◌*◌, ◌≤◌, length, drop}
use Rattle.listing.specs.Run.{state_after}
use Rattle.listing.proofs.list.Given as goal

abbrev pub invariant-loop-p : goal.invariant-loop-p
invariant-loop-p l = record {
  size : l.p-iterator.size ≡ 12;
  rest : l.p-iterator.rest.now ≡ drop (12 * l.met) l.packets;
  few : 12 * l.met ≤ 49164;
  memory : length l.mem ≡ length l.initial.mem;
  state : l.state ≡ state_after l.table l.packets l.met;
}
