-- `shelf::content::held_by` meets its contract: each turn adds one session more, by its tracks' lengths and by the gap before it, and all of them
-- come to the blocks counted one by one (`summed-all`).
use Rattle.shelf.specs.ContentLaws.{Summed}
use Rattle.shelf.proofs.content.held_by.Given as goal

abbrev pub invariant-loop : goal.invariant-loop
invariant-loop l = Summed l.t l.counter l.at l.out l.of_data l.of_none
