-- 25h, READ CAPACITY, 2Bh, SEEK, 28h and A8h, READ: what they do with blocks; l is L, "the last session's lead-out".
use Rattle.std.specs.Prelude.{ℕ, ◌-◌, Bool, false, List, [], ◌++◌}
use Rattle.ground.specs.Tests.{choose◌then◌else◌}
use Rattle.ground.specs.Number.{bytes32}
use Rattle.deck.specs.declared.Deck.{Deck}
use Rattle.play.specs.Play.{none, with_status}
use Rattle.deck.specs.Deck.{with_play}
use Rattle.gate.specs.declared.fault.Fault.TheVariants.{OutOfRange}
use Rattle.gate.specs.Gate.{Result, fails, goes}
use Rattle.command.specs.Done.{done, answering}
use Rattle.blocks.specs.Range.{over, ranged}

-- "25h: 4 bytes L − 1, 4 bytes 2,048"
abbrev pub capacity : ℕ → List ℕ
capacity l = bytes32 (l - 1) ++ bytes32 2048

-- ".. no allocation length": the whole answer
abbrev pub read_capacity : ℕ → Deck → Result Deck
read_capacity l m = answering false m (capacity l) 8

-- K2: "A GOOD READ or SEEK sets 15h", the status alone
abbrev pub stopped : Deck → Deck
stopped m = with_play m (with_status m.play none)

-- "2Bh: address in bytes 2 to 5, over L − 1 gives 05/21/00."
unfoldable pub seek : ℕ → ℕ → Deck → Result Deck
seek a l m = choose over a l then fails OutOfRange else done (stopped m)

-- READ: "Count 0 passes once the address is in range."; "Start and count are 0 except after a GOOD READ, where they are its address and
-- count." `all` says that every block lies in a data track
abbrev pub read : Bool → ℕ → ℕ → ℕ → Deck → Result Deck
read all a n l m = ranged all a n l (goes (stopped m) false [] 0 a n)
