-- What a command comes to: with no answer, or with one; and what the code hands back of it.
use Rattle.std.specs.Prelude.{ℕ, min, ◌≡◌, Bool, true, false, List, [], length, Result as Answer, Ok, Err}
use Rattle.ground.specs.Tests.{choose◌then◌else◌, when, unless}
use Rattle.deck.specs.declared.Deck.{Deck}
use Rattle.gate.specs.declared.fault.Fault.{Fault}
use Rattle.gate.specs.declared.fault.Fault.TheVariants.{BadField}
use Rattle.gate.specs.Gate.{Result, fails, goes}
use Rattle.command.specs.declared.done.Went.{Went}

-- "A command with no answer described below writes no bytes."
abbrev pub done : Deck → Result Deck
done m = goes m false [] 0 0 0

-- a command with an answer: a field in the packet is bad, 05/24/00, or the full answer is given, `limit` bytes of it being asked for
unfoldable pub answering : Bool → Deck → List ℕ → ℕ → Result Deck
answering bad next full limit = choose bad then fails BadField else goes next false full limit 0 0

module _ (next : Deck) (full : List ℕ) (limit : ℕ) where
  pub answering-fails : {bad : Bool} → bad ≡ true → answering bad next full limit ≡ fails BadField
  unfolding answering
  answering-fails h = when _ _ _ h

  pub answering-goes : {bad : Bool} → bad ≡ false → answering bad next full limit ≡ goes next false full limit 0 0
  unfolding answering
  answering-goes h = unless _ _ _ h

-- what the code hands back: what went well, or the fault
abbrev pub Done : Type 0
Done = Answer Went Fault

-- a deck alone: no loading, nothing written, no blocks named
abbrev pub went_with : Deck → Went
went_with m = record { next = m; loading = false; len = 0; start = 0; count = 0 }

-- what it hands back of a result: how many bytes of the full answer go out, "the smaller of the two lengths"
abbrev pub done_of : Result Deck → Done
done_of (fails f) = Err f
done_of (goes next loading full limit start count) =
    Ok (record { next = next; loading = loading; len = min limit (length full); start = start; count = count })
