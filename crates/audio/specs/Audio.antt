-- 45h, PLAY AUDIO(10), and 4Bh, PAUSE/RESUME; l is L, "the last session's lead-out".
use Rattle.std.specs.Prelude.{ℕ, ◌+◌, Bool, eqb}
use Rattle.ground.specs.Tests.{◌or◌, choose◌then◌else◌}
use Rattle.deck.specs.declared.Deck.{Deck}
use Rattle.play.specs.Play.{playing, paused, completed, none, play_of, with_status}
use Rattle.deck.specs.Deck.{with_play}
use Rattle.gate.specs.declared.fault.Fault.TheVariants.{BadField}
use Rattle.gate.specs.Gate.{Result, fails}
use Rattle.command.specs.Done.{done}
use Rattle.blocks.specs.Range.{ranged}

-- "A GOOD PLAY sets 11h, start, and start plus count as end, but count 0 leaves the record"
unfoldable pub started : ℕ → ℕ → Deck → Deck
started a n m = choose eqb n 0 then m else with_play m (play_of playing a (a + n))

-- "range and 05/64/00 follow READ with audio in place of data": `all` says that every block lies in an audio track. FFFFFFFFh is an
-- address like any other; the answer names no blocks
abbrev pub play : Bool → ℕ → ℕ → ℕ → Deck → Result Deck
play all a n l m = ranged all a n l (done (started a n m))

-- "Pause or resume under 13h or 15h is 05/24/00": there is nothing to pause or resume
unfoldable pub is_over : ℕ → Bool
is_over status = eqb status completed or eqb status none

-- 004 byte 8 bit 0, Resume
abbrev pub resumed : Bool → ℕ
resumed resume = choose resume then playing else paused

-- ".. and changes nothing where it already holds": the status is set again
unfoldable pub pause_resume : Bool → Deck → Result Deck
pause_resume resume m =
    choose is_over m.play.status then fails BadField else done (with_play m (with_status m.play (resumed resume)))
