-- K2: "The state gains a play record: status, position, end."
use Rattle.std.specs.Prelude.{ℕ, ◌+◌, min, Bool, eqb, leb}
use Rattle.ground.specs.Tests.{◌and◌, ◌or◌, choose◌then◌else◌}
use Rattle.address.specs.Address.{last}
use Rattle.play.specs.declared.Play.{Play}

-- "Status codes are 11h playing, 12h paused, 13h completed, 15h none"
abbrev pub playing : ℕ
playing = 0x11

abbrev pub paused : ℕ
paused = 0x12

abbrev pub completed : ℕ
completed = 0x13

abbrev pub none : ℕ
none = 0x15

abbrev pub play_of : ℕ → ℕ → ℕ → Play
play_of s p e = record { status = s; position = p; end = e }

-- "Power-on, loading and opening set 15h, position 0 and end 0"
abbrev pub no_play : Play
no_play = play_of none 0 0

-- the record with that status: position and end stay
abbrev pub with_status : Play → ℕ → Play
with_status r s = play_of s r.position r.end

-- the status is one of the four
unfoldable pub is_status : ℕ → Bool
is_status s = eqb s playing or eqb s paused or eqb s completed or eqb s none

-- "2 also covers another status, a position past its end, or an end over 449,849": none of that
unfoldable pub is_play : Play → Bool
is_play r = is_status r.status and leb r.position r.end and leb r.end last

-- "moves a playing position on by k blocks, at most to the end"
abbrev pub onward : ℕ → Play → ℕ
onward k r = min (r.position + k) r.end

-- "where the status becomes 13h", wherever the new position is the end, of k = 0 too; "in any other status it changes nothing"
unfoldable pub moved_on : ℕ → Play → Play
moved_on k r =
    choose eqb r.status playing
    then play_of (choose eqb (onward k r) r.end then completed else playing) (onward k r) r.end
    else r
