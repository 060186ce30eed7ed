-- 4Ah, GET EVENT STATUS NOTIFICATION: the answer, and what is left waiting after it.
use Rattle.std.specs.Prelude.{ℕ, min, Bool, not, List, [], ◌∷◌, length, eqb, leb}
use Rattle.ground.specs.Tests.{◌and◌, choose◌then◌else◌}
use Rattle.deck.specs.declared.Deck.{Deck}
use Rattle.deck.specs.Deck.{no_event, with_event}
use Rattle.gate.specs.Gate.{Result}
use Rattle.command.specs.Command.{byte, bit0}
use Rattle.command.specs.Done.{answering}
use Rattle.event.specs.EventClass.{media, supported, no_class, class_for}

-- "status (bit 1 disc in, bit 0 tray open)"
unfoldable pub media_status : Deck → ℕ
media_status m =
    choose m.disc_in then (choose m.tray_open then 0x03 else 0x02) else (choose m.tray_open then 0x01 else 0x00)

-- "the class external always reports zeros": what each class reports as its event and its status
unfoldable pub event_of : ℕ → Deck → ℕ
event_of class m = choose eqb class media then m.event else 0

unfoldable pub status_of : ℕ → Deck → ℕ
status_of class m = choose eqb class media then media_status m else 0

-- "The answer is 00 06, class, 18, event, status .., 00 00"
abbrev pub class_bytes : ℕ → Deck → List ℕ
class_bytes class m = 0x00 ∷ 0x06 ∷ class ∷ supported ∷ event_of class m ∷ status_of class m ∷ 0 ∷ 0 ∷ []

-- "With none supported: 00 02 80 18."
abbrev pub none_bytes : List ℕ
none_bytes = 0x00 ∷ 0x02 ∷ 0x80 ∷ supported ∷ []

-- the full answer
unfoldable pub event_bytes : ℕ → Deck → List ℕ
event_bytes class m = choose eqb class no_class then none_bytes else class_bytes class m

-- "A media answer of at least five bytes clears the event": `given` counts the bytes that are given
unfoldable pub cleared : ℕ → ℕ → Deck → Deck
cleared class given m = choose eqb class media and leb 5 given then with_event m no_event else m

-- the same, read off a full answer, `limit` bytes of it being asked for: it shows the class media, and at least five are given
abbrev pub is_clearing : List ℕ → ℕ → Bool
is_clearing full limit = eqb (byte full 2) media and leb 5 (min limit (length full))

-- "Polled bit clear is 05/24/00": b1 is the packet's byte 1, asked its byte 4, limit its allocation length
abbrev pub get_event : ℕ → ℕ → ℕ → Deck → Result Deck
get_event b1 asked limit m =
    let class = class_for asked m.event in
    let full = event_bytes class m in
    answering (not (bit0 b1)) (cleared class (min limit (length full)) m) full limit
