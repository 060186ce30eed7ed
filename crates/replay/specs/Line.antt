-- The lines that a call prints.
use Rattle.std.specs.Prelude.{ℕ, Bool, List, [], ◌∷◌, eqb, length, take, Result, Ok, Err}
use Rattle.ground.specs.Tests.{choose◌then◌else◌}
use Rattle.ground.specs.Number.{bytes32}
use Rattle.print.specs.Joined.{◌next◌, spaced, line_end}
use Rattle.print.specs.Hex.{hex_byte, shown}
use Rattle.print.specs.Decimal.{decimal}
use Rattle.print.specs.Numbers.{joined}
use Rattle.print.specs.Sum.{adler32}
use Rattle.attention.specs.declared.sense.Sense.{Sense}
use Rattle.play.specs.declared.Play.{Play}
use Rattle.page.specs.declared.Page.{Page}
use Rattle.deck.specs.declared.Deck.{Deck}
use Rattle.drive.specs.declared.state.Drive.{Drive}
use Rattle.disc.specs.Part.{unfit}
use Rattle.outcome.specs.declared.Outcome.{Outcome}
use Rattle.changer.specs.declared.Changer.{Changer}
use Rattle.cue.specs.declared.write.Written.{Written}
use Rattle.shelf.specs.Totals.{numbers_of}
use Rattle.shelf.specs.declared.totals.Totals.{Totals}
use Rattle.shelf.specs.declared.totals.TooLarge.{TooLarge}

-- `0` or `1`
unfoldable pub digit : Bool → ℕ
digit b = choose b then 49 else 48

-- three bytes, each after a space
abbrev pub triple : Sense → List ℕ
triple s = spaced (hex_byte s.key) next spaced (hex_byte s.asc) next spaced (hex_byte s.ascq)

-- tray, disc, lock, power and change, as `0` or `1`
abbrev pub flags : Drive → List ℕ
flags d =
    digit d.deck.tray_open
    ∷ digit d.deck.disc_in
    ∷ digit d.deck.lock
    ∷ digit d.unit.power
    ∷ digit d.unit.change
    ∷ []

-- K2: ` ST POS END` "(two capital hex digits, two decimals)"
unfoldable pub play_text : Play → List ℕ
play_text r = spaced (hex_byte r.status) next spaced (decimal r.position) next spaced (decimal r.end)

-- K4: ` RR CC` "(two hex bytes)"
unfoldable pub page_text : Page → List ℕ
page_text g = spaced (hex_byte g.recovery) next spaced (hex_byte g.retry)

-- what the deck keeps beside its flags; K7: ` E` "(decimal)"
unfoldable pub kept_text : Deck → List ℕ
kept_text m = play_text m.play next page_text m.page next spaced (decimal m.event)

-- "STATE is five digits 0 or 1 and three hex bytes"; K2: and the play record; K4: and the mode page; K7: and the media event
unfoldable pub state_text : Drive → List ℕ
state_text d = spaced (flags d) next triple d.unit.sense next kept_text d.deck

-- the call's letter, and "N .. the refusal's number or 0"
unfoldable pub call : ℕ → ℕ → List ℕ
call letter number = (letter ∷ []) next spaced (decimal number)

-- K6: "where N is 4, in `p` and `s` lines, it is written `4.R`, R the broken rule"
unfoldable pub rule_text : ℕ → ℕ → List ℕ
rule_text number rule = choose eqb number unfit then 46 ∷ decimal rule else []

unfoldable pub ruled_call : ℕ → ℕ → ℕ → List ℕ
ruled_call letter number rule = call letter number next rule_text number rule

-- "SUM the Adler-32 .., as eight capital hex digits"
abbrev pub sum_text : List ℕ → List ℕ
sum_text s = spaced (shown (bytes32 (adler32 s)))

unfoldable pub decimals : ℕ → ℕ → ℕ → List ℕ
decimals a b c = spaced (decimal a) next spaced (decimal b) next spaced (decimal c)

-- `o N STATE`, `b N STATE`, `d N STATE`, `u N STATE`; K3: `q 0 STATE`; K2: `m N STATE`
unfoldable pub moved_line : ℕ → ℕ → Drive → List ℕ
moved_line letter number d = call letter number next state_text d next line_end

-- `p N ST LEN START COUNT`; K11: `P N ST LEN START COUNT`
unfoldable pub outcome_text : ℕ → Outcome Drive → List ℕ
outcome_text letter o = ruled_call letter o.number o.rule next spaced (hex_byte o.status) next decimals o.len o.start o.count

-- `DATA SUM`
unfoldable pub memory_text : List ℕ → List ℕ → List ℕ
memory_text bytes memory = spaced (shown bytes) next sum_text memory next line_end

-- `p N ST LEN START COUNT STATE DATA SUM`
unfoldable pub packet_line : Outcome Drive → List ℕ → List ℕ
packet_line o memory = outcome_text 112 o next state_text o.state next memory_text (take o.len memory) memory

-- K11: "H is decimal, SLOTS two hex digits a slot or `-`"
unfoldable pub slots_text : ℕ → List ℕ → List ℕ
slots_text home slots = spaced (decimal home) next spaced (shown slots)

-- K11: `STATE H SLOTS`
unfoldable pub changer_text : Changer → List ℕ → List ℕ
changer_text c slots = state_text c.drive next slots_text c.home slots

-- K11: `O N STATE H SLOTS`, `Q N STATE H SLOTS`, `M N STATE H SLOTS`
unfoldable pub stood_line : ℕ → ℕ → Changer → List ℕ → List ℕ
stood_line letter number c slots = call letter number next changer_text c slots next line_end

-- K11: `P N ST LEN START COUNT STATE H SLOTS DATA SUM`
unfoldable pub changer_line : Outcome Drive → ℕ → List ℕ → List ℕ → List ℕ
changer_line o home slots memory =
    outcome_text 80 o next changer_text (record { drive = o.state; home = home }) slots next memory_text (take o.len memory) memory

-- `a N M S F`
unfoldable pub msf_line : ℕ → ℕ → ℕ → ℕ → List ℕ
msf_line number m s f = call 97 number next decimals m s f next line_end

-- `c N ADDRESS`
unfoldable pub address_line : ℕ → ℕ → List ℕ
address_line number a = call 99 number next spaced (decimal a) next line_end

-- `LEN SUM`
unfoldable pub summed_text : ℕ → List ℕ → List ℕ
summed_text n s = spaced (decimal n) next sum_text s

-- `s N LEN SUM`
unfoldable pub part_line : ℕ → ℕ → List ℕ → List ℕ
part_line number rule part = ruled_call 115 number rule next summed_text (length part) part next line_end

-- K12: `t N LEN SUM`, "SUM of the whole memory afterwards"
unfoldable pub written_line : Written → List ℕ → List ℕ
written_line w memory = call 116 w.number next summed_text w.len memory next line_end

-- K13: `h` and the thirteen totals, or `h too large`
unfoldable pub totals_line : Totals → List ℕ
totals_line a = (104 ∷ 32 ∷ []) next joined 32 (numbers_of a) next line_end

unfoldable pub counted_line : Result Totals TooLarge → List ℕ
counted_line (Ok a) = totals_line a
counted_line (Err e) = 104 ∷ 32 ∷ 116 ∷ 111 ∷ 111 ∷ 32 ∷ 108 ∷ 97 ∷ 114 ∷ 103 ∷ 101 ∷ 10 ∷ []
