-- A packet's line: "its number, status, sense held afterwards (three, hex), byte count, bytes in hex or -, start, count".
use Rattle.std.specs.Prelude.{ℕ, ◌+◌, ◌*◌, ◌≤◌, List, [], ◌∷◌, eqb, length}
use Rattle.std.proofs.Common.{arith, length-append}
use Rattle.ground.specs.Tests.{choose◌then◌else◌, either}
use Rattle.print.specs.Joined.{◌next◌, spaced, line_end}
use Rattle.print.specs.Hex.{hex_byte, shown, shown-length}
use Rattle.print.specs.Decimal.{decimal, decimal-length}
use Rattle.table.specs.Layout.{bound}
use Rattle.disc.specs.Part.{unfit}
use Rattle.attention.specs.declared.sense.Sense.{Sense}
use Rattle.drive.specs.declared.state.Drive.{Drive}
use Rattle.outcome.specs.declared.Outcome.{Outcome}

-- three bytes, each after a space
abbrev pub triple : Sense → List ℕ
triple s = spaced (hex_byte s.key) next spaced (hex_byte s.asc) next spaced (hex_byte s.ascq)

-- " refused"
abbrev pub refused_word : List ℕ
refused_word = 32 ∷ 114 ∷ 101 ∷ 102 ∷ 117 ∷ 115 ∷ 101 ∷ 100 ∷ []

-- "start, count"
unfoldable pub blocks : Outcome Drive → List ℕ
blocks o = spaced (decimal o.start) next spaced (decimal o.count)

-- "byte count, bytes in hex or -, start, count"
unfoldable pub yielded : Outcome Drive → List ℕ → List ℕ
yielded o bytes = spaced (decimal o.len) next spaced (shown bytes) next blocks o

-- "its number, status, sense held afterwards (three, hex)"
unfoldable pub started : ℕ → Outcome Drive → List ℕ
started n o = decimal n next spaced (hex_byte o.status) next triple o.state.unit.sense

unfoldable pub answered : ℕ → Outcome Drive → List ℕ → List ℕ
answered n o bytes = started n o next yielded o bytes next line_end

-- K6: "the listing program prints it after the 4": the broken rule, and nothing after another number
unfoldable pub rule_shown : ℕ → ℕ → List ℕ
rule_shown number rule = choose eqb number unfit then spaced (decimal rule) else []

unfoldable pub refusal : ℕ → ℕ → List ℕ
refusal number rule = refused_word next spaced (decimal number) next rule_shown number rule

-- "A call refusal prints the number, "refused" and the refusal's number"
unfoldable pub refused : ℕ → ℕ → ℕ → List ℕ
refused n number rule = decimal n next refusal number rule next line_end

-- packet n's line, of its outcome and the bytes that it wrote
unfoldable pub line_of : ℕ → Outcome Drive → List ℕ → List ℕ
line_of n o bytes = choose eqb o.number 0 then answered n o bytes else refused n o.number o.rule

-- ---- no line is longer than the memory that the program lends for it

blocks-length : (o : Outcome Drive) → length (blocks o) ≤ 42
unfolding blocks
blocks-length o =
    rw length-append (let a = decimal-length o.start in let b = decimal-length o.count in omega arith)

yielded-length : (o : Outcome Drive) (bytes : List ℕ) → length (yielded o bytes) ≤ 65 + 2 * length bytes
unfolding yielded
yielded-length o bytes =
    let a = decimal-length o.len in
    let b = shown-length bytes in
    let c = blocks-length o in
    simp length-append (omega arith)

started-length : (n : ℕ) (o : Outcome Drive) → length (started n o) ≤ 32
unfolding started
started-length n o = let a = decimal-length n in simp length-append (omega arith)

answered-length : (n : ℕ) (o : Outcome Drive) (bytes : List ℕ) → length (answered n o bytes) ≤ 98 + 2 * length bytes
unfolding answered
answered-length n o bytes =
    let a = started-length n o in
    let b = yielded-length o bytes in
    simp length-append (omega arith)

rule_shown-length : (number rule : ℕ) → length (rule_shown number rule) ≤ 21
unfolding rule_shown
rule_shown-length number rule =
    either (λ (x : List ℕ). length x ≤ 21) (eqb number unfit) (λ _. let a = decimal-length rule in omega arith) (λ _. omega arith)

refused-length : (n number rule : ℕ) → length (refused n number rule) ≤ 71
unfolding refused refusal
refused-length n number rule =
    let a = decimal-length n in
    let b = decimal-length number in
    let c = rule_shown-length number rule in
    simp length-append (omega arith)

pub line_fits : (n : ℕ) (o : Outcome Drive) (bytes : List ℕ) → length bytes ≤ bound → length (line_of n o bytes) ≤ 14000
unfolding line_of
line_fits n o bytes h =
    either
    (λ (x : List ℕ). length x ≤ 14000)
    (eqb o.number 0)
    (λ _. let k = answered-length n o bytes in omega arith)
    (λ _. let k = refused-length n o.number o.rule in omega arith)
