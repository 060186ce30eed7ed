-- What the table's rule gives at each code, that a command's class stands for that command, and that a command has one code.
use Rattle.std.specs.Prelude.{◌≡◌, refl, Bool, true, false, List, ◌⊎◌, ℕ, ◌<◌, eqb}
use Rattle.std.proofs.Common.{sym, ap, ◌∙◌, inl, inr, ⊎_elim, eq-eqb, ne_eqb, eqb-true}
use Rattle.std.proofs.lemmas.Bool.{false≢true}
use Rattle.ground.specs.Tests.{choose◌then◌else◌, either, every-at}
use Rattle.command.specs.declared.decode.Command.{Command}
use Rattle.command.specs.declared.decode.Command.TheVariants.{TestUnitReady, RequestSense, Inquiry, StartStop, Prevent, ReadCapacity, Read10, Seek, ReadToc, Read12, PlayAudio, PauseResume, ReadSubChannel, ModeSense, ModeSelect, GetEvent, Unknown}
use Rattle.command.specs.Command.{decode}
use Rattle.command.specs.Class.{class_of, class_at, row_at, keeps_rule, with_class, command_of}

-- a table that keeps the rule has at each code the command of that code's class
pub row_at_ruled : (rows : List Command) → keeps_rule rows ≡ true → (code : ℕ) → code < 256 → class_of (row_at rows code) ≡ class_at code
unfolding row_at
row_at_ruled rows h code l = eqb-true _ _ (every-at _ _ h code l)

-- a command's class stands for that command
pub command_of_class : (c : Command) → command_of (class_of c) ≡ c
unfolding with_class class_of choose◌then◌else◌
command_of_class Unknown = refl
command_of_class TestUnitReady = refl
command_of_class RequestSense = refl
command_of_class Inquiry = refl
command_of_class StartStop = refl
command_of_class Prevent = refl
command_of_class ReadCapacity = refl
command_of_class Read10 = refl
command_of_class Seek = refl
command_of_class ReadToc = refl
command_of_class Read12 = refl
command_of_class PlayAudio = refl
command_of_class PauseResume = refl
command_of_class ReadSubChannel = refl
command_of_class ModeSense = refl
command_of_class ModeSelect = refl
command_of_class GetEvent = refl

-- ---- a command's own code

-- the code of each command; that of "unknown" is no byte
abbrev pub code_for : Command → ℕ
code_for Unknown = 0x100
code_for TestUnitReady = 0x00
code_for RequestSense = 0x03
code_for Inquiry = 0x12
code_for StartStop = 0x1B
code_for Prevent = 0x1E
code_for ReadCapacity = 0x25
code_for Read10 = 0x28
code_for Seek = 0x2B
code_for ReadToc = 0x43
code_for Read12 = 0xA8
code_for PlayAudio = 0x45
code_for PauseResume = 0x4B
code_for ReadSubChannel = 0x42
code_for ModeSense = 0x5A
code_for ModeSelect = 0x55
code_for GetEvent = 0x4A

decode-code_for : (c : Command) → decode (code_for c) ≡ c
unfolding decode choose◌then◌else◌
decode-code_for Unknown = refl
decode-code_for TestUnitReady = refl
decode-code_for RequestSense = refl
decode-code_for Inquiry = refl
decode-code_for StartStop = refl
decode-code_for Prevent = refl
decode-code_for ReadCapacity = refl
decode-code_for Read10 = refl
decode-code_for Seek = refl
decode-code_for ReadToc = refl
decode-code_for Read12 = refl
decode-code_for PlayAudio = refl
decode-code_for PauseResume = refl
decode-code_for ReadSubChannel = refl
decode-code_for ModeSense = refl
decode-code_for ModeSelect = refl
decode-code_for GetEvent = refl

-- a code is unknown, or its command's own
decode-code : (n : ℕ) → (decode n ≡ Unknown) ⊎ (n ≡ code_for (decode n))
unfolding decode
decode-code n =
    either P _ (own 0x00) (λ _. either P _ (own 0x03) (λ _. either P _ (own 0x12) (λ _. either P _ (own 0x1B) (λ _.
    either P _ (own 0x1E) (λ _. either P _ (own 0x25) (λ _. either P _ (own 0x28) (λ _. either P _ (own 0x2B) (λ _.
    either P _ (own 0x43) (λ _. either P _ (own 0xA8) (λ _. either P _ (own 0x45) (λ _. either P _ (own 0x4B) (λ _.
    either P _ (own 0x42) (λ _. either P _ (own 0x5A) (λ _. either P _ (own 0x55) (λ _. either P _ (own 0x4A) (λ _. inl refl))))))))))))))))
  where
    P : Command → Type 0
    P c = (c ≡ Unknown) ⊎ (n ≡ code_for c)

    own : (k : ℕ) {c : Command} → eqb n k ≡ true → (c ≡ Unknown) ⊎ (n ≡ k)
    own k h = inr (eqb-true n k h)

-- two commands of one class are one
pub class_of-one : {a b : Command} → class_of a ≡ class_of b → a ≡ b
class_of-one {a} {b} e = sym (command_of_class a) ∙ ap command_of e ∙ command_of_class b

-- a code is a command's exactly when it decodes to it
pub decode_is : (c : Command) → eqb (class_of c) 0 ≡ false → (n : ℕ) → eqb n (code_for c) ≡ eqb (class_of (decode n)) (class_of c)
unfolding class_of
decode_is c u n = go (eqb n (code_for c)) refl
  where
    known : class_of (decode n) ≡ class_of c → n ≡ code_for c
    known e = ⊎_elim
        (λ z. absurd (false≢true (sym u ∙ eq-eqb (class_of c) 0 (sym e ∙ ap class_of z))))
        (λ z. z ∙ ap code_for (class_of-one {a = decode n} {b = c} e))
        (decode-code n)

    go : (b : Bool) → eqb n (code_for c) ≡ b → eqb n (code_for c) ≡ eqb (class_of (decode n)) (class_of c)
    go true h = h ∙ sym (eq-eqb _ _ (ap class_of (ap decode (eqb-true n (code_for c) h) ∙ decode-code_for c)))
    go false h = h ∙ sym (ne_eqb _ _ (λ e. false≢true (sym h ∙ eq-eqb n (code_for c) (known e))))
