-- What an access comes to, by the run that the record is in: each way out once, so that a law of all accesses is one of them.
use Rattle.std.specs.Prelude.{ℕ, ◌+◌, ◌<◌, ◌≡◌, Bool, true, false, set, eqb}
use Rattle.std.proofs.Math.Path.{refl}
use Rattle.std.proofs.Common.{ap, arith}
use Rattle.std.proofs.lemmas.Bool.{false≢true}
use Rattle.ground.specs.Tests.{either}
use Rattle.taskfile.specs.declared.TaskFile.{TaskFile}
use Rattle.taskfile.specs.declared.Phase.{Phase}
use Rattle.taskfile.specs.declared.Phase.TheVariants.{Idle, PacketRun, ListRun, AnswerRun}
use Rattle.taskfile.specs.declared.Access.{Access}
use Rattle.taskfile.specs.declared.Access.TheVariants.{Data, Features, CountLow, CountHigh, Drive, Command, Nowhere, Read, Reset}
use Rattle.taskfile.specs.declared.Due.{Due}
use Rattle.taskfile.specs.declared.Due.TheVariants.{Refused, Held, Performs, PerformsListed, Gives, Resets}
use Rattle.taskfile.specs.declared.Turn.{Turn}
use Rattle.taskfile.specs.TaskFile.{takes_list_reason, packet_bytes, list_bytes, bearing, asked, ended, reset}
use Rattle.taskfile.specs.Run.{most_bytes, takes_list, phase_of}
use Rattle.taskfile.specs.RunLaws.{phase_of-answer}
use Rattle.taskfile.specs.Host.{refused_turn, held, limited, begun, passed, gone, packet_end, packet_byte, list_byte, answer_byte, data_turn, read_turn, write_turn, written, turn_of}

-- ---- write_turn

pub write_turn-refused : (s : Phase) (f : TaskFile) → write_turn s f (refused_turn f) ≡ refused_turn f
write_turn-refused Idle f = refl
write_turn-refused PacketRun f = refl
write_turn-refused ListRun f = refl
write_turn-refused AnswerRun f = refl

-- ---- turn_of

module _ (f : TaskFile) (v : ℕ) where
  -- the record with the byte v in its packet, and in its list
  abbrev pub packed : TaskFile
  packed = bearing f (set f.packet f.at v) f.list

  abbrev pub listed : TaskFile
  listed = bearing f f.packet (set f.list f.at v)

  -- what holds of each way out of an access, by the run that it has
  pub record Ways (P : Turn → Type 0) : Type 0 where
    pub refuses : P (refused_turn f)
    pub holds : (a : Access) → phase_of f ≡ Idle → P (held (written f a v))
    pub asks : phase_of f ≡ Idle → P (held (asked f))
    pub takes : phase_of f ≡ PacketRun → eqb (f.at + 1) packet_bytes ≡ false → P (held (passed packed))
    pub asks_list : phase_of f ≡ PacketRun → takes_list packed.packet ≡ true → P (held (begun (limited packed) takes_list_reason list_bytes))
    pub performs : phase_of f ≡ PacketRun → P (record { due = Performs; file = limited packed })
    pub enters : phase_of f ≡ ListRun → eqb (f.at + 1) list_bytes ≡ false → P (held (gone listed))
    pub performs_listed : phase_of f ≡ ListRun → P (record { due = PerformsListed; file = listed })
    pub gives_last : phase_of f ≡ AnswerRun → P (record { due = Gives; file = ended f })
    pub gives_more : phase_of f ≡ AnswerRun → eqb (f.at + 1) f.len ≡ false → P (record { due = Gives; file = gone f })
    pub powers_on : P (record { due = Resets; file = reset f })

  -- holds of what any access comes to
  module _ {P : Turn → Type 0} (w : Ways P) where
    packet-ways : phase_of f ≡ PacketRun → P (packet_byte f v)
    unfolding packet_byte packet_end
    packet-ways h =
        either P (eqb (f.at + 1) packet_bytes) (λ x. either P (takes_list packed.packet) (w.asks_list h) (λ y. w.performs h)) (w.takes h)

    list-ways : phase_of f ≡ ListRun → P (list_byte f v)
    unfolding list_byte
    list-ways h = either P (eqb (f.at + 1) list_bytes) (λ x. w.performs_listed h) (w.enters h)

    answer_ways : phase_of f ≡ AnswerRun → P (answer_byte f)
    unfolding answer_byte
    answer_ways h =
        either (λ (g : TaskFile). P (record { due = Gives; file = g })) (eqb (f.at + 1) f.len) (λ x. w.gives_last h) (w.gives_more h)

    write-ways : (s : Phase) (t : Turn) → (s ≡ Idle → P t) → P (write_turn s f t)
    write-ways Idle t h = h refl
    write-ways PacketRun t h = w.refuses
    write-ways ListRun t h = w.refuses
    write-ways AnswerRun t h = w.refuses

    data-ways : (s : Phase) → phase_of f ≡ s → P (data_turn s f v)
    data-ways Idle h = w.refuses
    data-ways PacketRun h = packet-ways h
    data-ways ListRun h = list-ways h
    data-ways AnswerRun h = w.refuses

    read-ways : (s : Phase) → phase_of f ≡ s → P (read_turn s f)
    read-ways Idle h = w.refuses
    read-ways PacketRun h = w.refuses
    read-ways ListRun h = w.refuses
    read-ways AnswerRun h = answer_ways h

    pub turn_of-ways : (a : Access) → P (turn_of f a v)
    unfolding turn_of
    turn_of-ways Data = data-ways (phase_of f) refl
    turn_of-ways Features = write-ways (phase_of f) _ (w.holds Features)
    turn_of-ways CountLow = write-ways (phase_of f) _ (w.holds CountLow)
    turn_of-ways CountHigh = write-ways (phase_of f) _ (w.holds CountHigh)
    turn_of-ways Drive = write-ways (phase_of f) _ (w.holds Drive)
    turn_of-ways Nowhere = write-ways (phase_of f) _ (w.holds Nowhere)
    turn_of-ways Command = write-ways (phase_of f) _ (λ h. either P (eqb v 0xA0) (λ e. w.asks h) (λ e. w.refuses))
    turn_of-ways Read = read-ways (phase_of f) refl
    turn_of-ways Reset = w.powers_on

-- what is due, by a number: a refusal, a packet to perform, a byte to give, or none of these
abbrev code : Due → ℕ
code Refused = 0
code Held = 3
code Performs = 1
code PerformsListed = 1
code Gives = 2
code Resets = 3

abbrev pub is_refused : Due → Bool
is_refused e = eqb (code e) 0

abbrev pub is_performed : Due → Bool
is_performed e = eqb (code e) 1

abbrev pub is_given : Due → Bool
is_given e = eqb (code e) 2

-- a byte of the answer is due in a run of the answer alone, so the record has a next byte, one of a response memory
pub turn_of-gives : (f : TaskFile) (a : Access) (v : ℕ) → (turn_of f a v).due ≡ Gives → f.at < most_bytes
turn_of-gives f a v h =
    let n = phase_of-answer f (turn_of-ways f v {P = Answers} each a (ap is_given h)) in
    let l = n.0 in
    let m = n.1 in
    omega arith
  where
    Answers : Turn → Type 0
    Answers t = is_given t.due ≡ true → phase_of f ≡ AnswerRun

    each : Ways f v Answers
    each = record {
      refuses = λ e. absurd (false≢true e);
      holds = λ a s e. absurd (false≢true e);
      asks = λ s e. absurd (false≢true e);
      takes = λ s x e. absurd (false≢true e);
      asks_list = λ s x e. absurd (false≢true e);
      performs = λ s e. absurd (false≢true e);
      enters = λ s x e. absurd (false≢true e);
      performs_listed = λ s e. absurd (false≢true e);
      gives_last = λ s e. s;
      gives_more = λ s x e. s;
      powers_on = λ e. absurd (false≢true e);
    }
