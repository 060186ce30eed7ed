-- K14's refusals: "15 exactly for ..; the record stays as it was"; "A refusal by the target is handed on and ends the transfer"; and what an
-- access does that is never refused. Of every record, byte, drive state, table and response memory, by what is due at the access.
use Rattle.std.specs.Prelude.{ℕ, ◌≡◌, Bool, true, not, List, length, eqb, leb}
use Rattle.std.proofs.Math.Path.{refl, ap}
use Rattle.std.proofs.Common.{sym, ◌∙◌}
use Rattle.ground.specs.Tests.{◌and◌, ◌or◌, choose◌then◌else◌, and_assoc}
use Rattle.drive.specs.declared.state.Drive.{Drive}
use Rattle.drive.specs.State.{power_on}
use Rattle.taskfile.specs.declared.TaskFile.{TaskFile}
use Rattle.taskfile.specs.declared.Phase.TheVariants.{Idle, PacketRun}
use Rattle.taskfile.specs.declared.Access.{Access}
use Rattle.taskfile.specs.declared.Access.TheVariants.{Data, Features, CountLow, CountHigh, Drive as ToDrive, Command, Nowhere, Read, Reset}
use Rattle.taskfile.specs.TaskFile.{holding}
use Rattle.taskfile.specs.Run.{is_packet_run, is_list_run, is_answer_run, phase_of, left_of}
use Rattle.taskfile.specs.RunLaws.{ended-idle}
use Rattle.taskfile.specs.Host.{access_of, turn_of}
use Rattle.registers.specs.declared.Stepped.{Stepped}
use Rattle.registers.specs.Registers.{step_of, memory_of}
use Rattle.registerclaims.specs.RegisterTurn.{number_of, reads_data, is_out_of_turn, is_completing, packet_at, list_at, reply_at}
use Rattle.registerclaims.proofs.RegisterTurnLaws.{turn-due, turn-lengths}
use Rattle.registerclaims.proofs.RegisterRefusalLaws.{Handed, step-15, step-beside, step-handed, refused-step, read-3, read_short, turn-performed, reply_ends}
use Rattle.registerclaims.specs.RegisterRefused.{leaves, HandedOn, asked_file}
use Rattle.registerclaims.specs.RegisterRefused as said

-- ---- the accesses

-- each of them has a number that is read as it
pub register_access : (a : Access) → access_of (number_of a) ≡ a
unfolding access_of choose◌then◌else◌
register_access Data = refl
register_access Features = refl
register_access CountLow = refl
register_access CountHigh = refl
register_access ToDrive = refl
register_access Command = refl
register_access Read = refl
register_access Reset = refl
register_access Nowhere = refl

module _ (f : TaskFile) (v : ℕ) (d : Drive) (t m : List ℕ) where
  abbrev gives : Access → ℕ → Bool
  gives = said.gives f v d t m

  abbrev is_state : Bool
  is_state = said.is_state f v d t m

  abbrev is_under : Bool
  is_under = said.is_under f v d t m

  abbrev is_unfit : Bool
  is_unfit = said.is_unfit f v d t m

  -- ---- which number

  -- "Refusals: 15 exactly for a data read outside answer runs, a data write outside packet and list runs, a command other than A0h, or any
  -- other write before status has ended a transfer"
  pub register-refused-15 : (a : Access) → gives a 15 ≡ is_out_of_turn f v a
  unfolding step_of
  register-refused-15 a = step-15 f (turn_of f a v).file d t m (turn_of f a v).due ∙ (turn-due f v a).refuses

  -- "A data read in an answer run with response memory under 6,538 bytes is refused by 3"; "15 is tested before 3"
  pub register-refused-3 : gives Read 3 ≡ is_answer_run f and is_under
  register-refused-3 = read-3 f v d t m

  -- K6: "Refusal 4 carries that number to every caller": the rule is one of 1 to 7 exactly with 4, and 0 exactly with every other number and
  -- with success
  pub register-refused-rule : (a : Access)
      → (leb 1 (step_of f a v d t m).answer.rule and leb (step_of f a v d t m).answer.rule 7 ≡ gives a 4)
      × (eqb (step_of f a v d t m).answer.rule 0 ≡ not (gives a 4))
  unfolding step_of
  register-refused-rule a = let b = step-beside f (turn_of f a v).file d t m (turn_of f a v).due in (b.one, b.none)

  -- the other numbers are the target's, at the call that completes a packet and in the order of its tests; the packet's array has 12 bytes
  module _ (twelve : length f.packet ≡ 12) where
    handed : (a : Access)
        → Handed is_state is_under is_unfit (reads_data a and is_answer_run f) (is_completing f v a) (step_of f a v d t m).answer.number
    unfolding step_of
    handed a =
        let D = turn-due f v a in
        rw (D.giving, D.performing) at
        (step-handed f (turn_of f a v).file d t m ((turn-lengths f v a).0 ∙ twelve) (turn_of f a v).due)

    pub register-refused-2-handed : (a : Access) → gives a 2 ≡ is_completing f v a and not is_state
    register-refused-2-handed a = (handed a).two

    pub register-refused-3-handed : (a : Access)
        → gives a 3 ≡ reads_data a and is_answer_run f and is_under or is_completing f v a and is_state and is_under
    register-refused-3-handed a = (handed a).three ∙ rw (and_assoc (reads_data a))

    pub register-refused-4-handed : (a : Access) → gives a 4 ≡ is_completing f v a and is_state and not is_under and is_unfit
    register-refused-4-handed a = (handed a).four

    -- and no other number
    pub register-refused-numbers : (a : Access) → gives a 0 or gives a 2 or gives a 3 or gives a 4 or gives a 15 ≡ true
    register-refused-numbers a = (handed a).any

  -- ---- what it leaves

  -- "the record stays as it was", and so do state and memory
  pub register-refused-unchanged : (a : Access) → gives a 15 ≡ true
      → (step_of f a v d t m ≡ leaves f 15 d) × (memory_of f a v d t m ≡ m)
  register-refused-unchanged a h = refused-step f v a d t m (sym (register-refused-15 a) ∙ h)

  -- ".. is refused by 3, the record as it was"
  pub register-refused-3-unchanged : gives Read 3 ≡ true → (step_of f Read v d t m ≡ leaves f 3 d) × (memory_of f Read v d t m ≡ m)
  register-refused-3-unchanged h = read_short f v d t m (sym register-refused-3 ∙ h)

  -- "A refusal by the target is handed on and ends the transfer", at the call that completes the packet
  pub register-refused-handed-on : (a : Access) → is_completing f v a ≡ true → ((reply_at f v d t m).number ≡ 0 → ⊥)
      → HandedOn f d m (reply_at f v d t m) (step_of f a v d t m) (memory_of f a v d t m)
  unfolding step_of memory_of
  register-refused-handed-on a h n =
      let P = turn-performed f v a h in
      let g = (turn_of f a v).file in
      let e = reply_ends d (packet_at f v) t (list_at f v) m n g in
      let k = P.step d t m ∙ e.0 in
      record {
        answer = ap (λ (x : Stepped). x.answer) k;
        memory = P.memory d t m ∙ e.1;
        reason = ap (λ (x : Stepped). x.file.reason) k;
        status = ap (λ (x : Stepped). x.file.status) k;
        phase = ap (λ (x : Stepped). phase_of x.file) k ∙ ended-idle (holding g g.features g.low g.high g.drive 0x00);
        features = ap (λ (x : Stepped). x.file.features) k ∙ P.features;
        low = ap (λ (x : Stepped). x.file.low) k ∙ P.low;
        high = ap (λ (x : Stepped). x.file.high) k ∙ P.high;
        drive = ap (λ (x : Stepped). x.file.drive) k ∙ P.drive;
      }

  abbrev reset_file : TaskFile
  reset_file = said.reset_file f v d t m

  pub register-reset : (step_of f Reset v d t m ≡ leaves reset_file 0 (power_on d)) × (memory_of f Reset v d t m ≡ m) × (phase_of reset_file ≡ Idle)
  unfolding step_of memory_of turn_of phase_of is_packet_run is_list_run is_answer_run choose◌then◌else◌ ◌and◌
  register-reset = (refl, refl, refl)

  -- ---- while idle

  -- "Writes of features, byte count and drive while idle are held and have no other effect"
  module _ (idle : phase_of f ≡ Idle) where
    abbrev Holds : Access → TaskFile → Type 0
    Holds = said.Holds f v d t m idle

    pub register-idle-features : Holds Features (holding f v f.low f.high f.drive f.status)
    unfolding step_of memory_of turn_of
    register-idle-features = rw idle (refl, refl)

    pub register-idle-low : Holds CountLow (holding f f.features v f.high f.drive f.status)
    unfolding step_of memory_of turn_of
    register-idle-low = rw idle (refl, refl)

    pub register-idle-high : Holds CountHigh (holding f f.features f.low v f.drive f.status)
    unfolding step_of memory_of turn_of
    register-idle-high = rw idle (refl, refl)

    pub register-idle-drive : Holds ToDrive (holding f f.features f.low f.high v f.status)
    unfolding step_of memory_of turn_of
    register-idle-drive = rw idle (refl, refl)

    -- a write to a register that is not there changes nothing at all
    pub register-idle-nowhere : Holds Nowhere f
    unfolding step_of memory_of turn_of
    register-idle-nowhere = rw idle (refl, refl)

pub register_idle_packet : (f : TaskFile) (d : Drive) (t m : List ℕ) → phase_of f ≡ Idle
    → (step_of f Command 0xA0 d t m ≡ leaves (asked_file f) 0 d)
    × (memory_of f Command 0xA0 d t m ≡ m)
    × (phase_of (asked_file f) ≡ PacketRun)
    × (left_of (asked_file f) ≡ 12)
unfolding step_of memory_of turn_of phase_of left_of is_packet_run choose◌then◌else◌ ◌and◌
register_idle_packet f d t m idle = rw idle (refl, refl, refl, refl)
