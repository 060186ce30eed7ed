-- Which number an access gives, and what a refused one leaves: by what is due at it.
use Rattle.std.specs.Prelude.{ℕ, ◌≡◌, Bool, not, length, set, get_or, ltb}
use Rattle.std.proofs.Math.Path.{refl}
use Rattle.std.proofs.Common.{sym, ap, ◌∙◌, arith, ne_eqb}
use Rattle.std.proofs.Math.Bool.{true, false}
use Rattle.std.proofs.lemmas.Bool.{false≢true}
use mathlib.Core.List.{List, []}
use Rattle.std.proofs.Math.Dec.{eqb}
use Rattle.ground.specs.Tests.{◌and◌, ◌or◌, choose◌then◌else◌, when, unless, either, and_head, and_tail}
use Rattle.ground.specs.Memory.{fill}
use Rattle.deck.specs.declared.Deck.{Deck}
use Rattle.drive.specs.declared.state.Drive.{Drive}
use Rattle.deck.specs.Deck.{is_loaded}
use Rattle.drive.specs.State.{is_known_state}
use Rattle.table.specs.Layout.{bound}
use Rattle.disc.specs.Rules.{is_fit}
use Rattle.gate.specs.Gate.{Reply}
use Rattle.outcome.specs.Outcome.{state_of, bytes_of}
use Rattle.target.specs.Packet.{answer}
use Rattle.claims.specs.Telling.{Answer as TargetAnswer, answer_of}
use Rattle.claims.specs.Call.{packet}
use Rattle.claims.proofs.RefusalLaws.{Ordered, Beside, refusing, call_unchanged, reply-ordered, reply-beside}
use Rattle.taskfile.specs.declared.TaskFile.{TaskFile}
use Rattle.taskfile.specs.declared.Phase.{Phase}
use Rattle.taskfile.specs.declared.Phase.TheVariants.{Idle, PacketRun, ListRun, AnswerRun}
use Rattle.taskfile.specs.declared.Access.{Access}
use Rattle.taskfile.specs.declared.Access.TheVariants.{Read}
use Rattle.taskfile.specs.declared.Due.{Due}
use Rattle.taskfile.specs.declared.Due.TheVariants.{Refused, Held, Performs, PerformsListed, Gives, Resets}
use Rattle.taskfile.specs.declared.Turn.{Turn}
use Rattle.taskfile.specs.TaskFile.{holding, ended}
use Rattle.taskfile.specs.Run.{is_answer_run, phase_of}
use Rattle.taskfile.specs.RunLaws.{is_packet, is_list, is_answer, phase_of-tested, is_answer_run-phase}
use Rattle.taskfile.specs.Host.{answer_byte, read_turn, answered, turn_of}
use Rattle.taskfile.specs.HostLaws.{turn_of-ways, is_refused, is_performed, is_given}
use Rattle.registers.specs.declared.Stepped.{Stepped}
use Rattle.registers.specs.Registers.{plain, stands, asks, performed, gives, step_by, memory_by, step_of, memory_of}
use Rattle.registerclaims.specs.RegisterTurn.{is_out_of_turn, is_completing, packet_at, list_at, reply_at}
use Rattle.registerclaims.proofs.RegisterTurnLaws.{turn-due, turn-stays}

-- ---- the number, by what is due

module _ (f g : TaskFile) (d : Drive) (t m : List ℕ) where
  asks-under : (l : List ℕ) → eqb (asks g l d t m).number 15 ≡ false
  asks-under l = ne_eqb (asks g l d t m).number 15 (λ h. let o = (reply-ordered d g.packet t (length m) l).most in omega arith)

  gives-number : (n : ℕ) → eqb (gives f g d m).answer.number n ≡ (choose ltb (length m) bound then eqb 3 n else eqb 0 n)
  unfolding gives choose◌then◌else◌
  gives-number n = go (ltb (length m) bound)
    where
      go : (b : Bool) → eqb (choose b then stands f (plain 3 0 d) else stands g (plain 0 (get_or m f.at 0) d)).answer.number n
          ≡ (choose b then eqb 3 n else eqb 0 n)
      go true = refl
      go false = refl

  pub step-15 : (e : Due) → eqb (step_by e f g d t m).answer.number 15 ≡ is_refused e
  unfolding choose◌then◌else◌
  step-15 Refused = refl
  step-15 Held = refl
  step-15 Performs = asks-under []
  step-15 PerformsListed = asks-under g.list
  step-15 Gives = gives-number 15 ∙ either (λ b. b ≡ false) (ltb (length m) bound) (λ h. refl) (λ h. refl)
  step-15 Resets = refl

-- the rule beside it is the target's
bare_beside : (n : ℕ) → eqb n 4 ≡ false → Beside (eqb n 4) 0
unfolding ◌and◌
bare_beside n h = record { one = sym h; none = ap not (sym h) }

module _ (f g : TaskFile) (d : Drive) (t m : List ℕ) where
  gives-beside : Beside (eqb (gives f g d m).answer.number 4) (gives f g d m).answer.rule
  unfolding gives
  gives-beside =
      either (λ (x : Stepped). Beside (eqb x.answer.number 4) x.answer.rule) (ltb (length m) bound) (λ h. bare_beside 3 refl) (λ h. bare_beside 0 refl)

  pub step-beside : (e : Due) → Beside (eqb (step_by e f g d t m).answer.number 4) (step_by e f g d t m).answer.rule
  step-beside Refused = bare_beside 15 refl
  step-beside Held = bare_beside 0 refl
  step-beside Performs = reply-beside d g.packet t (length m) []
  step-beside PerformsListed = reply-beside d g.packet t (length m) g.list
  step-beside Gives = gives-beside
  step-beside Resets = bare_beside 0 refl

-- the numbers below 15: the target's, and 3 at a data read
pub record Handed (known short unfit : Bool) (gives performs : Bool) (n : ℕ) : Type 0 where
  pub two : eqb n 2 ≡ performs and not known
  pub three : eqb n 3 ≡ gives and short or performs and known and short
  pub four : eqb n 4 ≡ performs and known and not short and unfit
  pub any : eqb n 0 or eqb n 2 or eqb n 3 or eqb n 4 or eqb n 15 ≡ true

ordered-handed : {known short unfit : Bool} {n : ℕ} → Ordered true known short unfit n → Handed known short unfit false true n
unfolding ◌and◌ ◌or◌
ordered-handed {known} {short} {unfit} {n} o =
    record { two = o.two; three = o.three; four = o.four; any = rw (o.zero, o.two, o.three, o.four) (go known short unfit) }
  where
    go : (known short unfit : Bool)
        → (known and not short and not unfit) or not known or known and short or known and not short and unfit or eqb n 15 ≡ true
    go false short unfit = refl
    go true true unfit = refl
    go true false true = refl
    go true false false = refl

module _ (f g : TaskFile) (d : Drive) (t m : List ℕ) (twelve : length g.packet ≡ 12) where
  asks-handed : (l : List ℕ)
      → Handed (is_known_state d) (ltb (length m) bound) (is_loaded d.deck and not (is_fit t)) false true (asks g l d t m).number
  asks-handed l = ordered-handed (rw twelve at (reply-ordered d g.packet t (length m) l))

  gives-handed : Handed (is_known_state d) (ltb (length m) bound) (is_loaded d.deck and not (is_fit t)) true false (gives f g d m).answer.number
  unfolding ◌and◌ ◌or◌ choose◌then◌else◌
  gives-handed =
      let N = gives-number f g d t m in
      go (ltb (length m) bound) (N 0) (N 2) (N 3) (N 4) (N 15)
    where
      go : (b : Bool) {n : ℕ} {known unfit : Bool} → eqb n 0 ≡ (choose b then false else true) → eqb n 2 ≡ (choose b then false else false)
          → eqb n 3 ≡ (choose b then true else false) → eqb n 4 ≡ (choose b then false else false) → eqb n 15 ≡ (choose b then false else false)
          → Handed known b unfit true false n
      go true h i j k l = record { two = i; three = j; four = k; any = rw (h, i, j) }
      go false h i j k l = record { two = i; three = j; four = k; any = rw h }

  pub step-handed : (e : Due)
      → Handed (is_known_state d) (ltb (length m) bound) (is_loaded d.deck and not (is_fit t)) (is_given e) (is_performed e)
      (step_by e f g d t m).answer.number
  unfolding ◌and◌ ◌or◌
  step-handed Refused = record { two = refl; three = refl; four = refl; any = refl }
  step-handed Held = record { two = refl; three = refl; four = refl; any = refl }
  step-handed Performs = asks-handed []
  step-handed PerformsListed = asks-handed g.list
  step-handed Gives = gives-handed
  step-handed Resets = record { two = refl; three = refl; four = refl; any = refl }

-- ---- a refused access

module _ (f : TaskFile) (v : ℕ) where
  -- it leaves record, state and memory
  pub refused-step : (a : Access) (d : Drive) (t m : List ℕ) → is_out_of_turn f v a ≡ true
      → (step_of f a v d t m ≡ stands f (plain 15 0 d)) × (memory_of f a v d t m ≡ m)
  unfolding step_of memory_of
  refused-step a d t m h = let e = turn-stays f v a ((turn-due f v a).refuses ∙ h) in rw e (refl, refl)

  -- ---- an access that completes a packet

  -- the turn T hands the target the packet and the list at it, and keeps the registers
  pub record Performing (T : Turn) : Type 0 where
    pub step : (d : Drive) (t m : List ℕ) → step_by T.due f T.file d t m ≡ performed (reply_at f v d t m) T.file
    pub memory : (d : Drive) (t m : List ℕ) → memory_by T.due T.file d t m ≡ fill m (bytes_of (reply_at f v d t m))
    pub features : T.file.features ≡ f.features
    pub low : T.file.low ≡ f.low
    pub high : T.file.high ≡ f.high
    pub drive : T.file.drive ≡ f.drive

  abbrev Completes : Turn → Type 0
  Completes T = is_performed T.due ≡ true → Performing T

  pub turn-performed : (a : Access) → is_completing f v a ≡ true → Performing (turn_of f a v)
  turn-performed a h =
      let T = phase_of-tested f in
      turn_of-ways f v {P = Completes} (record {
        refuses = λ e. absurd (false≢true e);
        holds = λ a s e. absurd (false≢true e);
        asks = λ s e. absurd (false≢true e);
        takes = λ s x e. absurd (false≢true e);
        asks_list = λ s x e. absurd (false≢true e);
        performs = λ s e.
            let p : packet_at f v ≡ set f.packet f.at v = when _ _ _ (T.packet ∙ ap is_packet s) in
            let l : list_at f v ≡ [] = unless _ _ _ (T.list ∙ ap is_list s) in
            record { step = λ d t m. rw (p, l); memory = λ d t m. rw (p, l); features = refl; low = refl; high = refl; drive = refl };
        enters = λ s x e. absurd (false≢true e);
        performs_listed = λ s e.
            let p : packet_at f v ≡ f.packet = unless _ _ _ (T.packet ∙ ap is_packet s) in
            let l : list_at f v ≡ set f.list f.at v = when _ _ _ (T.list ∙ ap is_list s) in
            record { step = λ d t m. rw (p, l); memory = λ d t m. rw (p, l); features = refl; low = refl; high = refl; drive = refl };
        gives_last = λ s e. absurd (false≢true e);
        gives_more = λ s x e. absurd (false≢true e);
        powers_on = λ e. absurd (false≢true e);
      }) a ((turn-due f v a).performing ∙ h)

  -- ---- a data read

  module _ (d : Drive) (t m : List ℕ) where
    -- what it comes to in each run
    read_step : (s : Phase) → phase_of f ≡ s → step_of f Read v d t m ≡ step_by (read_turn s f).due f (read_turn s f).file d t m
    unfolding step_of turn_of
    read_step s h = rw h

    pub read-3 : eqb (step_of f Read v d t m).answer.number 3 ≡ is_answer_run f and ltb (length m) bound
    unfolding ◌and◌ answer_byte choose◌then◌else◌
    read-3 = rw (phase_of-tested f).answer (go (phase_of f) refl)
      where
        picks : (b : Bool) → (choose b then true else false) ≡ b
        picks true = refl
        picks false = refl

        go : (s : Phase) → phase_of f ≡ s → eqb (step_of f Read v d t m).answer.number 3 ≡ is_answer s and ltb (length m) bound
        go Idle h = rw (read_step Idle h)
        go PacketRun h = rw (read_step PacketRun h)
        go ListRun h = rw (read_step ListRun h)
        go AnswerRun h = rw (read_step AnswerRun h) (gives-number f (answer_byte f).file d t m 3 ∙ picks (ltb (length m) bound))

    pub read_short : is_answer_run f and ltb (length m) bound ≡ true
        → (step_of f Read v d t m ≡ stands f (plain 3 0 d)) × (memory_of f Read v d t m ≡ m)
    unfolding answer_byte gives memory_of turn_of
    read_short h =
        let s = is_answer_run-phase f (and_head _ _ h) in
        (read_step AnswerRun s ∙ when _ _ _ (and_tail _ _ h), rw s)

-- ---- a refusal by the target

-- the target's refusal r has no bytes: status ends it
abbrev Ends : Drive → List ℕ → Reply Deck → Type 0
Ends d m r =
    (g : TaskFile)
    → (performed r g
    ≡ stands (ended (holding g g.features g.low g.high g.drive 0x00))
    (record { number = r.number; rule = r.rule; byte = 0; start = 0; count = 0; state = d }))
    × (fill m (bytes_of r) ≡ m)

reply_bare : (d : Drive) (m : List ℕ) (r : Reply Deck) → state_of r ≡ d → answer_of m r ≡ refusing r.number r.rule m → Ends d m r
unfolding answered choose◌then◌else◌
reply_bare d m r s e g =
    let a = ap (λ (x : TargetAnswer). x.status) e in
    let b = ap (λ (x : TargetAnswer). x.full) e in
    let c = ap (λ (x : TargetAnswer). x.limit) e in
    let i = ap (λ (x : TargetAnswer). x.start) e in
    let j = ap (λ (x : TargetAnswer). x.count) e in
    (rw (a, b, c, i, j, s), ap (λ (x : TargetAnswer). x.memory) e)

pub reply_ends : (d : Drive) (p t l m : List ℕ) → ((answer d p t l (length m)).number ≡ 0 → ⊥) → Ends d m (answer d p t l (length m))
unfolding choose◌then◌else◌ ◌and◌
reply_ends d p t l m n =
    let u = call_unchanged (packet p t l m) d n in
    reply_bare d m (answer d p t l (length m)) u.0 u.1
