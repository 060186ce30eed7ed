-- What a record in a run has, and which run its tests say: one at most, since the runs differ in their reasons.
use Rattle.std.specs.Prelude.{ℕ, ◌<◌, ◌≤◌, ◌≡◌, Bool}
use Rattle.std.proofs.Math.Path.{refl, sym, ap}
use Rattle.std.proofs.Common.{◌∙◌}
use Rattle.std.proofs.Math.Bool.{true, false}
use native.Mathlib.Omega.{arith}
use Rattle.std.proofs.Math.Dec.{eqb}
use borrow.Author.Tests.{eqb-true, ltb-true, leb-true, eq-eqb, lt-ltb}
use Rattle.ground.specs.Tests.{◌and◌, choose◌then◌else◌, when, unless, and_head, and_tail, and_off, and_both}
use Rattle.taskfile.specs.declared.TaskFile.{TaskFile}
use Rattle.taskfile.specs.declared.Phase.{Phase}
use Rattle.taskfile.specs.declared.Phase.TheVariants.{Idle, PacketRun, ListRun, AnswerRun}
use Rattle.taskfile.specs.TaskFile.{count_of, packet_bytes, list_bytes, takes_packet_reason, takes_list_reason, gives_answer_reason, shows_status_reason, ended}
use Rattle.taskfile.specs.Run.{size_of, is_limit, is_run, is_packet_run, is_list_run, is_answer_run, phase_of, most_bytes}

-- ---- is_run

-- what a run of list or answer has
pub record Run (f : TaskFile) : Type 0 where
  pub limit : is_limit f.limit ≡ true
  pub next : f.at < f.len
  pub count : count_of f ≡ size_of f

pub is_run_run : (f : TaskFile) → is_run f ≡ true → Run f
unfolding is_run
is_run_run f h =
    let a = and_tail (is_limit f.limit) _ h in
    record { limit = and_head _ _ h; next = ltb-true _ _ (and_head _ _ a); count = eqb-true _ _ (and_tail _ _ a) }

pub run-is_run : (f : TaskFile) → Run f → is_run f ≡ true
unfolding is_run
run-is_run f r = and_both _ _ r.limit (and_both _ _ (lt-ltb f.at f.len r.next) (eq-eqb _ _ r.count))

-- ---- phase_of

-- each phase by its own number
abbrev code : Phase → ℕ
code Idle = 0
code PacketRun = 1
code ListRun = 2
code AnswerRun = 3

abbrev pub is_packet : Phase → Bool
is_packet s = eqb (code s) 1

abbrev pub is_list : Phase → Bool
is_list s = eqb (code s) 2

abbrev pub is_answer : Phase → Bool
is_answer s = eqb (code s) 3

module _ (f : TaskFile) where
  -- a run's test says its reason
  is_packet_run-reason : is_packet_run f ≡ true → f.reason ≡ takes_packet_reason
  unfolding is_packet_run
  is_packet_run-reason h = eqb-true _ _ (and_head _ _ h)

  is_list_run-reason : is_list_run f ≡ true → f.reason ≡ takes_list_reason
  unfolding is_list_run
  is_list_run-reason h = eqb-true _ _ (and_head _ _ h)

  is_answer_run-reason : is_answer_run f ≡ true → f.reason ≡ gives_answer_reason
  unfolding is_answer_run
  is_answer_run-reason h = eqb-true _ _ (and_head _ _ h)

  -- and with another reason it fails
  is_packet_run-other : eqb f.reason takes_packet_reason ≡ false → is_packet_run f ≡ false
  unfolding is_packet_run
  is_packet_run-other h = sym (and_off _ _ h)

  pub is_list_run-other : eqb f.reason takes_list_reason ≡ false → is_list_run f ≡ false
  unfolding is_list_run
  is_list_run-other h = sym (and_off _ _ h)

  is_answer_run-other : eqb f.reason gives_answer_reason ≡ false → is_answer_run f ≡ false
  unfolding is_answer_run
  is_answer_run-other h = sym (and_off _ _ h)

  -- the tests, by the phase
  pub record Tested (s : Phase) : Type 0 where
    pub packet : is_packet_run f ≡ is_packet s
    pub list : is_list_run f ≡ is_list s
    pub answer : is_answer_run f ≡ is_answer s

  pub phase_of-tested : Tested (phase_of f)
  unfolding phase_of choose◌then◌else◌
  phase_of-tested = go (is_packet_run f) (is_list_run f) (is_answer_run f) refl refl refl
    where
      go : (p l a : Bool) → is_packet_run f ≡ p → is_list_run f ≡ l → is_answer_run f ≡ a
          → Tested (choose p then PacketRun else (choose l then ListRun else (choose a then AnswerRun else Idle)))
      go true l a h i j =
          let e = is_packet_run-reason h in
          record { packet = h; list = is_list_run-other (ap (λ (r : ℕ). eqb r 0) e); answer = is_answer_run-other (ap (λ (r : ℕ). eqb r 2) e) }
      go false true a h i j = record { packet = h; list = i; answer = is_answer_run-other (ap (λ (r : ℕ). eqb r 2) (is_list_run-reason i)) }
      go false false true h i j = record { packet = h; list = i; answer = j }
      go false false false h i j = record { packet = h; list = i; answer = j }

  -- and the phase, by a test
  pub is_packet_run-phase : is_packet_run f ≡ true → phase_of f ≡ PacketRun
  unfolding phase_of
  is_packet_run-phase h = when _ _ _ h

  pub is_list_run-phase : is_list_run f ≡ true → phase_of f ≡ ListRun
  unfolding phase_of
  is_list_run-phase h = unless _ _ _ (is_packet_run-other (ap (λ (r : ℕ). eqb r 1) (is_list_run-reason h))) ∙ when _ _ _ h

  pub is_answer_run-phase : is_answer_run f ≡ true → phase_of f ≡ AnswerRun
  unfolding phase_of
  is_answer_run-phase h =
      let e = is_answer_run-reason h in
      unless _ _ _ (is_packet_run-other (ap (λ (r : ℕ). eqb r 1) e)) ∙ unless _ _ _ (is_list_run-other (ap (λ (r : ℕ). eqb r 0) e)) ∙ when _ _ _ h

  -- "status ends it (CoD 1, IO 1)": in no run
  pub phase_of-idle : f.reason ≡ shows_status_reason → phase_of f ≡ Idle
  unfolding phase_of is_packet_run is_list_run is_answer_run choose◌then◌else◌ ◌and◌
  phase_of-idle h = rw h

  -- in a run of the packet: 12 bytes, not all of them here
  pub phase_of-packet : phase_of f ≡ PacketRun → (f.at < packet_bytes) × (f.len ≡ packet_bytes)
  unfolding is_packet_run
  phase_of-packet h =
      let a = and_tail _ _ (and_tail _ _ (phase_of-tested.packet ∙ ap is_packet h)) in
      (ltb-true _ _ (and_tail _ _ a), eqb-true _ _ (and_head _ _ a))

  -- in a run of list or answer
  pub phase_of-list-run : phase_of f ≡ ListRun → Run f
  unfolding is_list_run
  phase_of-list-run h = is_run_run f (and_tail _ _ (and_tail _ _ (and_tail _ _ (phase_of-tested.list ∙ ap is_list h))))

  pub phase_of-answer-run : phase_of f ≡ AnswerRun → Run f
  unfolding is_answer_run
  phase_of-answer-run h = is_run_run f (and_tail _ _ (and_tail _ _ (phase_of-tested.answer ∙ ap is_answer h)))

  -- in a run of the list: 16 bytes, not all of them here
  pub phase_of-list : phase_of f ≡ ListRun → (f.at < list_bytes) × (f.len ≡ list_bytes)
  unfolding is_list_run
  phase_of-list h =
      let n : f.len ≡ list_bytes = eqb-true _ _ (and_head _ _ (and_tail _ _ (and_tail _ _ (phase_of-tested.list ∙ ap is_list h)))) in
      let l = (phase_of-list-run h).next in
      (omega arith, n)

  -- in a run of the answer: bytes that a response memory has, not all of them gone
  pub phase_of-answer : phase_of f ≡ AnswerRun → (f.at < f.len) × (f.len ≤ most_bytes)
  unfolding is_answer_run
  phase_of-answer h = ((phase_of-answer-run h).next, leb-true _ _ (and_head _ _ (and_tail _ _ (phase_of-tested.answer ∙ ap is_answer h))))

pub ended-idle : (f : TaskFile) → phase_of (ended f) ≡ Idle
ended-idle f = phase_of-idle (ended f) refl
