-- No access but one that completes a packet with nothing pending looks at the lent table, so up to such a one two runs agree.
use Rattle.std.specs.Prelude.{ℕ, ◌≡◌, refl, true, false, not, length}
use Rattle.std.proofs.Common.{sym, ◌∙◌, ⊎_elim}
use Rattle.std.proofs.Math.Path.{ap}
use Rattle.std.proofs.lemmas.Bool.{not-true, not-false}
use mathlib.Core.List.{List, [], ◌∷◌, ◌++◌}
use Rattle.ground.specs.Tests.{◌and◌, ◌or◌, and_late, and_off, or_left}
use Rattle.ground.specs.Memory.{fill}
use Rattle.deck.specs.declared.Deck.{Deck}
use Rattle.drive.specs.declared.state.Drive.{Drive as State}
use Rattle.disc.specs.Rules.{is_fit}
use Rattle.gate.specs.Gate.{Reply}
use Rattle.outcome.specs.Outcome.{bytes_of}
use Rattle.taskfile.specs.declared.TaskFile.{TaskFile}
use Rattle.taskfile.specs.declared.Access.{Access}
use Rattle.taskfile.specs.declared.Access.TheVariants.{Data, Features, CountLow, CountHigh, Drive, Command, Nowhere, Read, Reset}
use Rattle.taskfile.specs.declared.Due.{Due}
use Rattle.taskfile.specs.declared.Due.TheVariants.{Refused, Held, Performs, PerformsListed, Gives, Resets}
use Rattle.taskfile.specs.Run.{phase_of}
use Rattle.registers.specs.Registers.{performed, step_by, step_of, memory_by, memory_of}
use Rattle.claims.specs.Call as drives
use Rattle.claims.specs.Call.{is_attending, is_cause, is_packet}
use Rattle.claims.specs.Runs.{Pairwise, runs_long, agree_after}
use Rattle.claims.specs.Carried.{Board}
use Rattle.claims.specs.Stands.{or_cases}
use Rattle.claims.proofs.PacketLaws.{packet_blind}
use Rattle.claims.proofs.DriveDevice.{cause_attends}
use Rattle.registerclaims.specs.RegisterCall.{Console, Call, accessing, outside, Answer, answer, next, history, final, turn, due_call, target_call, completes, Alike, same, fitting, gives_answer, is_live, is_free, is_free_on, lend, left, answers, follows, final_on}
use Rattle.registerclaims.specs.Agreeing.{AgreeWhile, AgreeUntil, agree-until}
use Rattle.registerclaims.specs.RegisterHistory.{access_call}
use Rattle.registerclaims.proofs.RegisterHistory.{target_state, target_exactly}
use Rattle.registerclaims.specs.RegisterTwoRuns.{any_packet}
use Rattle.registerclaims.proofs.RegisterRunQuiet.{run_quiet}

module _ (f n : TaskFile) (d : State) (m t u : List ℕ) (p : is_fit t ≡ true) (q : is_fit u ≡ true) where
  due-blind : (w : Due) → any_packet (due_call w n t m) and not (is_attending d) ≡ false
      → (step_by w f n d t m ≡ step_by w f n d u m) × (memory_by w n d t m ≡ memory_by w n d u m)
  unfolding ◌and◌ ◌or◌
  due-blind Refused h = (refl, refl)
  due-blind Held h = (refl, refl)
  due-blind Performs h =
      let e = packet_blind d n.packet t u [] [] (length m) p q (not-false _ h) in
      (ap (λ (r : Reply Deck). performed r n) e, ap (λ (r : Reply Deck). fill m (bytes_of r)) e)
  due-blind PerformsListed h =
      let e = packet_blind d n.packet t u n.list n.list (length m) p q (not-false _ h) in
      (ap (λ (r : Reply Deck). performed r n) e, ap (λ (r : Reply Deck). fill m (bytes_of r)) e)
  due-blind Gives h = (refl, refl)
  due-blind Resets h = (refl, refl)

blind : (c d : Call) (s : Console) → Alike c d → is_free c s ≡ false → (answer c s ≡ answer d s) × (next c s ≡ next d s)
unfolding step_of memory_of
blind c d s (same b) h = (refl, refl)
blind c d s (fitting a v m {t} {u} p q) h =
    let e = due-blind s.file (turn s a v).file s.drive m t u p q (turn s a v).due h in (
      λ i. record { given = (e.0 i).answer; memory = e.1 i },
      λ i. record { file = (e.0 i).file; drive = (e.0 i).answer.state },
    )

access_quiet : (a : Access) (f : TaskFile) (v : ℕ) (t m : List ℕ) → gives_answer (phase_of f) ≡ true → any_packet (access_call a f v t m) ≡ false
unfolding ◌or◌
access_quiet Data f v t m h = run_quiet (phase_of f) f v t m h
access_quiet Reset f v t m h = refl
access_quiet Features f v t m h = refl
access_quiet CountLow f v t m h = refl
access_quiet CountHigh f v t m h = refl
access_quiet Drive f v t m h = refl
access_quiet Command f v t m h = refl
access_quiet Nowhere f v t m h = refl
access_quiet Read f v t m h = refl

answer_quiet : (c : Call) (s : Console) → gives_answer (phase_of s.file) ≡ true → completes (λ p. true) c s ≡ false
unfolding ◌or◌
answer_quiet (accessing a v t m) s h = ap any_packet (target_exactly s a v t m) ∙ access_quiet a s.file v t m h
answer_quiet (outside c q) s h = rw (not-true (is_packet (λ p. true) c) q)

live_quiet : (c : Call) (s : Console) → is_live s ≡ true → is_free c s ≡ false
live_quiet c s h =
    ⊎_elim (λ a. sym (and_late _ _ (sym (ap not a)))) (λ r. sym (and_off _ _ (answer_quiet c s r))) (or_cases _ _ h)

-- a power-on, by reset too, or a loading leaves an attention pending
cause-live : (c : Call) (s : Console) {b : drives.Call} → target_call c s ≡ b ∷ [] → is_cause (drives.event b s.drive) ≡ true → is_live (next c s) ≡ true
cause-live c s {b} h k =
    or_left _ _ (ap is_attending (target_state c s ∙ ap (drives.final s.drive) h) ∙ cause_attends b s.drive k)

-- ---- "Two runs that differ only in the fit tables lent after a power-on or a loading agree in every answer, state and response byte up to and
-- including the answer that leaves nothing pending."

-- calls in common, then c, which reaches the target as b, a power-on in either form or a loading, then calls that are alike, one by one, but for the
-- fit tables lent: they agree in answer, with the byte read and the memory left, in record and in drive state, while each call leaves an attention
-- pending or an answer run to go on, so also over the runs in which the last answer's bytes leave
pub register-two-runs : (handed : Console) (common : List Call) (c : Call) {b : drives.Call}
    → target_call c (final handed common) ≡ b ∷ [] → is_cause (drives.event b (final handed common).drive) ≡ true
    → {cs ds : List Call} → Pairwise Alike cs ds → AgreeWhile answer next is_live handed common c cs ds
register-two-runs handed common c h k p i e f =
    agree_after answer next is_live Alike (λ x y s a l. blind x y s a (live_quiet x s l))
    handed common c (cause-live c (final handed common) h k) p i

-- and the second run has an event at each place where the first has one
pub register_two_runs_long : (handed : Console) (common : List Call) (c : Call) {cs ds : List Call} → Pairwise Alike cs ds
    → length (history handed (common ++ c ∷ cs)) ≡ length (history handed (common ++ c ∷ ds))
register_two_runs_long handed common c p = runs_long answer next handed common c p

-- ---- and with one response memory carried from call to call: "Until the transfer ends the response memory is handed on as it was left."

lend_alike : (c d : Call) (m : List ℕ) → Alike c d → Alike (lend m c) (lend m d)
lend_alike c d m (same b) = same (lend m c)
lend_alike c d m (fitting a v n p q) = fitting a v m p q

left_alike : (c d : Call) (r : Answer) (m : List ℕ) → Alike c d → left c r m ≡ left d r m
left_alike c d r m (same b) = refl
left_alike c d r m (fitting a v n p q) = refl

blind_on : (c d : Call) (b : Board Console) → Alike c d → is_free_on c b ≡ false
    → (answers c b ≡ answers d b) × (follows c b ≡ follows d b)
blind_on c d b a h =
    let q = blind (lend b.memory c) (lend b.memory d) b.state (lend_alike c d b.memory a) h in
    let m = ap (λ (r : Answer). left c r b.memory) q.0 ∙ left_alike c d (answers d b) b.memory a in
    (q.0, λ i. record { state = q.1 i; memory = m i })

-- ".. its response bytes are those in the runs": the data reads hand them back
pub register-two-runs-carried : (handed : Board Console) (common : List Call) (c : Call) {b : drives.Call}
    → target_call (lend (final_on handed common).memory c) (final_on handed common).state ≡ b ∷ []
    → is_cause (drives.event b (final_on handed common).state.drive) ≡ true
    → {cs ds : List Call} → Pairwise Alike cs ds → AgreeWhile answers follows (λ b. is_live b.state) handed common c cs ds
register-two-runs-carried handed common c h k p i e f =
    agree_after answers follows (λ b. is_live b.state) Alike (λ x y b a l. blind_on x y b a (live_quiet (lend b.memory x) b.state l))
    handed common c (cause-live (lend (final_on handed common).memory c) (final_on handed common).state h k) p i

-- ---- "that call counts for demand 3": after any calls they agree for longer, until a call completes a packet with nothing pending

pub register_two_runs_until : (handed : Console) (common : List Call) {cs ds : List Call} → Pairwise Alike cs ds
    → AgreeUntil answer next is_free handed common cs ds
register_two_runs_until handed common p = agree-until answer next is_free Alike blind handed common p

pub register_two_runs_until-carried : (handed : Board Console) (common : List Call) {cs ds : List Call} → Pairwise Alike cs ds
    → AgreeUntil answers follows is_free_on handed common cs ds
register_two_runs_until-carried handed common p = agree-until answers follows is_free_on Alike blind_on handed common p
