-- K14: the record along a transfer in runs. `gone-along`, the one law of `gone`, holds since a byte more either starts a run or stays in it.
use Rattle.std.specs.Prelude.{ℕ, suc, ◌+◌, ◌-◌, ◌/◌, ◌%◌, ◌≤◌, ◌<◌, min, ◌≡◌, true, List, [], length, get_or, drop, eqb}
use Rattle.std.proofs.Common.{sym, ap, ◌∙◌, arith, lt_of_not-le, mod-lt, mod-eq_of_lt, add-one, length-drop, eqb-true, le-leb, eq-eqb}
use Rattle.std.proofs.Math.Nat.{mod_self, suc-mod}
use Rattle.std.proofs.Math.Decide.{dec_lt}
use Rattle.std.proofs.lemmas.Bool.{eqb-false}
use Rattle.ground.specs.Tests.{either, and_head, and_tail, and_both}
use Rattle.ground.specs.Number.{word16, bytes16_exact}
use Rattle.taskfile.specs.declared.TaskFile.{TaskFile}
use Rattle.taskfile.specs.declared.Phase.{Phase}
use Rattle.taskfile.specs.declared.Phase.TheVariants.{ListRun, AnswerRun}
use Rattle.taskfile.specs.TaskFile.{takes_list_reason, gives_answer_reason, list_bytes, count_of, counting, placed, holding}
use Rattle.taskfile.specs.Run.{most_bytes, size_of, is_run, takes_list, is_list_run, is_answer_run, phase_of, left_by, left_of}
use Rattle.taskfile.specs.RunLaws.{Run, run-is_run, is_list, is_answer, phase_of-tested, is_list_run-phase, is_answer_run-phase, phase_of-list-run, phase_of-answer-run, phase_of-list, phase_of-answer}
use Rattle.taskfile.specs.Host.{begun, gone}
use Rattle.registerclaims.specs.RegisterLimit.{Limit, limit-is_limit, is_limit_limit}
use Rattle.registerclaims.specs.Cut.{cut, cut_at}

-- the record f with j bytes of its transfer gone
abbrev pub moved_to : TaskFile → ℕ → TaskFile
moved_to f j = placed f f.reason f.limit f.len j

-- and with the size of the run that it is in: "each run's size is written there"
abbrev pub along : TaskFile → ℕ → TaskFile
along f j = counting (moved_to f j) (size_of (moved_to f j))

-- ---- bytes that go

-- the first run begins at no bytes
pub begun-along : (f : TaskFile) (r n : ℕ) → begun f r n ≡ along (placed f r f.limit n 0) 0
begun-along f r n =
    let e : min f.limit n ≡ min f.limit (n - (0 - 0 % f.limit)) = omega arith in
    ap (counting (placed f r f.limit n 0)) e

-- a byte more is one more of the run, or the first of the next
mod-next : (j m : ℕ) → 0 < m → ((j + 1) % m ≡ 0 → ⊥) → (j + 1) % m ≡ j % m + 1
mod-next j m h k =
    let l : j % m < m = mod-lt j h in
    let e : (j + 1) % m ≡ suc (j % m) % m = ap (λ (i : ℕ). i % m) (add-one j) ∙ suc-mod j m in
    elim (dec_lt (suc (j % m)) m) [
      | yes x ↦ (let y = mod-eq_of_lt x in omega arith)
      | no x ↦ (let y : suc (j % m) ≡ m = omega (arith, lt_of_not-le x) in absurd (k (e ∙ ap (λ (i : ℕ). i % m) y ∙ mod_self m)))
    ]

-- "A run is the smaller of what remains and the host's byte count limit": in every run of list and answer
pub gone-along : (f : TaskFile) (j : ℕ) → 0 < f.limit → gone (along f j) ≡ along f (j + 1)
unfolding gone
gone-along f j h =
    either (λ (g : TaskFile). g ≡ along f (j + 1)) (eqb ((j + 1) % f.limit) 0)
    (λ e. let z = eqb-true ((j + 1) % f.limit) 0 e in
    let w : min f.limit (f.len - (j + 1)) ≡ size_of (moved_to f (j + 1)) = omega arith in
    ap (counting (moved_to f (j + 1))) w)
    (λ e. let z = mod-next j f.limit h (eqb-false ((j + 1) % f.limit) 0 e) in
    let w : size_of (moved_to f j) ≡ size_of (moved_to f (j + 1)) = omega arith in
    ap (counting (moved_to f (j + 1))) w)

-- ---- what the registers show

-- the byte count is the run's size
pub along-count : (f : TaskFile) (j : ℕ) → Limit f.limit → count_of (along f j) ≡ size_of (moved_to f j)
along-count f j l = bytes16_exact (size_of (moved_to f j)) (omega arith)

along-is_run : (f : TaskFile) (j : ℕ) → Limit f.limit → j < f.len → is_run (along f j) ≡ true
along-is_run f j l h = run-is_run (along f j) (record { limit = limit-is_limit f.limit l; next = h; count = along-count f j l })

-- a record in a run is along its transfer, where the byte count is of two bytes
run_along : (f : TaskFile) → Run f → f.low < 256 → f.high < 256 → f ≡ along f f.at
run_along f r a b =
    let c = bytes f.low f.high (size_of f) a b r.count in
    ap (λ (x : ℕ). holding f f.features x f.high f.drive f.status) c.0
    ∙ ap (λ (x : ℕ). holding f f.features (size_of f % 256) x f.drive f.status) c.1
  where
    bytes : (l h n : ℕ) → l < 256 → h < 256 → word16 h l ≡ n → (l ≡ n % 256) × (h ≡ n / 256 % 256)
    bytes l h n a b e = (omega arith, omega arith)

-- so the next byte takes it along
pub run-gone : (f : TaskFile) → Run f → f.low < 256 → f.high < 256 → gone f ≡ along f (f.at + 1)
run-gone f r a b =
    let l = (is_limit_limit f.limit r.limit).least in
    ap gone (run_along f r a b) ∙ gone-along f f.at (omega arith)

-- what a run of the answer stands in
pub record Answering (f : TaskFile) : Type 0 where
  pub reason : f.reason ≡ gives_answer_reason
  pub fits : f.len ≤ most_bytes
  pub limited : Limit f.limit

pub along-answer : (f : TaskFile) (j : ℕ) → Answering f → j < f.len → phase_of (along f j) ≡ AnswerRun
unfolding is_answer_run
along-answer f j a h =
    is_answer_run-phase (along f j)
    (and_both _ _ (eq-eqb _ _ a.reason) (and_both _ _ (le-leb f.len most_bytes a.fits) (along-is_run f j a.limited h)))

-- each record in one does
pub answer-answering : (f : TaskFile) → phase_of f ≡ AnswerRun → Answering f
unfolding is_answer_run
answer-answering f h =
    let a = (phase_of-tested f).answer ∙ ap is_answer h in
    record {
      reason = eqb-true _ _ (and_head _ _ a);
      fits = (phase_of-answer f h).1;
      limited = is_limit_limit f.limit (phase_of-answer-run f h).limit;
    }

-- and a run of the list
pub record Listing (f : TaskFile) : Type 0 where
  pub reason : f.reason ≡ takes_list_reason
  pub takes : takes_list f.packet ≡ true
  pub whole : f.len ≡ list_bytes
  pub limited : Limit f.limit

pub along-list : (f : TaskFile) (j : ℕ) → Listing f → j < list_bytes → phase_of (along f j) ≡ ListRun
unfolding is_list_run
along-list f j a h =
    is_list_run-phase (along f j)
    (and_both _ _ (eq-eqb _ _ a.reason)
    (and_both _ _ a.takes (and_both _ _ (eq-eqb _ _ a.whole) (along-is_run f j a.limited (let k = a.whole in omega arith)))))

pub list_listing : (f : TaskFile) → phase_of f ≡ ListRun → Listing f
unfolding is_list_run
list_listing f h =
    let a = (phase_of-tested f).list ∙ ap is_list h in
    record {
      reason = eqb-true _ _ (and_head _ _ a);
      takes = and_head _ _ (and_tail _ _ a);
      whole = (phase_of-list f h).1;
      limited = is_limit_limit f.limit (phase_of-list-run f h).limit;
    }

-- "the bytes left of the run"
abbrev pub left : TaskFile → ℕ → ℕ
left f j = size_of (moved_to f j) - j % f.limit

pub answer-left : (f : TaskFile) (j : ℕ) → Answering f → j < f.len → left_of (along f j) ≡ left f j
unfolding left_of
answer-left f j a h = ap (λ (s : Phase). left_by s (along f j)) (along-answer f j a h)

pub list_left : (f : TaskFile) (j : ℕ) → Listing f → j < list_bytes → left_of (along f j) ≡ left f j
unfolding left_of
list_left f j a h = ap (λ (s : Phase). left_by s (along f j)) (along-list f j a h)

-- the registers behind j bytes of b: "each run's size is written" in the byte count, and what is left of the run
pub record Shows (s : Phase) (m : ℕ) (b : List ℕ) (j : ℕ) (f : TaskFile) : Type 0 where
  pub phase : phase_of f ≡ s
  pub count : count_of f ≡ length (get_or (cut m b) (j / m) [])
  pub rest : left_of f ≡ length (drop (j % m) (get_or (cut m b) (j / m) []))

pub along-shows : (s : Phase) (f : TaskFile) (j : ℕ) (b : List ℕ) → Limit f.limit → length b ≡ f.len → j < f.len
    → phase_of (along f j) ≡ s → left_of (along f j) ≡ left f j → Shows s f.limit b j (along f j)
along-shows s f j b l n h p r =
    let c = cut_at f.limit b j (let w = l.least in omega arith) (omega arith) in
    let q = get_or (cut f.limit b) (j / f.limit) [] in
    let e : size_of (moved_to f j) ≡ length q = omega arith in
    record {
      phase = p;
      count = along-count f j l ∙ e;
      rest = r ∙ ap (λ (z : ℕ). z - j % f.limit) e ∙ sym (length-drop (j % f.limit) q);
    }
