-- K14: data writes in list runs: the host's loop writes the list piece by piece, and behind the last byte the record takes no list.
use Rattle.std.specs.Prelude.{ℕ, ◌+◌, ◌-◌, ◌%◌, ◌≤◌, ◌<◌, min, ◌≡◌, refl, true, length, get_or, drop, eqb}
use Rattle.std.proofs.Common.{sym, ◌∙◌, arith, lt_of_not-le, ne_eqb}
use Rattle.std.proofs.Math.Path.{ap}
use Rattle.std.proofs.Math.Bool.{false}
use mathlib.Core.List.{List, ◌∷◌}
use Rattle.std.proofs.Math.Decide.{dec_lt}
use Rattle.std.proofs.Math.ListN.{take}
use Rattle.std.proofs.Math.Seq.{drop-drop}
use Rattle.ground.specs.Tests.{choose◌then◌else◌, either, when, unless}
use Rattle.drive.specs.declared.state.Drive.{Drive}
use Rattle.taskfile.specs.declared.TaskFile.{TaskFile}
use Rattle.taskfile.specs.declared.Turn.{Turn}
use Rattle.taskfile.specs.declared.Access.TheVariants.{Data}
use Rattle.taskfile.specs.declared.Due.TheVariants.{PerformsListed}
use Rattle.taskfile.specs.TaskFile.{list_bytes, count_of}
use Rattle.taskfile.specs.Run.{phase_of}
use Rattle.taskfile.specs.Host.{answered}
use Rattle.registerclaims.specs.Loop.{size_at, Loops}
use Rattle.registerclaims.specs.Along.{Listing, along-count}
use Rattle.registerclaims.specs.Transfer.{Transfer, transfer_of, next, after_writes, is_taking, feed, fed}
use Rattle.registerclaims.proofs.TargetRuns.{due-next}
use Rattle.registerclaims.specs.WriteLaws.{entered, held_next, writes-after, over, entering, entering-phase, list-turn, list-last, untaking}

answered_untaking : (g : TaskFile) (s n : ℕ) → is_taking (phase_of (answered g s n)) ≡ false
unfolding answered
answered_untaking g s n = untaking (answered g s n) (either (λ (h : TaskFile). eqb h.reason 0x00 ≡ false) (eqb n 0) (λ e. refl) (λ e. refl))

module _ (f : TaskFile) (a : Listing f) (l : List ℕ) (x : length l ≡ list_bytes) (y : length f.list ≡ list_bytes) (d : Drive) (t m : List ℕ) where
  -- behind j bytes, before the last one
  abbrev pub before : ℕ → Transfer
  before j = transfer_of (entering f a l x y j) d m

  -- and behind the last
  abbrev pub at : ℕ → Transfer
  at j = choose eqb j list_bytes then next Data (get_or l 15 0) t (before 15) else before j

  pub at_before : (j : ℕ) → j < list_bytes → at j ≡ before j
  at_before j h = unless _ _ _ (ne_eqb j list_bytes (λ e. omega arith))

  at_next : (j : ℕ) → j < list_bytes → next Data (get_or l j 0) t (at j) ≡ at (j + 1)
  at_next j h = elim (dec_lt j 15) [
    | yes i ↦ ap (next Data (get_or l j 0) t) (at_before j h)
        ∙ held_next (entering f a l x y j) (entering f a l x y (j + 1)) Data (get_or l j 0) d t m (list-turn f a l x y j i)
        ∙ sym (at_before (j + 1) (omega arith))
    | no i ↦ (let e : j ≡ 15 = omega (arith, lt_of_not-le i) in
        ap (next Data (get_or l j 0) t) (at_before j h)
        ∙ ap (λ (q : ℕ). next Data (get_or l q 0) t (before q)) e
        ∙ sym (when _ _ _ refl)
        ∙ ap (λ (q : ℕ). at (q + 1)) (sym e))
  ]

  pub writes-on : (i j : ℕ) → j + i ≤ list_bytes → after_writes (take i (drop j l)) t (at j) ≡ at (j + i)
  writes-on = writes-after at l t list_bytes (omega arith) at_next

  -- behind the last the record is in no list run
  done-untaking : is_taking (phase_of (at list_bytes).file) ≡ false
  unfolding choose◌then◌else◌
  done-untaking =
      let w = list-last f a l x y in
      let g : TaskFile = entering f a l x y 15 in
      ap (λ (r : Transfer). is_taking (phase_of r.file)) (due-next g Data (get_or l 15 0) d t m PerformsListed (ap (λ (q : Turn). q.due) w))
      ∙ answered_untaking _ _ _

  before-size : (j : ℕ) → count_of (before j).file ≡ min f.limit (length l - (j - j % f.limit))
  before-size j =
      along-count (over f a l x y (entered l f.list j)) j a.limited
      ∙ ap (λ (n : ℕ). min f.limit (n - (j - j % f.limit))) (a.whole ∙ sym x)

  -- where a run begins the byte count is "the smaller of what remains and the .. limit"
  start-count : (j : ℕ) → j < list_bytes → j % f.limit ≡ 0 → count_of (at j).file ≡ size_at f.limit l j
  start-count j h z =
      let e : min f.limit (length l - (j - j % f.limit)) ≡ size_at f.limit l j = omega arith in
      ap (λ (r : Transfer). count_of r.file) (at_before j h) ∙ before-size j ∙ e

  start-takes : (j : ℕ) → j < list_bytes → is_taking (phase_of (at j).file) ≡ true
  start-takes j h = ap (λ (r : Transfer). is_taking (phase_of r.file)) (at_before j h) ∙ ap is_taking (entering-phase f a l x y j h)

  -- the host's loop goes through the bytes
  pub write-loops : Loops f.limit l (λ p. p) at (λ k j. feed k (drop j l) t (at j)) (λ k j. fed k (drop j l) t (at j))
  unfolding feed fed
  write-loops = record {
    none = λ j. (refl, refl);
    more = λ k j h z.
        let c = size_at f.limit l j in
        let g = start-takes j (omega arith) in
        let e = start-count j (omega arith) z in
        let w = writes-on c j (omega arith) in
        let q = drop-drop c j l in (
          when _ _ _ g
              ∙ ap (λ (n : ℕ). take n (drop j l) ∷ feed k (drop n (drop j l)) t (after_writes (take n (drop j l)) t (at j))) e
              ∙ ap (λ (r : Transfer). take c (drop j l) ∷ feed k (drop c (drop j l)) t r) w
              ∙ ap (λ (r : List ℕ). take c (drop j l) ∷ feed k r t (at (j + c))) q,
          when _ _ _ g
              ∙ ap (λ (n : ℕ). fed k (drop n (drop j l)) t (after_writes (take n (drop j l)) t (at j))) e
              ∙ ap (fed k (drop c (drop j l)) t) w
              ∙ ap (λ (r : List ℕ). fed k r t (at (j + c))) q,
        );
    over = λ k.
        let g : is_taking (phase_of (at (length l)).file) ≡ false = ap (λ (q : ℕ). is_taking (phase_of (at q).file)) x ∙ done-untaking in
        (unless _ _ _ g, unless _ _ _ g);
  }
