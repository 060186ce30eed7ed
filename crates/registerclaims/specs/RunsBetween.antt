-- K14: "even if tray calls come between its runs": true since a data read looks neither at the drive state nor at the table.
use Prim.Native.Nat.{ℕ, suc, ◌+◌, ◌≤◌, ◌<◌}
use Rattle.std.specs.Prelude.{◌≡◌, get_or, take, drop}
use Rattle.std.proofs.Math.Path.{refl, ap}
use Rattle.std.proofs.Common.{sym, ◌∙◌, add-zero, add-one, get_or-take, drop-cons, ne_eqb}
use mathlib.Core.List.{List, [], ◌∷◌}
use native.Mathlib.Omega.{arith}
use Rattle.std.proofs.Math.ListN.{length}
use Rattle.std.proofs.Math.Seq.{length-take-le}
use Rattle.ground.specs.Tests.{unless}
use Rattle.drive.specs.declared.state.Drive.{Drive}
use Rattle.table.specs.Layout.{bound}
use Rattle.taskfile.specs.declared.TaskFile.{TaskFile}
use Rattle.taskfile.specs.declared.Access.TheVariants.{Read}
use Rattle.taskfile.specs.Run.{most_bytes}
use Rattle.taskfile.specs.Host.{answered}
use Rattle.registers.specs.declared.Answer.{Answer}
use Rattle.registers.specs.declared.Stepped.{Stepped}
use Rattle.registers.specs.Registers.{stands, step_of}
use Rattle.registerclaims.specs.RegisterLimit.{Limit}
use Rattle.registerclaims.specs.Along.{Answering}
use Rattle.registerclaims.specs.Transfer.{Transfer, transfer_of, after_reads}
use Rattle.registerclaims.specs.ReadLaws.{reads-after, reached, given, read_step}
use Rattle.registerclaims.specs.RegisterRuns.{answering, answer_some}

-- what a read meets at its time
pub record Lent : Type 0 where
  pub state : Drive
  pub table : List ℕ

-- data reads out of one memory, each with the state and the table of its time: their answers
unfoldable pub reads_under : List Lent → TaskFile → List ℕ → List Answer
reads_under [] f m = []
reads_under (x ∷ xs) f m =
    (step_of f Read 0 x.state x.table m).answer ∷ reads_under xs (step_of f Read 0 x.state x.table m).file m

-- and the record behind them
unfoldable pub record_under : List Lent → TaskFile → List ℕ → TaskFile
record_under [] f m = f
record_under (x ∷ xs) f m = record_under xs (step_of f Read 0 x.state x.table m).file m

-- the bytes l handed back one by one, each with the state of its time
unfoldable pub handed_out : List Lent → List ℕ → List Answer
handed_out [] l = []
handed_out (x ∷ xs) [] = []
handed_out (x ∷ xs) (v ∷ l) = given x.state v ∷ handed_out xs l

module _ (f : TaskFile) (a : Answering f) (m : List ℕ) (b : bound ≤ length m) where
  read_between : (x : Lent) (j : ℕ) → j < f.len
      → step_of (reached f j) Read 0 x.state x.table m ≡ stands (reached f (j + 1)) (given x.state (get_or (take f.len m) j 0))
  read_between x j k =
      ap (λ (g : TaskFile). step_of g Read 0 x.state x.table m) (unless _ _ _ (ne_eqb j f.len (λ e. omega arith)))
      ∙ (read_step f a j x.state x.table m k b).0
      ∙ ap (λ (v : ℕ). stands (reached f (j + 1)) (given x.state v)) (sym (get_or-take f.len m j 0 k))

  reads-between : (xs : List Lent) (j : ℕ) → j + length xs ≤ f.len → reads_under xs (reached f j) m ≡ handed_out xs (drop j (take f.len m))
  unfolding reads_under handed_out
  reads-between [] j h = refl
  reads-between (x ∷ xs) j h =
      let n : length (take f.len m) ≡ f.len = let w = a.fits in length-take-le f.len m (omega arith) in
      ap (λ (r : Stepped). r.answer ∷ reads_under xs r.file m) (read_between x j (omega arith))
      ∙ ap (λ (r : List Answer). given x.state (get_or (take f.len m) j 0) ∷ r)
      (reads-between xs (j + 1) (omega arith) ∙ ap (λ (i : ℕ). handed_out xs (drop i (take f.len m))) (add-one j))
      ∙ ap (handed_out (x ∷ xs)) (sym (drop-cons (take f.len m) j 0 (omega arith)))

  record-between : (xs : List Lent) (j : ℕ) → j + length xs ≤ f.len → record_under xs (reached f j) m ≡ reached f (j + length xs)
  unfolding record_under
  record-between [] j h = ap (reached f) (sym (add-zero j))
  record-between (x ∷ xs) j h =
      let e : j + 1 + length xs ≡ j + suc (length xs) = omega arith in
      ap (λ (r : Stepped). record_under xs r.file m) (read_between x j (omega arith)) ∙ record-between xs (j + 1) (omega arith) ∙ ap (reached f) e

module _ (g : TaskFile) (s n : ℕ) (xs : List Lent) (m : List ℕ) (l : Limit g.limit) (h : n ≤ most_bytes) (b : bound ≤ length m) (p : 0 < n) (k : length xs ≤ n) where
  abbrev f : TaskFile
  f = answering g s n

  abbrev a : Answering f
  a = record { reason = refl; fits = h; limited = l }

  start : answered g s n ≡ reached f 0
  start = answer_some g s n p ∙ sym (unless _ _ _ (ne_eqb 0 n (λ e. omega arith)))

  -- "Until the transfer ends the response memory is handed on as it was left": then each read gives the next byte of the answer and leaves the
  -- state of its time, whatever calls of the drive came between ..
  pub answer-between : reads_under xs (answered g s n) m ≡ handed_out xs (take n m)
  answer-between = ap (λ (r : TaskFile). reads_under xs r m) start ∙ reads-between f a m b xs 0 (omega arith)

  -- .. and the record goes as it does without them
  pub record_same : (d : Drive) (t : List ℕ) → record_under xs (answered g s n) m ≡ (after_reads (length xs) t (transfer_of (answered g s n) d m)).file
  record_same d t =
      ap (λ (r : TaskFile). record_under xs r m) start
      ∙ record-between f a m b xs 0 (omega arith)
      ∙ sym (ap (λ (r : TaskFile). (after_reads (length xs) t (transfer_of r d m)).file) start
      ∙ ap (λ (r : Transfer). r.file) (reads-after f a d t m b (length xs) 0 (omega arith)))
