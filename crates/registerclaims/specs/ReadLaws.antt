-- K14: data reads in answer runs: each read moves the record one byte along, so a run's reads reach where the next piece begins.
use Prim.Native.Nat.{ℕ, zero, suc, ◌+◌, ◌-◌, ◌%◌, ◌≤◌, ◌<◌}
use Rattle.std.specs.Prelude.{◌≡◌, true, length, take, drop, eqb}
use Rattle.std.proofs.Math.Path.{refl, sym, ap}
use Rattle.std.proofs.Common.{◌∙◌, add-zero, add-one, length-take-le, drop-cons}
use mathlib.Core.List.{List, [], ◌∷◌, map}
use native.Mathlib.Omega.{arith}
use Rattle.std.proofs.Math.ListN.{get_or}
use Rattle.std.proofs.Math.Seq.{get_or-take}
use borrow.Author.Tests.{eqb-true, le-ltb, eq-eqb, ne_eqb}
use Rattle.ground.specs.Tests.{choose◌then◌else◌, either, when, unless}
use Rattle.drive.specs.declared.state.Drive.{Drive}
use Rattle.table.specs.Layout.{bound}
use Rattle.taskfile.specs.declared.TaskFile.{TaskFile}
use Rattle.taskfile.specs.declared.Turn.{Turn}
use Rattle.taskfile.specs.declared.Phase.{Phase}
use Rattle.taskfile.specs.declared.Access.TheVariants.{Read}
use Rattle.taskfile.specs.declared.Due.TheVariants.{Gives}
use Rattle.taskfile.specs.TaskFile.{count_of, ended}
use Rattle.taskfile.specs.Run.{size_of, phase_of}
use Rattle.taskfile.specs.RunLaws.{ended-idle}
use Rattle.taskfile.specs.Host.{answer_byte, read_turn, turn_of}
use Rattle.registers.specs.declared.Answer.{Answer}
use Rattle.registers.specs.declared.Stepped.{Stepped}
use Rattle.registers.specs.Registers.{plain, stands, gives, step_by, memory_by, step_of, memory_of}
use Rattle.registerclaims.specs.Loop.{size_at, Loops}
use Rattle.registerclaims.specs.Along.{along, moved_to, Answering, gone-along, along-count, along-answer}
use Rattle.registerclaims.specs.Transfer.{Transfer, transfer_of, handed, left, next, reads_of, after_reads, is_giving, drain, drained}

-- the record behind j bytes of the answer: "status ends it"
abbrev pub reached : TaskFile → ℕ → TaskFile
reached f j = choose eqb j f.len then ended (along f (f.len - 1)) else along f j

-- a byte v handed back, and nothing else
abbrev pub given : Drive → ℕ → Answer
given d v = plain 0 v d

-- behind the end nothing is read
pub ended-drain : (g : TaskFile) (d : Drive) (t m : List ℕ) (k : ℕ)
    → (drain k t (transfer_of (ended g) d m) ≡ []) × (drained k t (transfer_of (ended g) d m) ≡ transfer_of (ended g) d m)
unfolding drain drained
ended-drain g d t m zero = (refl, refl)
ended-drain g d t m (suc k) = let e = ap is_giving (ended-idle g) in (unless _ _ _ e, unless _ _ _ e)

-- ---- a read

module _ (f : TaskFile) (a : Answering f) where
  read-turn : (j : ℕ) → j < f.len → turn_of (along f j) Read 0 ≡ record { due = Gives; file = reached f (j + 1) }
  unfolding turn_of answer_byte
  read-turn j h =
      let l = a.limited in
      ap (λ (s : Phase). read_turn s (along f j)) (along-answer f j a h)
      ∙ ap (λ (g : TaskFile). record { due = Gives; file = g })
      (either (λ (g : TaskFile). g ≡ reached f (j + 1)) (eqb (j + 1) f.len)
      (λ e. let q = eqb-true (j + 1) f.len e in
      let i : j ≡ f.len - 1 = omega arith in
      ap (λ (k : ℕ). ended (along f k)) i ∙ sym (when _ _ _ e))
      (λ e. gone-along f j (omega arith) ∙ sym (unless _ _ _ e)))

  -- a data read in an answer run, with any state and table and a memory that refusal 3 lets pass: the next byte, and the record one byte along
  pub read_step : (j : ℕ) (d : Drive) (t m : List ℕ) → j < f.len → bound ≤ length m
      → (step_of (along f j) Read 0 d t m ≡ stands (reached f (j + 1)) (given d (get_or m j 0))) × (memory_of (along f j) Read 0 d t m ≡ m)
  unfolding step_of memory_of gives
  read_step j d t m h b =
      let e = read-turn j h in (
        ap (λ (w : Turn). step_by w.due (along f j) w.file d t m) e ∙ unless _ _ _ (le-ltb (length m) bound b),
        ap (λ (w : Turn). memory_by w.due w.file d t m) e,
      )

  module _ (d : Drive) (t m : List ℕ) (b : bound ≤ length m) where
    abbrev pub Upon : ℕ → Transfer
    Upon j = transfer_of (reached f j) d m

    pub reached-along : (j : ℕ) → j < f.len → Upon j ≡ transfer_of (along f j) d m
    reached-along j h = ap (λ (g : TaskFile). transfer_of g d m) (unless _ _ _ (ne_eqb j f.len (λ e. omega arith)))

    pub read_next : (j : ℕ) → j < f.len → next Read 0 t (Upon j) ≡ Upon (j + 1)
    read_next j h =
        let s = read_step j d t m h b in
        ap (next Read 0 t) (reached-along j h)
        ∙ ap (λ (r : Stepped). left r (memory_of (along f j) Read 0 d t m)) s.0
        ∙ ap (transfer_of (reached f (j + 1)) d) s.1

    read-handed : (j : ℕ) → j < f.len → handed Read 0 t (Upon j) ≡ given d (get_or m j 0)
    read-handed j h = ap (handed Read 0 t) (reached-along j h) ∙ ap (λ (r : Stepped). r.answer) (read_step j d t m h b).0

    -- ---- a run

    pub reads-after : (n j : ℕ) → j + n ≤ f.len → after_reads n t (Upon j) ≡ Upon (j + n)
    unfolding after_reads
    reads-after zero j h = ap Upon (sym (add-zero j))
    reads-after (suc n) j h =
        let e : j + 1 + n ≡ j + suc n = omega arith in
        ap (after_reads n t) (read_next j (omega arith)) ∙ reads-after n (j + 1) (omega arith) ∙ ap Upon e

    -- the bytes of the answer, as the memory holds them
    abbrev pub Bytes : List ℕ
    Bytes = take f.len m

    pub bytes-length : length Bytes ≡ f.len
    bytes-length = let k = a.fits in length-take-le f.len m (omega arith)

    pub bytes-end : Upon (length Bytes) ≡ transfer_of (ended (along f (f.len - 1))) d m
    bytes-end = ap (λ (g : TaskFile). transfer_of g d m) (when _ _ _ (eq-eqb (length Bytes) f.len bytes-length))

    reads_bytes : (n j : ℕ) → j + n ≤ f.len → reads_of n t (Upon j) ≡ map (given d) (take n (drop j Bytes))
    unfolding reads_of
    reads_bytes zero j h = refl
    reads_bytes (suc n) j h =
        let k : j < f.len = omega arith in
        let e : get_or Bytes j 0 ≡ get_or m j 0 = get_or-take f.len m j 0 k in
        let l = bytes-length in
        ap (λ (x : Transfer). handed Read 0 t (Upon j) ∷ reads_of n t x) (read_next j k)
        ∙ ap (λ (r : Answer). r ∷ reads_of n t (Upon (j + 1))) (read-handed j k ∙ ap (given d) (sym e))
        ∙ ap (λ (r : List Answer). given d (get_or Bytes j 0) ∷ r)
        (reads_bytes n (j + 1) (omega arith) ∙ ap (λ (i : ℕ). map (given d) (take n (drop i Bytes))) (add-one j))
        ∙ ap (λ (r : List ℕ). map (given d) (take (suc n) r)) (sym (drop-cons Bytes j 0 (omega arith)))

    -- ---- the runs

    -- where a run begins the byte count is "the smaller of what remains and the .. limit"
    start-count : (j : ℕ) → j < f.len → j % f.limit ≡ 0 → count_of (Upon j).file ≡ size_at f.limit Bytes j
    start-count j h z =
        let l = bytes-length in
        let e : size_of (moved_to f j) ≡ size_at f.limit Bytes j = omega arith in
        ap (λ (x : Transfer). count_of x.file) (reached-along j h) ∙ along-count f j a.limited ∙ e

    start_gives : (j : ℕ) → j < f.len → is_giving (phase_of (Upon j).file) ≡ true
    start_gives j h = ap (λ (x : Transfer). is_giving (phase_of x.file)) (reached-along j h) ∙ ap is_giving (along-answer f j a h)

    -- the host's loop goes through the bytes
    pub read-loops : Loops f.limit Bytes (map (given d)) Upon (λ k j. drain k t (Upon j)) (λ k j. drained k t (Upon j))
    unfolding drain drained
    read-loops = record {
      none = λ j. (refl, refl);
      more = λ k j h z.
          let l = bytes-length in
          let g = start_gives j (omega arith) in
          let e = start-count j (omega arith) z in
          let w = reads-after (size_at f.limit Bytes j) j (omega arith) in (
            when _ _ _ g
                ∙ ap (λ (n : ℕ). reads_of n t (Upon j) ∷ drain k t (after_reads n t (Upon j))) e
                ∙ ap (λ (r : List Answer). r ∷ drain k t (after_reads (size_at f.limit Bytes j) t (Upon j)))
                (reads_bytes (size_at f.limit Bytes j) j (omega arith))
                ∙ ap (λ (x : Transfer). map (given d) (take (size_at f.limit Bytes j) (drop j Bytes)) ∷ drain k t x) w,
            when _ _ _ g ∙ ap (λ (n : ℕ). drained k t (after_reads n t (Upon j))) e ∙ ap (drained k t) w,
          );
      over = λ k.
          let u = bytes-end in
          let w = ended-drain (along f (f.len - 1)) d t m (suc k) in
          (ap (drain (suc k) t) u ∙ w.0, ap (drained (suc k) t) u ∙ w.1 ∙ sym u);
    }
