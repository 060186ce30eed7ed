-- K14: answers leave in runs; true since the answer's bytes stand in front of the memory, and the host's runs are read off it piece by piece.
use Rattle.std.specs.Prelude.{ℕ, zero, suc, ◌-◌, ◌*◌, ◌≤◌, ◌<◌, min, ◌≡◌, refl, List, [], ◌∷◌, map, length, get_or, take, eqb}
use Rattle.std.proofs.Common.{sym, ap, ◌∙◌, arith, zero-add, take_all, ne_eqb}
use Rattle.std.proofs.lemmas.List.{length-map}
use Rattle.std.proofs.Math.ListN.{get_or-map}
use Rattle.ground.specs.Tests.{choose◌then◌else◌, unless}
use Rattle.drive.specs.declared.state.Drive.{Drive}
use Rattle.table.specs.Layout.{bound}
use Rattle.taskfile.specs.declared.TaskFile.{TaskFile}
use Rattle.taskfile.specs.declared.Phase.TheVariants.{Idle, AnswerRun}
use Rattle.taskfile.specs.TaskFile.{gives_answer_reason, placed, holding, ended}
use Rattle.taskfile.specs.Run.{most_bytes, phase_of}
use Rattle.taskfile.specs.RunLaws.{ended-idle}
use Rattle.taskfile.specs.Host.{answered}
use Rattle.registers.specs.declared.Answer.{Answer}
use Rattle.registerclaims.specs.RegisterLimit.{Limit}
use Rattle.registerclaims.specs.Cut.{cut, joined, rounded_up, cut-none, cut-joined, cut_number, cut-size}
use Rattle.registerclaims.specs.Loop.{Loops, loops-got, loops-going, loops-done}
use Rattle.registerclaims.specs.Along.{along, Answering, begun-along, along-answer, answer-left, Shows, along-shows}
use Rattle.registerclaims.specs.Transfer.{Transfer, transfer_of, after_reads, drain, drained}
use Rattle.registerclaims.specs.ReadLaws.{given, ended-drain, Upon, reached-along, reads-after, bytes-length, bytes-end, read-loops}

-- the record f with the byte count of g
abbrev pub counted : TaskFile → TaskFile → TaskFile
counted f g = holding f f.features g.low g.high f.drive f.status

-- "status ends it (CoD 1, IO 1)": x came to its end as y, and all but the byte count is as it was
pub record Over (x y : Transfer) : Type 0 where
  pub file : y.file ≡ ended (counted x.file y.file)
  pub state : y.state ≡ x.state
  pub memory : y.memory ≡ x.memory

-- the bytes b leave x in runs of at most m
pub record Leaves (m : ℕ) (b t : List ℕ) (x : Transfer) : Type 0 where
  pub some : 0 < m
  -- the first k runs of the host: each read is answered with number 0, the state as it was and the next byte of the cut
  pub runs : (k : ℕ) → drain k t x ≡ map (map (given x.state)) (take k (cut m b))
  -- "the last leaves after exactly the quotient of length by run size, rounded up": behind fewer runs there is one more ..
  pub going : (k : ℕ) → k < rounded_up (length b) m → phase_of (drained k t x).file ≡ AnswerRun
  -- .. and behind as many the transfer is over
  pub done : (k : ℕ) → rounded_up (length b) m ≤ k → Over x (drained k t x)
  -- behind each byte
  pub shows : (j : ℕ) → j < length b → Shows AnswerRun m b j (after_reads j t x).file

-- no bytes leave an ended transfer
pub ended-leaves : (m : ℕ) (g : TaskFile) (d : Drive) (t r : List ℕ) → 0 < m → Leaves m [] t (transfer_of (ended g) d r)
ended-leaves m g d t r h =
    let n : rounded_up 0 m ≡ 0 = sym (cut_number m [] h) ∙ ap length (cut-none m) in
    record {
      some = h;
      runs = λ k. (ended-drain g d t r k).0 ∙ sym (ap (λ (p : List (List ℕ)). map (map (given d)) (take k p)) (cut-none m) ∙ none k);
      going = λ k i. absurd (omega arith);
      done = λ k i. let e = (ended-drain g d t r k).1 in rw e (record { file = refl; state = refl; memory = refl });
      shows = λ j i. absurd (omega arith);
    }
  where
    none : (k : ℕ) → map (map (given d)) (take k []) ≡ []
    none zero = refl
    none (suc k) = refl

-- the runs over a record along its transfer
module _ (f : TaskFile) (a : Answering f) (d : Drive) (t r : List ℕ) (b : bound ≤ length r) (h : 0 < f.len) where
  abbrev start : Transfer
  start = transfer_of (along f 0) d r

  abbrev at : ℕ → Transfer
  at = Upon f a d t r b

  abbrev bytes : List ℕ
  bytes = take f.len r

  start-at : start ≡ at 0
  start-at = sym (reached-along f a d t r b 0 h)

  positive : 0 < f.limit
  positive = let m = a.limited.least in omega arith

  along-leaves : Leaves f.limit bytes t start
  along-leaves = record {
    some = positive;
    runs = λ k. ap (drain k t) start-at ∙ loops-got loops positive k;
    going = λ k i. let w = loops-going loops positive k i in going k w.0 (rw (bytes-length f a d t r b) at w.1);
    done = λ k i. rw (done k i) (record { file = refl; state = refl; memory = refl });
    shows = λ j i. shows j (rw (bytes-length f a d t r b) at i);
  }
    where
      loops : Loops f.limit bytes (map (given d)) at (λ k j. drain k t (at j)) (λ k j. drained k t (at j))
      loops = read-loops f a d t r b

      going : (k : ℕ) → drained k t (at 0) ≡ at (k * f.limit) → k * f.limit < f.len → phase_of (drained k t start).file ≡ AnswerRun
      going k e q =
          ap (λ (x : Transfer). phase_of x.file) (ap (drained k t) start-at ∙ e ∙ reached-along f a d t r b (k * f.limit) q)
          ∙ along-answer f (k * f.limit) a q

      done : (k : ℕ) → rounded_up (length bytes) f.limit ≤ k → drained k t start ≡ transfer_of (ended (along f (f.len - 1))) d r
      done k i = ap (drained k t) start-at ∙ loops-done loops positive k i ∙ bytes-end f a d t r b

      shows : (j : ℕ) → j < f.len → Shows AnswerRun f.limit bytes j (after_reads j t start).file
      shows j i =
          let n = bytes-length f a d t r b in
          let e : after_reads j t start ≡ transfer_of (along f j) d r =
          ap (after_reads j t) start-at ∙ reads-after f a d t r b j 0 (omega arith) ∙ ap at (zero-add j) ∙ reached-along f a d t r b j i in
          rw e (along-shows AnswerRun f j bytes a.limited n i (along-answer f j a i) (answer-left f j a i))

-- the record g with the target's status s
abbrev pub showing : TaskFile → ℕ → TaskFile
showing g s = holding g g.features g.low g.high g.drive s

-- "status ends it" at once where there are no bytes
pub answer-none : (g : TaskFile) (s : ℕ) → answered g s 0 ≡ ended (showing g s)
unfolding answered choose◌then◌else◌
answer-none g s = refl

-- and else the first run begins
abbrev pub answering : TaskFile → ℕ → ℕ → TaskFile
answering g s n = placed (showing g s) gives_answer_reason g.limit n 0

pub answer_some : (g : TaskFile) (s n : ℕ) → 0 < n → answered g s n ≡ along (answering g s n) 0
unfolding answered
answer_some g s n h = unless (eqb n 0) _ _ (ne_eqb n 0 (λ e. omega arith)) ∙ begun-along (showing g s) gives_answer_reason n

-- "answers leave in runs": the answer of status s and n bytes that stands in front of the memory r, over a record with a limit
pub answer-runs : (g : TaskFile) (s n : ℕ) (d : Drive) (t r : List ℕ) → Limit g.limit → n ≤ most_bytes → bound ≤ length r
    → Leaves g.limit (take n r) t (transfer_of (answered g s n) d r)
answer-runs g s zero d t r l h b = rw (answer-none g s) (ended-leaves g.limit (showing g s) d t r (let m = l.least in omega arith))
answer-runs g s (suc n) d t r l h b =
    rw (answer_some g s (suc n) (omega arith))
    (along-leaves (answering g s (suc n)) (record { reason = refl; fits = h; limited = l }) d t r b (omega arith))

-- ---- what the host has of them

abbrev pub byte_of : Answer → ℕ
byte_of r = r.byte

byte_of-given : (d : Drive) (l : List ℕ) → map byte_of (map (given d) l) ≡ l
byte_of-given d [] = refl
byte_of-given d (v ∷ l) = ap (λ (r : List ℕ). v ∷ r) (byte_of-given d l)

bytes-given : (d : Drive) (p : List (List ℕ)) → map (map byte_of) (map (map (given d)) p) ≡ p
bytes-given d [] = refl
bytes-given d (l ∷ p) = rw (byte_of-given d l, bytes-given d p)

module _ {m : ℕ} {b t : List ℕ} {x : Transfer} (w : Leaves m b t x) (k : ℕ) (e : rounded_up (length b) m ≤ k) where
  leaves_all : drain k t x ≡ map (map (given x.state)) (cut m b)
  leaves_all =
      let n = cut_number m b w.some in
      w.runs k ∙ ap (map (map (given x.state))) (take_all k (cut m b) (omega arith))

  -- the runs' bytes are the cut
  pub leaves-cut : map (map byte_of) (drain k t x) ≡ cut m b
  leaves-cut = ap (map (map byte_of)) leaves_all ∙ bytes-given x.state (cut m b)

  -- "The runs joined are the answer's bytes"
  pub leaves-joined : joined (map (map byte_of) (drain k t x)) ≡ b
  leaves-joined = ap joined leaves-cut ∙ cut-joined m b w.some

  -- ".. exactly the quotient of length by run size, rounded up"
  pub leaves-number : length (drain k t x) ≡ rounded_up (length b) m
  leaves-number = ap length leaves_all ∙ length-map (cut m b) (map (given x.state)) ∙ cut_number m b w.some

  -- "A run is the smaller of what remains and the host's byte count limit"
  pub leaves-size : (i : ℕ) → i < rounded_up (length b) m → length (get_or (drain k t x) i []) ≡ min m (length b - i * m)
  leaves-size i l =
      let n = cut_number m b w.some in
      ap (λ (p : List (List Answer)). length (get_or p i [])) leaves_all
      ∙ ap length (get_or-map (map (given x.state)) (cut m b) i [])
      ∙ length-map (get_or (cut m b) i []) (given x.state)
      ∙ cut-size m b i w.some (omega arith)

-- all of it: the runs of the host, however many more it would make
abbrev pub Joined : ℕ → List ℕ → List ℕ → Transfer → Type 0
Joined m b t x =
    (k : ℕ) → rounded_up (length b) m ≤ k → (joined (map (map byte_of) (drain k t x)) ≡ b) × (length (drain k t x) ≡ rounded_up (length b) m)

-- an ended transfer is in no run
pub over-idle : {x y : Transfer} → Over x y → phase_of y.file ≡ Idle
over-idle {x} {y} w = rw w.file (ended-idle (counted x.file y.file))

-- with no bytes "status ends it" at once: there is no run
pub leaves_none : {m : ℕ} {t : List ℕ} {x : Transfer} → Leaves m [] t x → x.file ≡ ended x.file
unfolding drained
leaves_none {m} w = let n : rounded_up 0 m ≡ 0 = sym (cut_number m [] w.some) ∙ ap length (cut-none m) in (w.done 0 (omega arith)).file
