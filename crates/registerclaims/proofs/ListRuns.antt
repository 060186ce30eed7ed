-- K14: K4's list enters in runs; true since each write lays the next byte, and a run's writes reach where the next piece begins.
use Rattle.std.specs.Prelude.{ℕ, ◌*◌, ◌<◌, ◌≡◌, refl, true, List, length, get_or, take}
use Rattle.std.proofs.Common.{sym, ap, subst₂, ◌∙◌, map-id, arith, zero-add, take_all}
use Rattle.ground.specs.Tests.{when}
use Rattle.drive.specs.declared.state.Drive.{Drive}
use Rattle.outcome.specs.Outcome.{bytes_of}
use Rattle.target.specs.Packet.{answer}
use Rattle.taskfile.specs.declared.TaskFile.{TaskFile}
use Rattle.taskfile.specs.declared.Turn.{Turn}
use Rattle.taskfile.specs.declared.Phase.TheVariants.{ListRun}
use Rattle.taskfile.specs.declared.Access.TheVariants.{Data}
use Rattle.taskfile.specs.TaskFile.{takes_list_reason, list_bytes, placed}
use Rattle.taskfile.specs.Run.{takes_list, phase_of}
use Rattle.taskfile.specs.Host.{held, packet_end, turn_of}
use Rattle.registers.specs.Registers.{asks}
use Rattle.registerclaims.specs.RegisterLimit.{Limit}
use Rattle.registerclaims.specs.Cut.{cut}
use Rattle.registerclaims.specs.Loop.{loops-got, loops-going, loops-done}
use Rattle.registerclaims.specs.Along.{along, Listing, begun-along, list_left, Shows, along-shows}
use Rattle.registerclaims.specs.Transfer.{Transfer, transfer_of, next, after_writes, feed, fed}
use Rattle.registerclaims.specs.RegisterRuns.{Leaves}
use Rattle.registerclaims.proofs.RegisterTurnLaws.{listed-limit}
use Rattle.registerclaims.proofs.TargetRuns.{listed-runs}
use Rattle.registerclaims.specs.WriteLaws.{writes-last, entered, over, over-listing, entering-phase, list-turn, list-last}
use Rattle.registerclaims.proofs.ListLaws.{before, at, at_before, writes-on, write-loops}
use Rattle.registerclaims.specs.ListRuns.{Completes, Untouched, Enters}
use Rattle.registerclaims.specs.ListRuns as said

-- the runs over a record along its transfer
module _ (f : TaskFile) (a : Listing f) (l : List ℕ) (x : length l ≡ list_bytes) (y : length f.list ≡ list_bytes) (d : Drive) (t m : List ℕ) where
  abbrev start : Transfer
  start = said.start f a l x y d t m

  start-at : start ≡ at f a l x y d t m 0
  start-at = sym (at_before f a l x y d t m 0 (omega arith))

  positive : 0 < f.limit
  positive = let w = a.limited.least in omega arith

  -- behind j bytes
  behind : (j : ℕ) → j < list_bytes → after_writes (take j l) t start ≡ before f a l x y d t m j
  behind j h =
      ap (after_writes (take j l) t) start-at
      ∙ writes-on f a l x y d t m j 0 (omega arith)
      ∙ ap (at f a l x y d t m) (zero-add j)
      ∙ at_before f a l x y d t m j h

  along-enters : Enters f.limit l t start
  along-enters = record {
    runs = λ k. ap (feed k l t) start-at ∙ loops-got (write-loops f a l x y d t m) positive k ∙ map-id (take k (cut f.limit l));
    going = λ k i. let w = loops-going (write-loops f a l x y d t m) positive k i in going k w.0 (rw x at w.1);
    done = λ k i. ap (fed k l t) start-at ∙ loops-done (write-loops f a l x y d t m) positive k i ∙ sym all;
    shows = λ j i. shows j (rw x at i);
    waits = λ j i. let e = behind j (omega arith) in rw e (ap (λ (w : Turn). w.due) (list-turn f a l x y j i));
    quiet = λ j i. let e = behind j (omega arith) in rw e (record { state = refl; memory = refl });
    last = let e = behind 15 (omega arith) in
        rw (e, list-last f a l x y) (record { due = refl; list = refl; packet = refl; limit = refl });
  }
    where
      going : (k : ℕ) → fed k l t (at f a l x y d t m 0) ≡ at f a l x y d t m (k * f.limit) → k * f.limit < list_bytes
          → phase_of (fed k l t start).file ≡ ListRun
      going k e q =
          ap (λ (r : Transfer). phase_of r.file) (ap (fed k l t) start-at ∙ e ∙ at_before f a l x y d t m (k * f.limit) q)
          ∙ entering-phase f a l x y (k * f.limit) q

      all : after_writes l t start ≡ at f a l x y d t m (length l)
      all =
          ap (λ (p : List ℕ). after_writes p t start) (sym (take_all list_bytes l (omega arith)))
          ∙ ap (after_writes (take list_bytes l) t) start-at
          ∙ writes-on f a l x y d t m list_bytes 0 (omega arith)
          ∙ ap (at f a l x y d t m) (sym x)

      shows : (j : ℕ) → j < list_bytes → Shows ListRun f.limit l j (after_writes (take j l) t start).file
      shows j i =
          let g : TaskFile = over f a l x y (entered l f.list j) in
          let q : Listing g = over-listing f a l x y (entered l f.list j) in
          let n : length l ≡ f.len = x ∙ sym a.whole in
          let p = entering-phase f a l x y j i in
          rw (behind j i) (along-shows ListRun g j l a.limited n (let k = a.whole in omega arith) p (list_left g j q i))

-- "Only 55h asking for 16 bytes takes a list", "K4's list enters .. in runs": from the packet's end, for any 16 bytes
pub list-runs : (g : TaskFile) (l : List ℕ) (d : Drive) (t m : List ℕ) → Limit g.limit → takes_list g.packet ≡ true
    → length l ≡ list_bytes → length g.list ≡ list_bytes → Enters g.limit l t (transfer_of (packet_end g).file d m)
unfolding packet_end
list-runs g l d t m w h x y =
    let e : packet_end g ≡ held (along (placed g takes_list_reason g.limit list_bytes 0) 0) =
    when _ _ _ h ∙ ap held (begun-along g takes_list_reason list_bytes) in
    rw e (along-enters (placed g takes_list_reason g.limit list_bytes 0) (record { reason = refl; takes = h; whole = refl; limited = w }) l x y d t m)

-- "The target performs a packet at the call that completes it and its list": the answer to both leaves in runs of the same limit
pub list-answers : {k : ℕ} {l t : List ℕ} {x : Transfer} → Enters k l t x → length l ≡ list_bytes
    → Leaves x.file.limit (bytes_of (answer x.state x.file.packet t l (length x.memory))) t (after_writes l t x)
list-answers {k} {l} {t} {x} w n =
    let y = after_writes (take 15 l) t x in
    let v = get_or l 15 0 in
    let q = w.quiet 15 (omega arith) in
    let c = w.last in
    let e : y.file.limit ≡ x.file.limit = sym (listed-limit y.file v Data c.due).0 ∙ c.limit in
    let g = (turn_of y.file Data v).file in
    let b : bytes_of (asks g g.list y.state t y.memory) ≡ bytes_of (answer x.state x.file.packet t l (length x.memory)) =
    rw (c.packet, c.list, q.state, q.memory) refl in
    rw (writes-last l t 15 x n)
    (subst₂ (λ i r. Leaves i r t (next Data v t y)) e b (listed-runs y.file Data v y.state t y.memory c.due))
