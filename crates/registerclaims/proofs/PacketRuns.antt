-- K14: from PACKET to the last byte of the answer, for any packet, list, state, table and memory; true by joining the runs of packet, list and
-- answer, each of which begins where the one before it ends.
use Rattle.std.specs.Prelude.{ℕ, ◌+◌, ◌<◌, ◌≡◌, refl, true, false, List, [], length, get_or, take}
use Rattle.std.proofs.Math.Path.{sym}
use Rattle.std.proofs.Common.{ap, ◌∙◌, arith, zero-add}
use Rattle.ground.specs.Tests.{when, unless}
use Rattle.drive.specs.declared.state.Drive.{Drive}
use Rattle.outcome.specs.Outcome.{bytes_of}
use Rattle.target.specs.Packet.{answer}
use Rattle.taskfile.specs.declared.TaskFile.{TaskFile}
use Rattle.taskfile.specs.declared.Turn.{Turn}
use Rattle.taskfile.specs.declared.Access.TheVariants.{Data}
use Rattle.taskfile.specs.declared.Due.TheVariants.{Performs}
use Rattle.taskfile.specs.TaskFile.{takes_list_reason, packet_bytes, list_bytes, count_of, asked}
use Rattle.taskfile.specs.Run.{limit_of, takes_list}
use Rattle.taskfile.specs.Host.{begun, packet_end, turn_of}
use Rattle.registerclaims.specs.RegisterLimit.{limit_limit}
use Rattle.registerclaims.specs.Transfer.{transfer_of, next, after_writes}
use Rattle.registerclaims.specs.RegisterRuns.{Leaves}
use Rattle.registerclaims.proofs.TargetRuns.{packet-runs}
use Rattle.registerclaims.specs.WriteLaws.{held_next, writes-after, writes-last, asking, asking-phase, asking-left, packet-turn, packet-last}
use Rattle.registerclaims.specs.ListRuns.{Enters}
use Rattle.registerclaims.proofs.ListRuns.{list-runs, list-answers}
use Rattle.registerclaims.specs.PacketRuns.{ending, Asks}

module _ (f : TaskFile) (p : List ℕ) (d : Drive) (t m : List ℕ) (x : length p ≡ packet_bytes) (y : length f.packet ≡ packet_bytes) where
  behind : (j : ℕ) → j < packet_bytes → after_writes (take j p) t (transfer_of (asked f) d m) ≡ transfer_of (asking f p x y j) d m
  behind j h =
      writes-after (λ i. transfer_of (asking f p x y i) d m) p t 11 (omega arith)
      (λ i k. held_next (asking f p x y i) (asking f p x y (i + 1)) Data (get_or p i 0) d t m (packet-turn f p x y i k)) j 0 (omega arith)
      ∙ ap (λ (i : ℕ). transfer_of (asking f p x y i) d m) (zero-add j)

  -- "PACKET A0h asks for 12 bytes": whatever the record held before
  pub packet-enters : Asks p t (transfer_of (asked f) d m)
  packet-enters = record {
    phase = λ j h. rw (behind j h) (asking-phase f p x y j h);
    left = λ j h. rw (behind j h) (asking-left f p x y j h);
    count = λ j h. rw (behind j h) refl;
    quiet = λ j h. rw (behind j h) (record { state = refl; memory = refl });
    waits = λ j h. let e = behind j (omega arith) in rw e (ap (λ (w : Turn). w.due) (packet-turn f p x y j h));
    last = let e = behind 11 (omega arith) in rw e (packet-last f p x y);
  }

  whole : after_writes p t (transfer_of (asked f) d m) ≡ next Data (get_or p 11 0) t (transfer_of (asking f p x y 11) d m)
  whole = writes-last p t 11 (transfer_of (asked f) d m) (omega arith) ∙ ap (next Data (get_or p 11 0) t) (behind 11 (omega arith))

  -- "else it is empty": any other packet is performed with an empty list at its last byte, and its answer leaves in runs
  pub packet-answers : count_of f < 65536 → takes_list p ≡ false
      → Leaves (limit_of (count_of f)) (bytes_of (answer d p t [] (length m))) t (after_writes p t (transfer_of (asked f) d m))
  unfolding packet_end
  packet-answers h k =
      let e : turn_of (asking f p x y 11) Data (get_or p 11 0) ≡ record { due = Performs; file = ending f p } = packet-last f p x y ∙ unless _ _ _ k in
      rw whole (rw (ap (λ (w : Turn). w.file) e) at (packet-runs (asking f p x y 11) Data (get_or p 11 0) d t m h (ap (λ (w : Turn). w.due) e)))

  -- "Only 55h asking for 16 bytes takes a list": from its last byte on the record is in a list run
  listed : takes_list p ≡ true → after_writes p t (transfer_of (asked f) d m) ≡ transfer_of (begun (ending f p) takes_list_reason list_bytes) d m
  unfolding packet_end
  listed k = whole ∙ held_next (asking f p x y 11) _ Data (get_or p 11 0) d t m (packet-last f p x y ∙ when _ _ _ k)

  module _ (l : List ℕ) (h : count_of f < 65536) (k : takes_list p ≡ true) (u : length l ≡ list_bytes) (v : length f.list ≡ list_bytes) where
    -- the list enters in runs ..
    pub packet-lists : Enters (limit_of (count_of f)) l t (after_writes p t (transfer_of (asked f) d m))
    unfolding packet_end
    packet-lists =
        let e = listed k ∙ sym (ap (λ (w : Turn). transfer_of w.file d m) (when _ _ _ k)) in
        rw e (list-runs (ending f p) l d t m (limit_limit (count_of f) h) k u v)

    -- .. and the answer to packet and list leaves in runs
    pub packet-list-answers :
        Leaves (limit_of (count_of f)) (bytes_of (answer d p t l (length m))) t (after_writes l t (after_writes p t (transfer_of (asked f) d m)))
    packet-list-answers = rw (listed k) (list-answers (rw (listed k) at packet-lists) u)
