-- K14: the target's answers leave in runs, of every state, packet, table, list and memory; true since an answer that has bytes passed refusal 3,
-- and claims' Whole holds it under the bound.
use Rattle.std.specs.Prelude.{ℕ, ◌≤◌, ◌<◌, min, ◌≡◌, refl, List, [], ◌∷◌, length, take, drop, eqb}
use Rattle.std.proofs.Common.{sym, ◌∙◌, arith, length-take, ltb-false}
use Rattle.std.proofs.Math.Path.{ap}
use Rattle.std.proofs.Math.Decide.{ℕ_discrete}
use Rattle.std.proofs.Math.Seq.{take-append_seam}
use Rattle.std.proofs.lemmas.Bool.{not-true}
use Rattle.ground.specs.Tests.{either, and_head, and_tail}
use Rattle.ground.specs.Memory.{fill, fill_fits, fill-length}
use Rattle.deck.specs.declared.Deck.{Deck}
use Rattle.drive.specs.declared.state.Drive.{Drive}
use Rattle.table.specs.Layout.{bound}
use Rattle.gate.specs.Gate.{Reply}
use Rattle.outcome.specs.Outcome.{state_of, bytes_of}
use Rattle.target.specs.Packet.{refusal_of, answer}
use Rattle.taskfile.specs.declared.TaskFile.{TaskFile}
use Rattle.taskfile.specs.declared.Access.{Access}
use Rattle.taskfile.specs.declared.Due.{Due}
use Rattle.taskfile.specs.declared.Due.TheVariants.{Performs, PerformsListed}
use Rattle.taskfile.specs.TaskFile.{count_of}
use Rattle.taskfile.specs.Run.{limit_of}
use Rattle.taskfile.specs.Host.{answered, turn_of}
use Rattle.registers.specs.Registers.{asks, performed, step_by, memory_by, step_of, memory_of}
use Rattle.claims.proofs.WholeLaws.{reply-held}
use Rattle.claims.proofs.RefusalLaws.{refusal-ordered}
use Rattle.registerclaims.specs.RegisterLimit.{Limit, limit_limit}
use Rattle.registerclaims.specs.Transfer.{transfer_of, left, next}
use Rattle.registerclaims.proofs.RegisterRunsJoined.{leaves-whole}
use Rattle.registerclaims.specs.RegisterRuns.{Leaves, Joined, showing, ended-leaves, answer-runs, answer-none}
use Rattle.registerclaims.proofs.RegisterTurnLaws.{performs-limit, listed-limit}
use Rattle.registerclaims.specs.TargetRuns as said

-- an answer that has bytes was lent a memory that refusal 3 lets pass
reply-passed : (d : Drive) (p t l : List ℕ) (n : ℕ) → 0 < length (bytes_of (answer d p t l n)) → bound ≤ n
unfolding answer
reply-passed d p t l n =
    either (λ (a : Reply Deck). 0 < length (bytes_of a) → bound ≤ n) (eqb (refusal_of d p t n) 0)
    (λ e h. ltb-false n bound (not-true _ (and_head _ _ (and_tail _ _ (and_tail _ _ (sym (refusal-ordered d p t n).zero ∙ e))))))
    (λ e h. absurd (omega arith))

none_of : (l : List ℕ) → length l ≡ 0 → l ≡ []
none_of [] h = refl
none_of (a ∷ l) h = absurd (omega arith)

-- a packet performed over a record with a limit: its bytes leave in runs, out of the memory as it was left
performed-leaves : (g : TaskFile) (l : List ℕ) (d : Drive) (t m : List ℕ) → Limit g.limit →
    let a = asks g l d t m in
    Leaves g.limit (bytes_of a) t (left (performed a g) (fill m (bytes_of a)))
performed-leaves g l d t m w =
    let a = asks g l d t m in
    let e : min a.limit (length a.full) ≡ length (bytes_of a) = sym (length-take a.limit a.full) in
    let i = w.least in
    rw e (elim (ℕ_discrete (length (bytes_of a)) 0) [
      | yes z ↦ rw (none_of (bytes_of a) z, answer-none g a.status) (ended-leaves g.limit (showing g a.status) (state_of a) t _ (omega arith))
      | no z ↦ some a refl e (omega (arith, z))
    ])
  where
    some : (a : Reply Deck) → a ≡ asks g l d t m → min a.limit (length a.full) ≡ length (bytes_of a) → 0 < length (bytes_of a)
        → Leaves g.limit (bytes_of a) t (transfer_of (answered g a.status (length (bytes_of a))) (state_of a) (fill m (bytes_of a)))
    some a q e z =
        let b = bytes_of a in
        let p : bound ≤ length m = reply-passed d g.packet t l (length m) (rw q at z) in
        let f = (reply-held d g.packet t l (length m)).0 in
        let f' : length a.full ≤ bound = rw q f in
        let n = fill-length m b in
        let s : take (length b) (fill m b) ≡ b = ap (take (length b)) (fill_fits m b (omega arith)) ∙ take-append_seam b (drop (length b) m) in
        rw s at (answer-runs g a.status (length b) (state_of a) t (fill m b) w (omega arith) (omega arith))

module _ (f : TaskFile) (x : Access) (v : ℕ) (d : Drive) (t m : List ℕ) where
  abbrev whole : TaskFile
  whole = said.whole f x v d t m

  -- what an access leaves, by what is due at it
  pub due-next : (q : Due) → (turn_of f x v).due ≡ q → next x v t (transfer_of f d m) ≡ left (step_by q f whole d t m) (memory_by q whole d t m)
  unfolding step_of memory_of
  due-next q e = ap (λ (q : Due). left (step_by q f whole d t m) (memory_by q whole d t m)) e

  -- "A run is the smaller of what remains and the host's byte count limit as held at the packet's end": from the access that completes a packet
  -- without a list its answer's bytes leave in such runs
  pub packet-runs : count_of f < 65536 → (turn_of f x v).due ≡ Performs
      → Leaves (limit_of (count_of f)) (bytes_of (asks whole [] d t m)) t (next x v t (transfer_of f d m))
  packet-runs h e =
      let i = performs-limit f v x e in
      rw (due-next Performs e) (rw i at (performed-leaves whole [] d t m (rw i (limit_limit (count_of f) h))))

  -- and from the one that completes the list, with the same limit
  pub listed-runs : (turn_of f x v).due ≡ PerformsListed
      → Leaves f.limit (bytes_of (asks whole whole.list d t m)) t (next x v t (transfer_of f d m))
  listed-runs e =
      let i = listed-limit f v x e in
      rw (due-next PerformsListed e) (rw i.0 at (performed-leaves whole whole.list d t m (rw i.0 i.1)))

  -- "The runs joined are the answer's bytes, and the last leaves after exactly the quotient of length by run size, rounded up."
  pub packet-runs-joined : count_of f < 65536 → (turn_of f x v).due ≡ Performs →
      let b = bytes_of (asks whole [] d t m) in
      Joined (limit_of (count_of f)) b t (next x v t (transfer_of f d m))
  packet-runs-joined h e = leaves-whole (packet-runs h e)

  pub listed-runs-joined : (turn_of f x v).due ≡ PerformsListed →
      let b = bytes_of (asks whole whole.list d t m) in
      Joined f.limit b t (next x v t (transfer_of f d m))
  listed-runs-joined e = leaves-whole (listed-runs e)
