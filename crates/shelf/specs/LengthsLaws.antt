-- Laws of a session's tracks by their lengths: the edges rise, and the runs of data tracks come to the blocks of each.
use Rattle.std.specs.Prelude.{◌≡◌, refl, Bool, true, false, List, ℕ, zero, suc, ◌+◌, ◌-◌, ◌≤◌, ◌<◌, Option, Some, None, IfSome}
use Rattle.std.proofs.Math.Path.{sym}
use Rattle.std.proofs.Common.{subst, ◌∙◌, arith, add-one, lt_of_not-le, lt-ltb, le-ltb}
use Rattle.std.proofs.Math.Decide.{dec_le}
use Rattle.ground.specs.Tests.{choose◌then◌else◌, when, unless}
use Rattle.table.specs.Layout.{flags_at}
use Rattle.disc.specs.Rules.{session_lead_out, track_start}
use Rattle.disc.specs.FitLaws.{Rises}
use Rattle.tracks.specs.Track.{is_data}
use Rattle.tracks.specs.declared.track.Mode.TheVariants.{Data}
use Rattle.shelf.specs.Count.{sum_below}
use Rattle.shelf.specs.CountLaws.{sum-none, sum-next}
use Rattle.shelf.specs.Lengths.{edge, track_blocks, idle, since, run_past, run_at, blocks_to}
use Rattle.shelf.specs.declared.content.Run.{Run}

-- ---- the edges

pub edge_track : (s : List ℕ) (n i : ℕ) → i < n → edge s n i ≡ track_start s i
unfolding edge
edge_track s n i h = when _ _ _ (lt-ltb _ _ h)

pub edge-out : (s : List ℕ) (n i : ℕ) → n ≤ i → edge s n i ≡ session_lead_out s
unfolding edge
edge-out s n i h = unless _ _ _ (le-ltb _ _ h)

-- the starts rise, up to the lead-out
pub edge-rises : (s : List ℕ) (n i : ℕ) → Rises s n → i < n → edge s n i < edge s n (i + 1)
edge-rises s n i r h =
    let a = edge_track s n i h in
    elim (dec_le n (i + 1)) [
      | yes g ↦ (let b = edge-out s n (i + 1) g in let l = r.lead i h in omega arith)
      | no g ↦ (let k = lt_of_not-le g in let b = edge_track s n (i + 1) k in let l = r.tracks i (i + 1) (omega arith) k in omega arith)
    ]

-- none lies past it
pub edge-most : (s : List ℕ) (n i : ℕ) → Rises s n → edge s n i ≤ session_lead_out s
edge-most s n i r = elim (dec_le n i) [
  | yes g ↦ (let b = edge-out s n i g in omega arith)
  | no g ↦ (let b = edge_track s n i (lt_of_not-le g) in let l = r.lead i (lt_of_not-le g) in omega arith)
]

-- ---- a run of data tracks

pub since_some : {o : Option ℕ} {a : ℕ} (e : ℕ) → o ≡ Some a → since o e ≡ a
unfolding since
since_some e h = rw h

pub since-none : {o : Option ℕ} (e : ℕ) → o ≡ None → since o e ≡ e
unfolding since
since-none e h = rw h

-- it began no later than here
since-below : (o : Option ℕ) (e : ℕ) → since o e ≤ e → IfSome o (λ a. a ≤ e)
unfolding since
since-below (Some a) e h = h
since-below None e h = tt

module _ (b : Bool) (start : ℕ) (r : Run) where
  -- a data track goes on with the run, or begins one
  pub run_past-on : {a : ℕ} → b ≡ true → r.from ≡ Some a → r ≡ run_past b start r
  unfolding run_past
  run_past-on e h = let q = since_some start h in rw (when _ _ _ e, q, ← h) refl

  pub run_past-begins : b ≡ true → r.from ≡ None → record { blocks = r.blocks; from = Some start } ≡ run_past b start r
  unfolding run_past
  run_past-begins e h = let q = since-none start h in rw (when _ _ _ e, q) refl

  -- another one ends it, or goes by
  pub run_past-ends : {a : ℕ} → b ≡ false → r.from ≡ Some a → record { blocks = r.blocks + (start - a); from = None } ≡ run_past b start r
  unfolding run_past
  run_past-ends e h = let q = since_some start h in rw (unless _ _ _ e, q) refl

  pub run_past-off : b ≡ false → r.from ≡ None → r ≡ run_past b start r
  unfolding run_past
  run_past-off e h =
      let q = since-none start h in
      let z : r.blocks ≡ r.blocks + (start - start) = omega arith in
      rw (unless _ _ _ e, q, ← z, ← h) refl

pub blocks_to_on : (e : ℕ) (r : Run) {a : ℕ} → r.from ≡ Some a → blocks_to e r ≡ r.blocks + (e - a)
unfolding blocks_to
blocks_to_on e r h = let q = since_some e h in omega arith

pub blocks_to_off : (e : ℕ) (r : Run) → r.from ≡ None → blocks_to e r ≡ r.blocks
unfolding blocks_to
blocks_to_off e r h = let q = since-none e h in omega arith

pub run_at-none : (s : List ℕ) → run_at s 0 ≡ idle
unfolding run_at
run_at-none s = refl

pub run_at-next : (s : List ℕ) (i : ℕ) → run_at s (i + 1) ≡ run_past (is_data (flags_at s (3 + i))) (track_start s i) (run_at s i)
unfolding run_at
run_at-next s i = rw add-one

-- r has come to the edge e with so many blocks
pub record Come (r : Run) (e blocks : ℕ) : Type 0 where
  pub from : since r.from e ≤ e
  pub total : blocks_to e r ≡ blocks

come-next :
    (b : Bool) (r : Run) (e e' blocks : ℕ) → e ≤ e' → Come r e blocks → Come (run_past b e r) e' (blocks + (choose b then e' - e else 0))
unfolding since run_past blocks_to choose◌then◌else◌
come-next true r e e' blocks l c = let u = c.from in let v = c.total in record { from = omega arith; total = omega arith }
come-next false r e e' blocks l c = let u = c.from in let v = c.total in record { from = omega arith; total = omega arith }

-- the first i tracks passed: the blocks of the data tracks among them
pub come : (s : List ℕ) (n : ℕ) → Rises s n → (i : ℕ) → i ≤ n → Come (run_at s i) (edge s n i) (sum_below i (track_blocks Data s n))
unfolding track_blocks
come s n r zero l =
    rw (run_at-none s) (record { from = let q = since-none {o = None} (edge s n 0) refl in omega arith; total = blocks_to_off _ idle refl ∙ sym (sum-none _) })
come s n r (suc i) l =
    let h : i < n = omega arith in
    let e : edge s n i ≡ track_start s i = edge_track s n i h in
    let c = come s n r i (omega arith) in
    let g = edge-rises s n i r h in
    let k = come-next (is_data (flags_at s (3 + i))) (run_at s i) (edge s n i) (edge s n (i + 1)) _ (omega arith) c in
    let q : Come (run_at s (i + 1)) (edge s n (i + 1)) (sum_below (i + 1) (track_blocks Data s n)) =
    rw (run_at-next s i, sum-next i (track_blocks Data s n))
    (subst (λ (x : ℕ). Come (run_past (is_data (flags_at s (3 + i))) x (run_at s i)) (edge s n (i + 1))
    (sum_below i (track_blocks Data s n) + track_blocks Data s n i)) e k) in
    rw (add-one i) at q

-- never more than the edge
pub blocks-most : (s : List ℕ) (n : ℕ) → Rises s n → (i : ℕ) → i ≤ n → sum_below i (track_blocks Data s n) ≤ edge s n i
unfolding track_blocks
blocks-most s n r zero l = let e = sum-none (track_blocks Data s n) in omega arith
blocks-most s n r (suc i) l =
    let h : i < n = omega arith in
    let g = edge-rises s n i r h in
    let k = blocks-most s n r i (omega arith) in
    let q = sum-next i (track_blocks Data s n) in
    let m = track-most (is_data (flags_at s (3 + i))) in
    rw (add-one i) at (let z : sum_below (i + 1) (track_blocks Data s n) ≤ edge s n (i + 1) = omega arith in z)
  where
    track-most : (b : Bool) → (choose b then edge s n (i + 1) - edge s n i else 0) ≤ edge s n (i + 1) - edge s n i
    track-most true = let w = when true (edge s n (i + 1) - edge s n i) 0 refl in omega arith
    track-most false = let w = unless false (edge s n (i + 1) - edge s n i) 0 refl in omega arith

-- before the track after i others, and at the end
pub run-before :
    (s : List ℕ) (n i : ℕ) {r : Run} → Rises s n → i < n → r ≡ run_at s i
    → IfSome r.from (λ a. a ≤ track_start s i) × (blocks_to (track_start s i) r ≤ track_start s i)
run-before s n i u h q =
    let c = come s n u i (omega arith) in
    let e = edge_track s n i h in
    let m = blocks-most s n u i (omega arith) in
    let b = c.total in
    rw (q, ← e) (since-below _ _ c.from, omega arith)

pub run-done :
    (s : List ℕ) (n i : ℕ) {r : Run} → Rises s n → i ≡ n → r ≡ run_at s i
    → IfSome r.from (λ a. a ≤ session_lead_out s) × (blocks_to (session_lead_out s) r ≤ session_lead_out s) × (blocks_to (session_lead_out s) r ≡ sum_below n (track_blocks Data s n))
run-done s n i u z q =
    let c = come s n u n (omega arith) in
    let e = edge-out s n n (omega arith) in
    let m = blocks-most s n u n (omega arith) in
    let b = c.total in
    rw (q, z, ← e) (since-below _ _ c.from, omega arith, b)
