-- The longest fit table: 99 sessions of one track with a B0h and a C0h each, 594 descriptors and 6,538 bytes. It is fit because each session
-- stands alone, at 66 bytes for every one before it, and keeps what the walk asks of one.
use Rattle.std.specs.Prelude.{◌≡◌, true, length}
use Rattle.std.proofs.Math.Path.{refl, sym, ap}
use Rattle.std.proofs.Common.{◌∙◌, add-one, zero-add, length-append, drop-drop}
use mathlib.Core.List.{List, [], ◌++◌}
use Prim.Native.Nat.{ℕ, zero, suc, ◌+◌, ◌-◌, ◌*◌, ◌%◌, ◌≤◌, ◌<◌}
use native.Mathlib.Omega.{arith}
use borrow.Author.Tests.{le-leb, eq-eqb}
use Rattle.std.proofs.Math.ListN.{drop}
use Rattle.ground.specs.Tests.{◌and◌, ◌or◌, choose◌then◌else◌, and_both, every-none, every_more, every-all}
use Rattle.table.specs.Layout.{bound, header, row, data_length, point_at, A0, A1, A2, B0, C0}
use Rattle.table.specs.Row.{row_at, frames_of, names, simple, free, head_a0, head_a1}
use Rattle.table.specs.Asked.{kept, a0_kept, a1_kept, extra_kept, extra_passed, climbs, holds}
use Rattle.sessions.specs.Session.{first, last, tracks, b0s, c0s, size, starts, session}
use Rattle.sessions.specs.SessionLaws.{one_is}
use Rattle.disc.specs.Rules.{rule1, rule2, is_fit}
use Rattle.disc.specs.Walk.{heads_kept, floor_at, track_kept, tracks_kept, extras_kept, session_kept, floor_of, next_of, step_kept, walk_kept}
use Rattle.disc.specs.WalkFit.{walk_fit}
use Rattle.disc.specs.Examples.{entry, extra, framed}

-- session k with track k, which starts at k:00:00, and the lead-out at k:01:00
abbrev pub sitting : ℕ → List ℕ
sitting k =
    entry k A0 k 0 0 ++ (entry k A1 k 0 0 ++ (entry k A2 k 1 0 ++ (entry k k k 0 0 ++ (extra k B0 0 ++ extra k C0 0))))

-- n sessions from the one after k others on
unfoldable pub sittings_after : ℕ → ℕ → List ℕ
sittings_after k zero = []
sittings_after k (suc n) = sitting (suc k) ++ sittings_after (suc k) n

-- the table of n such sessions
abbrev pub table_of : ℕ → List ℕ
table_of n = framed n (sittings_after 0 n)

abbrev pub longest : List ℕ
longest = table_of 99

-- ---- one session

module _ (k : ℕ) (rest : List ℕ) where
  abbrev s : List ℕ
  s = sitting k ++ rest

  -- where its B0h and C0h stand
  tracks-one : tracks s ≡ 1
  tracks-one = omega arith

  b0-at : 3 + tracks s ≡ 4
  b0-at = ap (λ (n : ℕ). 3 + n) tracks-one

  b0s-one : b0s s ≡ 1
  b0s-one = one_is (ap (λ (j : ℕ). point_at s j) b0-at)

  c0-at : 3 + tracks s + b0s s ≡ 5
  c0-at = let a = b0-at in let b = b0s-one in omega arith

  c0s-one : c0s s ≡ 1
  c0s-one = one_is (ap (λ (j : ℕ). point_at s j) c0-at)

  sitting-size : size s ≡ 66
  unfolding size
  sitting-size = let a = c0-at in let b = c0s-one in omega arith

  sitting-length : length s ≡ 66 + length rest
  sitting-length = length-append (sitting k) rest

  -- what the walk asks of its descriptors
  sitting-heads : heads_kept s k ≡ true
  unfolding heads_kept a0_kept a1_kept kept names simple head_a0 head_a1 ◌and◌ ◌or◌
  sitting-heads = rw (eq-eqb k k refl)

  extras-passed : (extra_passed (row_at s 4) k B0 ≡ true) × (extra_passed (row_at s 5) k C0 ≡ true)
  unfolding extra_passed extra_kept free ◌and◌ choose◌then◌else◌
  extras-passed = (rw (eq-eqb k k refl), rw (eq-eqb k k refl))

  sitting-extras : extras_kept s k ≡ true
  unfolding extras_kept
  sitting-extras =
      and_both _ _ (ap (λ (j : ℕ). extra_passed (row_at s j) k B0) b0-at ∙ extras-passed.0)
      (ap (λ (j : ℕ). extra_passed (row_at s j) k C0) c0-at ∙ extras-passed.1)

  track-kept : kept (row_at s 3) k (k + 0) ≡ true
  unfolding kept names simple ◌and◌
  track-kept = rw (eq-eqb k k refl, eq-eqb k (k + 0) (omega arith))

  -- where the lead-out before it, or 00:02:00, lies before its track
  module _ (floor : ℕ) (low : floor ≤ k * 60 * 75) (high : k ≤ 99) where
    track-climbs : climbs (row_at s 3) floor ≡ true
    unfolding climbs frames_of
    track-climbs = and_both _ _ refl (and_both _ _ refl (le-leb floor (frames_of (row_at s 3)) (omega arith)))

    lead-holds : holds (row_at s 2) (floor_at s floor 1) ≡ true
    unfolding holds climbs floor_at frames_of
    lead-holds = and_both _ _ (le-leb _ _ high) (and_both _ _ refl (and_both _ _ refl (le-leb (frames_of (row_at s 3) + 1) (frames_of (row_at s 2)) (omega arith))))

    sitting-tracks : tracks_kept s k k (tracks s) floor ≡ true
    unfolding tracks_kept track_kept floor_at
    sitting-tracks = ap (λ (n : ℕ). tracks_kept s k k n floor) tracks-one ∙ and_both _ _ (every_more 0 (track_kept s k k floor) (every-none _) (and_both _ _ track-kept track-climbs)) lead-holds

    pub sitting-kept : 1 ≤ k → session_kept k s floor ≡ true
    unfolding session_kept
    sitting-kept h =
        let z = sitting-size in
        let l = sitting-length in
        and_both _ _ (le-leb (size s) (length s) (omega arith)) (and_both _ _ (le-leb _ _ h) (and_both _ _ (le-leb k k (omega arith)) (and_both _ _ (le-leb _ _ high)
        (and_both _ _ sitting-heads (and_both _ _ sitting-tracks sitting-extras)))))

-- ---- all of them

after-length : (k n : ℕ) → length (sittings_after k n) ≡ 66 * n
unfolding sittings_after
after-length k zero = refl
after-length k (suc n) = let a = sitting-length (suc k) (sittings_after (suc k) n) in let b = after-length (suc k) n in omega arith

-- past the first k of them stand the others
after-drop : (k n : ℕ) → drop (66 * k) (sittings_after 0 (k + n)) ≡ sittings_after k n
unfolding sittings_after
after-drop zero n = ap (sittings_after 0) (zero-add n)
after-drop (suc k) n =
    let e : 66 * suc k ≡ 66 * k + 66 = omega arith in
    let m : suc k + n ≡ k + suc n = omega arith in
    rw (e, m) (sym (drop-drop 66 (66 * k) (sittings_after 0 (k + suc n))) ∙ ap (drop 66) (after-drop k (suc n)))

module _ (n : ℕ) where
  abbrev d : List ℕ
  d = sittings_after 0 n

  -- where the session after k others begins, and what stands there
  sitting-at : (k : ℕ) → k < n → starts d k ≡ 66 * k → session d k ≡ sitting (suc k) ++ sittings_after (suc k) (n - suc k)
  unfolding sittings_after
  sitting-at k h e =
      let m : n ≡ k + suc (n - suc k) = omega arith in
      ap (λ (x : ℕ). drop x d) e ∙ ap (λ (x : ℕ). drop (66 * k) (sittings_after 0 x)) m ∙ after-drop k (suc (n - suc k))

  sitting-starts : (k : ℕ) → k ≤ n → starts d k ≡ 66 * k
  unfolding starts
  sitting-starts zero h = refl
  sitting-starts (suc k) h =
      let e = sitting-starts k (omega arith) in
      let z = ap size (sitting-at k (omega arith) e) ∙ sitting-size (suc k) (sittings_after (suc k) (n - suc k)) in
      omega arith

  sitting-session : (k : ℕ) → k < n → session d k ≡ sitting (suc k) ++ sittings_after (suc k) (n - suc k)
  sitting-session k h = sitting-at k h (sitting-starts k (omega arith))

  -- the lead-out before it, and the track with which it begins
  sitting-floor : (k : ℕ) → k < n → floor_of d k ≤ suc k * 60 * 75
  unfolding floor_of frames_of
  sitting-floor zero h = omega arith
  sitting-floor (suc k) h = let e = ap (λ (s : List ℕ). frames_of (row_at s 2)) (sitting-session k (omega arith)) in omega arith

  sitting-next : (k : ℕ) → k < n → next_of d k ≡ suc k
  unfolding next_of starts
  sitting-next zero h = ap first (sitting-session zero h)
  sitting-next (suc k) h = let e = ap last (sitting-session k (omega arith)) in omega arith

  sitting-step : n ≤ 99 → (k : ℕ) → k < n → step_kept d k ≡ true
  unfolding step_kept
  sitting-step l k h =
      let e = sitting-session k h in
      and_both _ _
      (ap (λ (s : List ℕ). session_kept (k + 1) s (floor_of d k)) e ∙ rw (add-one k) (sitting-kept (suc k) (sittings_after (suc k) (n - suc k)) (floor_of d k) (sitting-floor k h) (omega arith) (omega arith)))
      (eq-eqb _ _ (ap first e ∙ sym (sitting-next k h)))

  pub sittings-length : length (table_of n) ≡ 4 + 66 * n
  sittings-length = let e = after-length 0 n in omega arith

  sittings-sized : n ≤ 99 → rule1 (table_of n) ≡ true
  unfolding rule1
  sittings-sized b =
      let e = sittings-length in
      let t = table_of n in
      and_both _ _ (le-leb header (length t) (omega arith)) (and_both _ _ (le-leb (length t) bound (omega arith))
      (and_both _ _ (eq-eqb ((length t - header) % row) 0 (omega arith)) (eq-eqb (data_length t) (length t - 2) (omega arith))))

  -- for every n from 1 to 99 the table is fit
  pub sittings-fit : 1 ≤ n → n ≤ 99 → is_fit (table_of n) ≡ true
  unfolding rule2 walk_kept
  sittings-fit a b =
      sym (walk_fit (table_of n) (sittings-sized b) (and_both _ _ refl (and_both _ _ (le-leb _ _ a) (le-leb _ _ b))))
      ∙ and_both _ _ (every-all _ _ (sitting-step b)) (eq-eqb _ _ (sitting-starts n (omega arith) ∙ sym (after-length 0 n)))

-- ---- the longest

pub longest_fit : is_fit longest ≡ true
longest_fit = sittings-fit 99 (omega arith) (omega arith)

pub longest-length : length longest ≡ bound
longest-length = sittings-length 99
