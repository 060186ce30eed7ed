-- What the walk asks of one session's descriptors, by name, and which rules that keeps.
use Rattle.std.specs.Prelude.{◌≡◌, Bool, List}
use Rattle.std.proofs.Common.{sym, ap, ◌∙◌, add-one, lt_of_not-le}
use Rattle.std.proofs.Math.Bool.{true}
use Prim.Native.Nat.{ℕ, zero, suc, ◌+◌, ◌-◌, ◌≤◌, ◌<◌}
use native.Mathlib.Omega.{arith}
use Rattle.std.proofs.Math.Decide.{dec_le, ℕ_discrete}
use borrow.Author.Tests.{le-leb, leb-true, lt-ltb}
use Rattle.std.proofs.Math.Dec.{ltb, eqb}
use Rattle.ground.specs.Tests.{and_head, and_tail, and_both, every-at, every-all}
use Rattle.table.specs.Layout.{point_at, session_at, A0, A1, A2, B0, C0, is_extra}
use Rattle.table.specs.Row.{row_at, frames_at, address_at, names, plain, head_a0, head_a1, headed, addressed}
use Rattle.table.specs.RowLaws.{start_of-frames, is_extra-B0, is_extra-C0, headed-A0, headed-A1, headed_other, addressed_of, addressed_other, A0-other, A1-other, B0-other, C0-other}
use Rattle.table.specs.Asked.{a0_kept, a1_kept, extra_kept, extra_passed, climbs, holds}
use Rattle.table.specs.AskedLaws.{kept-names, kept-plain, kept_both, extra_passed-kept, extra_passed_other, extra_kept_number, extra_kept-plain, extra_kept_both, climbs-low, climbs-is_msf, holds-climbs, holds-low, holds-most}
use Rattle.sessions.specs.Session.{first, tracks, b0s, c0s, count, listed, numbered, session}
use Rattle.sessions.specs.SessionLaws.{IsSession, one_is, extras_each, listed_parts}
use Rattle.disc.specs.Rules.{track_start, rises}
use Rattle.disc.specs.FitLaws.{Kind, is_a0, is_a1, is_a2, is_track_after, is_b0, is_c0, listed-kind}
use Rattle.disc.specs.Walk.{heads_kept, floor_at, track_kept, tracks_kept, extras_kept, session_kept, floor_of}

-- ---- the floors

pub floor_at-next : (d : List ℕ) (floor i : ℕ) → floor_at d floor (i + 1) ≡ frames_at d (3 + i) + 1
unfolding floor_at
floor_at-next d floor i = rw (add-one i)

pub floor_of-next : (d : List ℕ) (k : ℕ) → floor_of d (k + 1) ≡ frames_at (session d k) 2 + 1
unfolding floor_of
floor_of-next d k = rw (add-one k)

-- ---- one session

-- s begins with session k, and its descriptors keep rules 3 to 7, by name
pub record Sound (k : ℕ) (s : List ℕ) (floor : ℕ) : Type 0 where
  pub is : IsSession k s
  pub rule3 : (i : ℕ) → i < count s → plain (row_at s i) ≡ true
  pub head0 : head_a0 (row_at s 0) ≡ true
  pub head1 : head_a1 (row_at s 1) ≡ true
  pub rise : (m : ℕ) → m < tracks s → climbs (row_at s (3 + m)) (floor_at s floor m) ≡ true
  pub lead : holds (row_at s 2) (floor_at s floor (tracks s)) ≡ true

-- what holds of A0, A1, A2, each track, and each descriptor past them holds of each
pub rows_all :
    (s : List ℕ) (p : ℕ → Bool) → p 0 ≡ true → p 1 ≡ true → p 2 ≡ true → ((m : ℕ) → m < tracks s → p (3 + m) ≡ true)
    → ((i : ℕ) → 3 + tracks s ≤ i → i < count s → p i ≡ true) → (i : ℕ) → i < count s → p i ≡ true
rows_all s p a b c f g i l = elim (dec_le 3 i) [
  | yes h ↦ elim (dec_le (3 + tracks s) i) [
    | yes e ↦ g i e l
    | no e ↦ let q = lt_of_not-le e in let z : i ≡ 3 + (i - 3) = omega arith in rw z (f (i - 3) (omega arith))
  ]
  | no h ↦ head (lt_of_not-le h)
]
  where
    head : i < 3 → p i ≡ true
    head h = elim (ℕ_discrete i 0) [
      | yes e ↦ rw e a
      | no e ↦ elim (ℕ_discrete i 1) [
        | yes q ↦ rw q b
        | no q ↦ let z : i ≡ 2 = omega arith in rw z c
      ]
    ]

module _ (k : ℕ) (s : List ℕ) where
  -- the descriptors past the tracks: what each of them is asked
  extras-kept : extras_kept s k ≡ true → (i : ℕ) → 3 + tracks s ≤ i → i < count s → (extra_kept (row_at s i) k ≡ true) × (is_extra (point_at s i) ≡ true)
  unfolding extras_kept
  extras-kept h =
      extras_each s (λ i. (extra_kept (row_at s i) k ≡ true) × (is_extra (point_at s i) ≡ true))
      (λ e. (sym (extra_passed-kept (row_at s (3 + tracks s)) k B0 e) ∙ and_head _ _ h, is_extra-B0 e))
      (λ e. (sym (extra_passed-kept (row_at s (3 + tracks s + b0s s)) k C0 e) ∙ and_tail _ _ h, is_extra-C0 e))

  -- one that stands there is passed if each is kept, and none is passed anyhow
  passed : (j p : ℕ) → (point_at s j ≡ p → extra_kept (row_at s j) k ≡ true) → extra_passed (row_at s j) k p ≡ true
  passed j p f = elim (ℕ_discrete (point_at s j) p) [
    | yes e ↦ extra_passed-kept (row_at s j) k p e ∙ f e
    | no e ↦ extra_passed_other (row_at s j) k p e
  ]

  kept-extras : ((i : ℕ) → 3 + tracks s ≤ i → i < count s → is_extra (point_at s i) ≡ true → extra_kept (row_at s i) k ≡ true) → extras_kept s k ≡ true
  unfolding extras_kept
  kept-extras f =
      and_both _ _ (passed (3 + tracks s) B0 (λ e. let o = one_is e in f (3 + tracks s) (omega arith) (omega arith) (is_extra-B0 e)))
      (passed (3 + tracks s + b0s s) C0 (λ e. let o = one_is e in f (3 + tracks s + b0s s) (omega arith) (omega arith) (is_extra-C0 e)))

  module _ (floor : ℕ) where
    pub session_kept-heads : session_kept k s floor ≡ true → heads_kept s k ≡ true
    unfolding session_kept
    session_kept-heads h = and_head _ _ (and_tail _ _ (and_tail _ _ (and_tail _ _ (and_tail _ _ h))))

    pub session_kept-tracks : session_kept k s floor ≡ true → tracks_kept s k (first s) (tracks s) floor ≡ true
    unfolding session_kept
    session_kept-tracks h = and_head _ _ (and_tail _ _ (and_tail _ _ (and_tail _ _ (and_tail _ _ (and_tail _ _ h)))))

    pub session_kept-sound : session_kept k s floor ≡ true → Sound k s floor
    unfolding session_kept heads_kept tracks_kept track_kept listed numbered a0_kept a1_kept
    session_kept-sound h =
        let a = and_tail _ _ h in
        let b = and_tail _ _ a in
        let c = and_tail _ _ b in
        let e = and_tail _ _ c in
        let u = and_head _ _ e in
        let v = and_tail _ _ u in
        let g = and_tail _ _ e in
        let x = extras-kept (and_tail _ _ g) in
        let low = leb-true _ _ (and_head _ _ a) in
        let order = leb-true _ _ (and_head _ _ b) in
        let high = leb-true _ _ (and_head _ _ c) in
        let each : (m : ℕ) → m < tracks s → track_kept s k (first s) floor m ≡ true = every-at _ _ (and_head _ _ (and_head _ _ g)) in
        record {
          is = record {
            fits = leb-true _ _ (and_head _ _ h);
            low = low;
            order = order;
            high = high;
            lists = and_both _ _ (kept-names _ _ _ (and_head _ _ (and_head _ _ u))) (and_both _ _ (kept-names _ _ _ (and_head _ _ (and_head _ _ v)))
                (and_both _ _ (kept-names _ _ _ (and_tail _ _ v)) (every-all _ _ (λ m l. kept-names _ _ _ (and_head _ _ (each m l))))));
            numbers = every-all _ _ (λ i l. extra_kept_number _ _ (x (3 + tracks s + i) (omega arith) (omega arith)).0);
          };
          rule3 =
              rows_all s (λ i. plain (row_at s i)) (kept-plain (row_at s 0) k A0 (omega arith) (and_head _ _ (and_head _ _ u)))
              (kept-plain (row_at s 1) k A1 (omega arith) (and_head _ _ (and_head _ _ v))) (kept-plain (row_at s 2) k A2 (omega arith) (and_tail _ _ v))
              (λ m l. kept-plain (row_at s (3 + m)) k (first s + m) (omega arith) (and_head _ _ (each m l)))
              (λ i l q. extra_kept-plain _ k (x i l q).1 (x i l q).0);
          head0 = and_tail _ _ (and_head _ _ u);
          head1 = and_tail _ _ (and_head _ _ v);
          rise = λ m l. and_tail _ _ (each m l);
          lead = and_tail _ _ (and_head _ _ g);
        }

    pub sound-session_kept : Sound k s floor → session_kept k s floor ≡ true
    unfolding session_kept heads_kept tracks_kept track_kept listed numbered a0_kept a1_kept
    sound-session_kept o =
        let i = o.is in
        let l = i.lists in
        let u = and_tail _ _ l in
        let v = and_tail _ _ u in
        let p = o.rule3 in
        let high = i.high in
        let order = i.order in
        and_both _ _ (le-leb _ _ i.fits) (and_both _ _ (le-leb _ _ i.low) (and_both _ _ (le-leb _ _ order) (and_both _ _ (le-leb _ _ high)
        (and_both _ _
        (and_both _ _ (and_both _ _ (kept_both (row_at s 0) k A0 (omega arith) (and_head _ _ l) (p 0 (omega arith))) o.head0)
        (and_both _ _ (and_both _ _ (kept_both (row_at s 1) k A1 (omega arith) (and_head _ _ u) (p 1 (omega arith))) o.head1)
        (kept_both (row_at s 2) k A2 (omega arith) (and_head _ _ v) (p 2 (omega arith)))))
        (and_both _ _ (and_both _ _ (every-all _ _ (λ m g. and_both _ _
        (kept_both (row_at s (3 + m)) k (first s + m) (omega arith) (every-at (tracks s) (λ j. names (row_at s (3 + j)) k (first s + j)) (and_tail _ _ v) m g) (p (3 + m) (omega arith)))
        (o.rise m g))) o.lead)
        (kept-extras (λ j g q e. extra_kept_both (row_at s j) k e (number j g q) (p j q))))))))
      where
        number : (j : ℕ) → 3 + tracks s ≤ j → j < count s → eqb (session_at s j) k ≡ true
        number j g q =
            let z : j ≡ 3 + tracks s + (j - (3 + tracks s)) = omega arith in
            rw z (every-at (b0s s + c0s s) (λ n. eqb (session_at s (3 + tracks s + n)) k) o.is.numbers (j - (3 + tracks s)) (omega arith))

-- ---- what a sound session keeps

module _ {k : ℕ} {s : List ℕ} {floor : ℕ} (o : Sound k s floor) where
  sound-kind : {i : ℕ} → i < count s → Kind s i
  sound-kind {i} l = listed-kind (listed_parts o.is.lists) i l

  pub sound-headed : (i : ℕ) → i < count s → headed (row_at s i) ≡ true
  sound-headed i l = elim (sound-kind l) [
    | is_a0 e p ↦ headed-A0 (row_at s i) p ∙ rw e o.head0
    | is_a1 e p ↦ headed-A1 (row_at s i) p ∙ rw e o.head1
    | is_a2 e p ↦ headed_other (row_at s i) (λ q. omega arith) (λ q. omega arith)
    | is_track_after m e b p ↦ (let u = o.is.high in let v = o.is.order in headed_other (row_at s i) (λ q. omega arith) (λ q. omega arith))
    | is_b0 e p ↦ headed_other (row_at s i) (λ q. omega arith) (λ q. omega arith)
    | is_c0 e p ↦ headed_other (row_at s i) (λ q. omega arith) (λ q. omega arith)
  ]

  -- no floor lies before 00:02:00
  module _ (b : 150 ≤ floor) where
    pub sound-floor : (m : ℕ) → m ≤ tracks s → 150 ≤ floor_at s floor m
    unfolding floor_at
    sound-floor zero l = b
    sound-floor (suc m) l =
        let r = climbs-low (row_at s (3 + m)) (floor_at s floor m) (o.rise m (omega arith)) in let u = sound-floor m (omega arith) in omega arith

    -- and so no lead-out
    pub sound-lead : 150 ≤ frames_at s 2
    sound-lead = let r = holds-low (row_at s 2) (floor_at s floor (tracks s)) o.lead in let u = sound-floor (tracks s) (omega arith) in omega arith

    -- each track lies below the floors after it
    sound-climbs : (i m : ℕ) → i < m → m ≤ tracks s → frames_at s (3 + i) < floor_at s floor m
    unfolding floor_at
    sound-climbs i zero l h = absurd (omega arith)
    sound-climbs i (suc m) l h =
        let r = climbs-low (row_at s (3 + m)) (floor_at s floor m) (o.rise m (omega arith)) in
        elim (ℕ_discrete i m) [
          | yes e ↦ rw e (omega arith)
          | no e ↦ (let u = sound-climbs i m (omega arith) (omega arith) in omega arith)
        ]

    -- and so below 99:59:74, as the lead-out does
    sound-most : (i : ℕ) → i < tracks s → frames_at s (3 + i) ≤ 449999
    sound-most i l =
        let u = sound-climbs i (tracks s) l (omega arith) in
        let v = holds-low (row_at s 2) (floor_at s floor (tracks s)) o.lead in
        let w = holds-most (row_at s 2) (floor_at s floor (tracks s)) o.lead in
        omega arith

    pub sound-addressed : (i : ℕ) → i < count s → addressed (row_at s i) ≡ true
    sound-addressed i l = elim (sound-kind l) [
      | is_a0 e p ↦ addressed_other (row_at s i) A0 p A0-other
      | is_a1 e p ↦ addressed_other (row_at s i) A1 p A1-other
      | is_a2 e p ↦ addressed_of (row_at s i) (rw e (climbs-is_msf (row_at s 2) (floor_at s floor (tracks s)) (sound-floor (tracks s) (omega arith)) (holds-most _ _ o.lead) (holds-climbs _ _ o.lead)))
      | is_track_after m e g p ↦ addressed_of (row_at s i) (rw e (climbs-is_msf (row_at s (3 + m)) (floor_at s floor m) (sound-floor m (omega arith)) (sound-most m g) (o.rise m g)))
      | is_b0 e p ↦ addressed_other (row_at s i) B0 p B0-other
      | is_c0 e p ↦ addressed_other (row_at s i) C0 p C0-other
    ]

    -- a track starts before what stands past its frame
    sound-before : (i j : ℕ) → i < tracks s → climbs (row_at s j) (floor_at s floor (i + 1)) ≡ true → track_start s i < address_at s j
    sound-before i j l h =
        let u = climbs-low (row_at s j) (floor_at s floor (i + 1)) h in
        let v = climbs-low (row_at s (3 + i)) (floor_at s floor i) (o.rise i l) in
        let w = sound-floor i (omega arith) in
        let e = floor_at-next s floor i in
        let p = start_of-frames (row_at s j) in
        let q = start_of-frames (row_at s (3 + i)) in
        omega arith

    pub sound-rises : rises s (tracks s) ≡ true
    unfolding rises
    sound-rises =
        let v = o.is.order in
        let e : tracks s ≡ tracks s - 1 + 1 = omega arith in
        and_both _ _
        (every-all (tracks s - 1) (λ i. ltb (track_start s i) (track_start s (i + 1)))
        (λ i l. lt-ltb _ _ (sound-before i (3 + (i + 1)) (omega arith) (o.rise (i + 1) (omega arith)))))
        (lt-ltb _ _ (sound-before (tracks s - 1) 2 (omega arith) (ap (λ (x : ℕ). climbs (row_at s 2) (floor_at s floor x)) (sym e) ∙ holds-climbs _ _ o.lead)))
