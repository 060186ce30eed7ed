-- The walk step by step, for the code: over a session's tracks, its B0h and C0h, and the sessions, and the rules from where it stops.
use Rattle.std.specs.Prelude.{◌≡◌, Bool, true, false, Option, Some, None, Ok, Err, List, ℕ, zero, suc, ◌+◌, ◌-◌, ◌*◌, ◌%◌, ◌≤◌, ◌<◌, length, get_or, take, drop, eqb}
use Rattle.std.proofs.Math.Path.{refl, sym, ap}
use Rattle.std.proofs.Common.{◌∙◌, add-one, add-zero, le-leb, eq-eqb, eqb-true, ne_eqb, length-drop, drop-drop}
use native.Mathlib.Omega.{arith}
use Rattle.std.proofs.Math.Decide.{ℕ_discrete}
use Rattle.std.proofs.Math.ListN.{get_or-eq_default}
use Rattle.ground.specs.Memory.{rest_all}
use Rattle.ground.specs.Tests.{◌and◌, choose◌then◌else◌, when, unless, every, and_on, and_off, and_late, and_both, and_head, and_tail, and_with, every-none, every_more, every-breaks}
use Rattle.table.specs.Layout.{row, point_at, B0, C0}
use Rattle.table.specs.Row.{row_from, row_at, frames_of, frames_at, names}
use Rattle.table.specs.RowLaws.{start_of-frames}
use Rattle.table.specs.declared.row.Row.{Row}
use Rattle.table.specs.Asked.{kept, extra_passed, climbs, holds}
use Rattle.table.specs.AskedLaws.{extra_passed-kept, extra_passed_other}
use Rattle.sessions.specs.Session.{first, last as last_of, tracks, one, b0s, size, is_session, starts, session, before, follows, in_place, in_order}
use Rattle.sessions.specs.SessionLaws.{IsSession, is_session_parts, one_is, one_not, size-heads, size-whole, size_least, placed, Told, Walked, walked_none, walked_next, walked_all, rows_before, starts-rows}
use Rattle.disc.specs.Rules.{each_row, out_before, first_broken, row_rules}
use Rattle.disc.specs.RulesLaws.{each_row-rest, Risen}
use Rattle.disc.specs.FitLaws.{session-none}
use Rattle.std.specs.Option.{option_and_then}
use Rattle.disc.specs.Disc.{disc_from, unfit_by}
use Rattle.disc.specs.Walk.{heads_kept, floor_at, track_kept, tracks_kept, tracks_end, extras_kept, session_kept, extra_end, extras_end, session_end, floor_of, next_of, step_kept, walk_kept, rows_reading}
use Rattle.disc.specs.WalkLaws.{floor_at-next, floor_of-next, session_kept-sound}
use Rattle.disc.specs.WalkFit.{next-follows, kept_rule, kept-places, kept-rising}
use Rattle.disc.specs.declared.disc.Disc.{Disc}

-- ---- a session's tracks

-- tracks f to p - 1 of those up to l are passed: the next stands at byte `at`, and may start at `low` or later
pub record Climbed (d : List ℕ) (k f l floor p at low : ℕ) : Type 0 where
  pub order : f ≤ p
  pub turns : p ≤ l + 1
  pub passed : every (p - f) (track_kept d k f floor) ≡ true
  pub place : at ≡ row * (3 + (p - f))
  pub within : at ≤ length d
  pub least : low ≡ floor_at d floor (p - f)

pub climbed-none : (d : List ℕ) (k f l floor : ℕ) → f ≤ l → 3 * row ≤ length d → Climbed d k f l floor f (3 * row) floor
unfolding floor_at
climbed-none d k f l floor h w =
    let z : f - f ≡ 0 = omega arith in
    record { order = omega arith; turns = omega arith; passed = rw z (every-none _); place = rw z; within = w; least = rw z }

module _ {d : List ℕ} {k f l floor p at low : ℕ} (c : Climbed d k f l floor p at low) where
  -- the next is descriptor p - f of the tracks
  next_row : {r : Row} → r ≡ row_from d at → r ≡ row_at d (3 + (p - f))
  next_row e = e ∙ ap (row_from d) c.place

  next-kept : {r : Row} {b : Bool} → r ≡ row_from d at → kept r k p ≡ b → kept (row_at d (3 + (p - f))) k (f + (p - f)) ≡ b
  next-kept e h =
      ap (kept (row_at d (3 + (p - f))) k) (let o = c.order in omega arith) ∙ ap (λ (x : Row). kept x k p) (sym (next_row e)) ∙ h

  pub climbed-next :
      {r : Row} {s : ℕ} → p ≤ l → at + row ≤ length d → r ≡ row_from d at → kept r k p ≡ true → climbs r low ≡ true → s ≡ frames_of r
      → Climbed d k f l floor (p + 1) (at + row) (s + 1)
  unfolding track_kept
  climbed-next {r} {s} i w e h g q =
      let o = c.order in
      let t = c.place in
      let n : p + 1 - f ≡ p - f + 1 = omega arith in
      record {
        order = omega arith;
        turns = omega arith;
        passed = rw n (every_more (p - f) (track_kept d k f floor) c.passed
            (and_both _ _ (next-kept e h) (rw (next_row e, c.least) at g)));
        place = omega arith;
        within = w;
        least = rw n (ap (λ (x : ℕ). x + 1) (q ∙ ap frames_of (next_row e)) ∙ sym (floor_at-next d floor (p - f)));
      }

  -- the first track that fails decides
  climbed-fails : p ≤ l → track_kept d k f floor (p - f) ≡ false → None ≡ tracks_end d k f (l + 1 - f) floor
  unfolding tracks_end tracks_kept
  climbed-fails i h =
      let o = c.order in
      sym (unless _ _ _ (sym (and_off _ _ (sym (every-breaks (l + 1 - f) (track_kept d k f floor) (p - f) (omega arith) h)))))

  pub climbed-off : {r : Row} → p ≤ l → r ≡ row_from d at → kept r k p ≡ false → None ≡ tracks_end d k f (l + 1 - f) floor
  unfolding track_kept
  climbed-off i e h = climbed-fails i (sym (and_off _ _ (next-kept e h)))

  pub climbed-out : {r : Row} → p ≤ l → r ≡ row_from d at → climbs r low ≡ false → None ≡ tracks_end d k f (l + 1 - f) floor
  unfolding track_kept
  climbed-out i e h = climbed-fails i (sym (and_late _ _ (sym (rw (next_row e, c.least) at h))))

  -- past the end stands no descriptor of session k
  pub climbed-short : p ≤ l → length d ≤ at → 1 ≤ k → None ≡ tracks_end d k f (l + 1 - f) floor
  unfolding kept names
  climbed-short i w g =
      climbed-off i refl (sym (and_off _ _ (sym (and_off _ _ (ne_eqb (get_or d at 0) k
      (λ e. let z = get_or-eq_default d 0 {n = at} w in omega arith))))))

  -- all are passed: what is left to test is the lead-out
  pub climbed-end : l < p → {b : Bool} → holds (row_at d 2) low ≡ b → (choose b then Some at else None) ≡ tracks_end d k f (l + 1 - f) floor
  unfolding tracks_end tracks_kept
  climbed-end i {b} h =
      let t = c.turns in
      let n : p - f ≡ l + 1 - f = omega arith in
      ap (λ (x : Bool). choose x then Some at else None) (sym h ∙ and_on _ _ (rw n at c.passed) (rw (c.least, n)))
      ∙ ap (λ (x : ℕ). choose tracks_kept d k f (l + 1 - f) floor then Some x else None) (c.place ∙ ap (λ (x : ℕ). row * (3 + x)) n)

-- ---- the B0h and the C0h

-- where one that may stand at descriptor j ends, by descriptors
extra_end-rows :
    (d : List ℕ) (k j p : ℕ)
    → extra_end d k (row * j) p ≡ (choose extra_passed (row_at d j) k p then Some (row * (j + one (point_at d j) p)) else None)
unfolding extra_end
extra_end-rows d k j p = elim (ℕ_discrete (point_at d j) p) [
  | yes e ↦ when _ _ _ (eq-eqb _ _ e) ∙ rw (extra_passed-kept (row_at d j) k p e, one_is e, there)
  | no e ↦ unless _ _ _ (ne_eqb _ _ e) ∙ rw (extra_passed_other (row_at d j) k p e, one_not e, add-zero j) (sym (when _ _ _ refl))
]
  where
    there : row * j + row ≡ row * (j + 1)
    there = omega arith

-- past the end stands none
pub extra_end-past : (d : List ℕ) (k at p : ℕ) → length d ≤ at → 1 ≤ p → Some at ≡ extra_end d k at p
unfolding extra_end
extra_end-past d k at p h l =
    sym (unless _ _ _ (ne_eqb (get_or d (at + 3) 0) p (λ e. let z = get_or-eq_default d 0 {n = at + 3} (omega arith) in omega arith)))

pub extras_end-past : (d : List ℕ) (k at : ℕ) → length d ≤ at → Some at ≡ extras_end d k at
unfolding extras_end
extras_end-past d k at h =
    extra_end-past d k at C0 h (omega arith)
    ∙ ap (option_and_then (λ (b : ℕ). extra_end d k b C0)) (extra_end-past d k at B0 h (omega arith))

-- both end where the session does, if they are kept
extras_end-rows :
    (d : List ℕ) (k : ℕ) → extras_end d k (row * (3 + tracks d)) ≡ (choose extras_kept d k then Some (size d) else None)
unfolding extras_end extras_kept size
extras_end-rows d k = decided (extra_passed (row_at d (3 + tracks d)) k B0) refl
  where
    first-end :
        extra_end d k (row * (3 + tracks d)) B0 ≡ (choose extra_passed (row_at d (3 + tracks d)) k B0 then Some (row * (3 + tracks d + b0s d)) else None)
    first-end = extra_end-rows d k (3 + tracks d) B0

    decided :
        (b : Bool) → extra_passed (row_at d (3 + tracks d)) k B0 ≡ b → extras_end d k (row * (3 + tracks d)) ≡
        (choose extras_kept d k then Some (size d) else None)
    decided true e =
        ap (option_and_then (λ (b : ℕ). extra_end d k b C0)) (first-end ∙ when _ _ _ e)
        ∙ extra_end-rows d k (3 + tracks d + b0s d) C0
        ∙ ap (λ (x : Bool). choose x then Some (size d) else None) (and_on _ _ e refl)
    decided false e =
        ap (option_and_then (λ (b : ℕ). extra_end d k b C0)) (first-end ∙ unless _ _ _ e) ∙ sym (unless _ _ _ (sym (and_off _ _ e)))

-- ---- one session

-- d does not begin with a session that is kept and begins with track `next`
pub session_end_not :
    (k : ℕ) (d : List ℕ) (next floor : ℕ) → (session_kept k d floor ≡ true → first d ≡ next → ⊥) → None ≡ session_end k d next floor
unfolding session_end
session_end_not k d next floor n = decided (session_kept k d floor and eqb (first d) next) refl
  where
    decided : (b : Bool) → (session_kept k d floor and eqb (first d) next) ≡ b → None ≡ session_end k d next floor
    decided true e = absurd (n (and_head _ _ e) (eqb-true _ _ (and_tail _ _ e)))
    decided false e = sym (unless _ _ _ e)

-- the tracks' end tells whether they are kept
tracks_end-told :
    (d : List ℕ) (k f n floor : ℕ) {e : ℕ} → tracks_end d k f n floor ≡ Some e → (tracks_kept d k f n floor ≡ true) × (e ≡ row * (3 + n))
unfolding tracks_end
tracks_end-told d k f n floor {e} h = decided (tracks_kept d k f n floor) refl
  where
    decided : (b : Bool) → tracks_kept d k f n floor ≡ b → (tracks_kept d k f n floor ≡ true) × (e ≡ row * (3 + n))
    decided true q = let u = sym h ∙ when _ _ _ q in (q, cc)
    decided false q = let u = sym h ∙ unless _ _ _ q in (cc, cc)

pub tracks_end-none : (d : List ℕ) (k f n floor : ℕ) → tracks_end d k f n floor ≡ None → tracks_kept d k f n floor ≡ false
unfolding tracks_end
tracks_end-none d k f n floor h = decided (tracks_kept d k f n floor) refl
  where
    decided : (b : Bool) → tracks_kept d k f n floor ≡ b → tracks_kept d k f n floor ≡ false
    decided true q = let z = sym (when _ _ _ q) ∙ h in cc
    decided false q = q

-- all but the last test hold: what is left are the B0h and the C0h
pub session_end_on :
    (k : ℕ) (d : List ℕ) (next floor : ℕ) {end : ℕ} → length d % row ≡ 0 → 1 ≤ first d → first d ≡ next → first d ≤ last_of d → last_of d ≤ 99
    → heads_kept d k ≡ true → tracks_end d k (first d) (tracks d) floor ≡ Some end → end ≤ length d
    → extras_end d k end ≡ session_end k d next floor
unfolding session_end session_kept
session_end_on k d next floor {end} w a n c e h g b =
    let u = tracks_end-told d k (first d) (tracks d) floor g in
    let t = u.0 in
    let l : row * (3 + tracks d) ≤ length d = let q = u.1 in omega arith in
    ap (extras_end d k) u.1 ∙ extras_end-rows d k
    ∙ ap (λ (x : Bool). choose x then Some (size d) else None)
    (and_on _ _ (le-leb _ _ (size-whole d w l)) (and_on _ _ (le-leb _ _ a) (and_on _ _ (le-leb _ _ c) (and_on _ _ (le-leb _ _ e)
    (and_on _ _ h (and_on _ _ t refl)))))
    ∙ and_with (session_kept k d floor) (eqb (first d) next) (eq-eqb _ _ n))

-- what the end of a session tells
pub session_end-told :
    (k : ℕ) (d : List ℕ) (next floor : ℕ) {e : ℕ} → session_end k d next floor ≡ Some e
    → (session_kept k d floor ≡ true) × (first d ≡ next) × (e ≡ size d)
unfolding session_end
session_end-told k d next floor {e} h = decided (session_kept k d floor and eqb (first d) next) refl
  where
    decided :
        (b : Bool) → (session_kept k d floor and eqb (first d) next) ≡ b → (session_kept k d floor ≡ true) × (first d ≡ next) × (e ≡ size d)
    decided true q = let u = sym h ∙ when _ _ _ q in (and_head _ _ q, eqb-true _ _ (and_tail _ _ q), cc)
    decided false q = let u = sym h ∙ unless _ _ _ q in (cc, cc, cc)

-- and what none tells
session_end-none :
    (k : ℕ) (d : List ℕ) (next floor : ℕ) → session_end k d next floor ≡ None → (session_kept k d floor and eqb (first d) next) ≡ false
unfolding session_end
session_end-none k d next floor h = decided (session_kept k d floor and eqb (first d) next) refl
  where
    decided : (b : Bool) → (session_kept k d floor and eqb (first d) next) ≡ b → (session_kept k d floor and eqb (first d) next) ≡ false
    decided true q = let z = sym (when _ _ _ q) ∙ h in cc
    decided false q = q

-- ---- the sessions

pub next_of-next : (d : List ℕ) (k : ℕ) → next_of d (k + 1) ≡ last_of (session d k) + 1
unfolding next_of
next_of-next d k = rw (add-one k)

-- k of n sessions are kept: the next begins at `at`, with track `next`, and may start at frame `floor` or later
pub record Trod (n : ℕ) (d : List ℕ) (k at next floor : ℕ) : Type 0 where
  pub walked : Walked n d k at
  pub passed : every k (step_kept d) ≡ true
  pub track : next ≡ next_of d k
  pub least : floor ≡ floor_of d k

pub trod-none : (n : ℕ) (d : List ℕ) {next : ℕ} → next ≡ first d → Trod n d 0 0 next 150
unfolding next_of floor_of
trod-none n d e = record { walked = walked_none n d; passed = every-none _; track = e; least = refl }

module _ {n : ℕ} {d : List ℕ} {k at next floor : ℕ} (r : Trod n d k at next floor) where
  module _ (i : k < n) where
    pub trod-next :
        {e l o : ℕ} → session_end (k + 1) (drop at d) next floor ≡ Some e → l ≡ last_of (drop at d) → o ≡ frames_at (drop at d) 2
        → Trod n d (k + 1) (at + e) (l + 1) (o + 1)
    unfolding step_kept
    trod-next {e} {l} {o} h q u =
        let p = r.walked.place in
        let t = session_end-told (k + 1) (drop at d) next floor h in
        record {
          walked = walked_next r.walked i (session_kept-sound _ _ _ t.0).is t.2;
          passed =
              every_more k (step_kept d) r.passed (and_both _ _ (rw (p, r.least) at t.0) (eq-eqb _ _ (rw (p, r.track) at t.1)));
          track = ap (λ (x : ℕ). x + 1) (q ∙ ap (λ (x : ℕ). last_of (drop x d)) p) ∙ sym (next_of-next d k);
          least = ap (λ (x : ℕ). x + 1) (u ∙ ap (λ (x : ℕ). frames_at (drop x d) 2) p) ∙ sym (floor_of-next d k);
        }

    -- the first session that has no end decides
    pub trod-breaks : session_end (k + 1) (drop at d) next floor ≡ None → walk_kept n d ≡ false
    unfolding walk_kept step_kept
    trod-breaks h =
        sym (and_off _ _ (sym (every-breaks n (step_kept d) k i
        (rw (r.walked.place, r.least, r.track) at (session_end-none (k + 1) (drop at d) next floor h)))))

  pub trod-end : n ≤ k → eqb at (length d) ≡ walk_kept n d
  unfolding walk_kept
  trod-end i =
      let e = walked_all r.walked i in
      and_on _ _ (rw e at r.passed) (rw (r.walked.place, e))

  -- ---- the rules from there on

  -- rules 3, 5 and 6: each descriptor of the sessions passed keeps them, so what is left decides
  pub trod-rule : (m : ℕ) → each_row m (drop at d) ≡ each_row m d
  trod-rule m =
      let e = r.walked.place ∙ starts-rows d k in
      let w = r.walked.within in
      rw e (each_row-rest m d (rows_before d k) (omega arith) (kept_rule k d r.passed m))

  -- what a pass told of what is left, in the form in which the code lends it, it told of the whole table
  pub trod-told : (m : ℕ) {b : Bool} → b ≡ each_row m (take (length d - at) (drop at d)) → each_row m d ≡ b
  trod-told m e = sym (trod-rule m) ∙ sym (rw rest_all at e)

  -- whole descriptors are left
  pub trod-whole : length d % row ≡ 0 → length (drop at d) % row ≡ 0
  trod-whole h =
      let e = r.walked.place ∙ starts-rows d k in
      let w = r.walked.within in
      let l = length-drop at d in
      omega arith

-- k of n sessions are passed: what is left is s, and `last` begins with the session before it
pub record Walking (n : ℕ) (d : List ℕ) (k : ℕ) (s last : List ℕ) (next floor : ℕ) : Type 0 where
  pub trod : Trod n d k (length d - length s) next floor
  pub here : s ≡ drop (length d - length s) d
  pub less : length s ≤ length d
  pub behind : last ≡ session d (k - 1)

pub walking-none : (n : ℕ) (d : List ℕ) {next : ℕ} → next ≡ first d → Walking n d 0 d d next 150
walking-none n d e =
    let z : length d - length d ≡ 0 = omega arith in
    record { trod = rw z (trod-none n d e); here = rw z; less = omega arith; behind = sym (session-none d) }

module _ {n : ℕ} {d : List ℕ} {k : ℕ} {s last : List ℕ} {next floor : ℕ} (w : Walking n d k s last next floor) (i : k < n) where
  -- what the walk asks of the session that s begins with it asks of session k + 1
  walking-end : session_end (k + 1) s next floor ≡ session_end (k + 1) (drop (length d - length s) d) next floor
  walking-end = ap (λ (x : List ℕ). session_end (k + 1) x next floor) w.here

  -- a session that is kept begins what is left
  pub walking-session : {e : ℕ} → session_end (k + 1) s next floor ≡ Some e → IsSession (k + 1) s × (e ≡ size s)
  walking-session h = let t = session_end-told (k + 1) s next floor h in ((session_kept-sound _ _ _ t.0).is, t.2)

  pub walking-next :
      {e l o : ℕ} {s' : List ℕ} → session_end (k + 1) s next floor ≡ Some e → l ≡ last_of s → o ≡ frames_at s 2 → s' ≡ drop e s
      → Walking n d (k + 1) s' s (l + 1) (o + 1)
  walking-next {e} {l} {o} {s'} h q u v =
      let less = w.less in
      let t = walking-session h in
      let f = t.0.fits in
      let r = trod-next w.trod i (sym walking-end ∙ h) (q ∙ ap last_of w.here) (u ∙ ap (λ (x : List ℕ). frames_at x 2) w.here) in
      let m : length s' ≡ length s - e = ap length v ∙ length-drop e s in
      let a : length d - length s + e ≡ length d - length s' = omega arith in
      let c : k ≡ k + 1 - 1 = omega arith in
      record {
        trod = rw a at r;
        here = v ∙ ap (drop e) w.here ∙ drop-drop e (length d - length s) d ∙ ap (λ (x : ℕ). drop x d) a;
        less = omega arith;
        behind = w.here ∙ ap (λ (x : ℕ). drop x d) w.trod.walked.place ∙ ap (session d) c;
      }

  -- one that is not kept decides
  pub walking-breaks : session_end (k + 1) s next floor ≡ None → walk_kept n d ≡ false
  walking-breaks h = trod-breaks w.trod i (sym walking-end ∙ h)

-- all are passed: the table is kept if nothing is left, and `last` is its last session
pub walking-done :
    {n : ℕ} {d : List ℕ} {k : ℕ} {s last : List ℕ} {next floor : ℕ} → Walking n d k s last next floor → n ≤ k → eqb (length s) 0 ≡ walk_kept
    n d
walking-done {n} {d} {k} {s} w i = elim (ℕ_discrete (length s) 0) [
  | yes e ↦ eq-eqb _ _ e ∙ sym (eq-eqb (length d - length s) (length d) (let l = w.less in omega arith)) ∙ trod-end w.trod i
  | no e ↦ ne_eqb _ _ e ∙ sym (ne_eqb (length d - length s) (length d) (λ z. e (let l = w.less in omega arith))) ∙ trod-end w.trod i
]

-- that session is there, four descriptors long at least
pub walking-last :
    {n : ℕ} {d : List ℕ} {k : ℕ} {s last : List ℕ} {next floor : ℕ} → Walking n d k s last next floor → n ≤ k → 1 ≤ n
    → (last ≡ session d (n - 1)) × (4 * row ≤ length last) × (4 * row ≤ length d)
walking-last {n} {d} {k} {s} {last} w i h =
    let e : k ≡ n = let t = w.trod.walked.turns in omega arith in
    let b : last ≡ session d (n - 1) = w.behind ∙ ap (λ (x : ℕ). session d (x - 1)) e in
    let s = placed n d (kept-places n d (rw e at w.trod.passed)) {k = n - 1} (omega arith) in
    let l = size_least s in
    let f = s.fits in
    let m = length-drop (starts d (n - 1)) d in
    (b, rw b (omega arith), omega arith)

-- ---- rule 4 from there on

-- k of n sessions stand in their places: the next begins at `at`, with track `next`
pub record Reached (n : ℕ) (d : List ℕ) (k at next : ℕ) : Type 0 where
  pub walked : Walked n d k at
  pub passed : every k (in_place d) ≡ true
  pub track : next ≡ next_of d k

pub trod-reached : {n : ℕ} {d : List ℕ} {k at next floor : ℕ} → Trod n d k at next floor → Reached n d k at next
trod-reached {d = d} {k} r = record { walked = r.walked; passed = kept-places k d r.passed; track = r.track }

module _ {n : ℕ} {d : List ℕ} {k at next : ℕ} (r : Reached n d k at next) (i : k < n) where
  -- whether the session that begins here begins with the track after the last
  reached-track :
      {f l b : ℕ} {x : Bool} → Told (k + 1) (drop at d) f l b → eqb f next ≡ x → follows k (first (session d k)) (before d k) ≡ x
  reached-track t h = sym (next-follows d k) ∙ rw (t.low, r.walked.place, r.track) at h

  pub reached-next : {f l b : ℕ} → Told (k + 1) (drop at d) f l b → f ≡ next → Reached n d (k + 1) (at + b) (l + 1)
  unfolding in_place
  reached-next {f} {l} {b} t h =
      let p = r.walked.place in
      record {
        walked = walked_next r.walked i (is_session_parts t.is) t.bytes;
        passed = every_more k (in_place d) r.passed (and_both _ _ (rw p at t.is) (reached-track t (eq-eqb _ _ h)));
        track = ap (λ (x : ℕ). x + 1) (t.high ∙ ap (λ (x : ℕ). last_of (drop x d)) p) ∙ sym (next_of-next d k);
      }

  -- the first that is none puts the whole out of order
  pub reached-not : is_session (k + 1) (drop at d) ≡ false → false ≡ in_order n d
  unfolding in_order in_place
  reached-not h = and_off _ _ (sym (every-breaks n (in_place d) k i (sym (and_off _ _ (rw r.walked.place at h)))))

  -- and so does the first that begins with another track
  pub reached-off : {f l b : ℕ} → Told (k + 1) (drop at d) f l b → (f ≡ next → ⊥) → false ≡ in_order n d
  unfolding in_order in_place
  reached-off t h = and_off _ _ (sym (every-breaks n (in_place d) k i (sym (and_late _ _ (sym (reached-track t (ne_eqb _ _ h)))))))

-- all are read: what is left to test is that nothing more stands there
pub reached_end : {n : ℕ} {d : List ℕ} {k at next : ℕ} → Reached n d k at next → n ≤ k → eqb at (length d) ≡ in_order n d
unfolding in_order
reached_end r i =
    let e = walked_all r.walked i in
    and_on _ _ (rw e at r.passed) (rw (r.walked.place, e))

-- ---- rule 7 from there on

-- the lead-out before is the frame before the floor
floor-out : (d : List ℕ) (k : ℕ) → floor_of d k - 151 ≡ out_before d k
unfolding floor_of out_before
floor-out d zero = omega arith
floor-out d (suc k) = let e = start_of-frames (row_at (session d k) 2) in omega arith

pub trod_risen : {n : ℕ} {d : List ℕ} {k at next floor out : ℕ} → Trod n d k at next floor → out ≡ floor - 151 → Risen n d k at out
trod_risen {d = d} {k} r e = record {
  walked = r.walked;
  passed = kept-rising k d r.passed;
  lead = e ∙ ap (λ (x : ℕ). x - 151) r.least ∙ floor-out d k;
}

-- ---- the answer

pub rows_reading_fit : (n : ℕ) (d : List ℕ) {disc : Disc} → walk_kept n d ≡ true → disc ≡ disc_from n d → Ok disc ≡ rows_reading n d
unfolding rows_reading
rows_reading_fit n d h e = ap Ok e ∙ sym (when _ _ _ h)

pub rows_reading-unfit : (n : ℕ) (d : List ℕ) {m : ℕ} → walk_kept n d ≡ false → m ≡ first_broken 3 (row_rules n d) → Err (unfit_by m) ≡ rows_reading n d
unfolding rows_reading
rows_reading-unfit n d h e = ap (λ (m : ℕ). Err (unfit_by m)) e ∙ sym (unless _ _ _ h)
