-- The laws of a session and of where each begins.
use Rattle.std.specs.Prelude.{◌≡◌, refl, Bool, true, false, List, ℕ, zero, suc, ◌+◌, ◌-◌, ◌*◌, ◌/◌, ◌%◌, ◌≤◌, ◌<◌, length, get_or, drop, eqb, Some, None}
use Rattle.std.proofs.Common.{sym, ap, ◌∙◌, arith, add-one, lt_of_not-le, le-leb, leb-true, eq-eqb, ne_eqb, eqb-true, length-drop, get_or-drop}
use Rattle.std.proofs.Math.Decide.{dec_le, ℕ_discrete}
use Rattle.std.proofs.Math.ListN.{get_or-eq_default}
use mir.Val.{bool_byte}
use Rattle.ground.specs.Tests.{every, choose◌then◌else◌, either, and_head, and_tail, and_both, when, unless, every-at}
use Rattle.table.specs.Layout.{row, session_at, point_at, A0, A1, A2, B0, C0}
use Rattle.table.specs.Row.{row_at, names}
use Rattle.sessions.specs.Session.{first, last, tracks, one, b0s, c0s, count, size, listed, numbered, is_session, starts, session, before, follows, in_place, in_order, read_session}
use Rattle.sessions.specs.declared.session.Session.{Session}

-- ---- one session

-- s begins with session k, its parts by name
pub record IsSession (k : ℕ) (s : List ℕ) : Type 0 where
  pub fits : size s ≤ length s
  pub low : 1 ≤ first s
  pub order : first s ≤ last s
  pub high : last s ≤ 99
  pub lists : listed s k (first s) (tracks s) ≡ true
  pub numbers : numbered s k (3 + tracks s) (b0s s + c0s s) ≡ true

pub is_session_parts : {k : ℕ} {s : List ℕ} → is_session k s ≡ true → IsSession k s
unfolding is_session
is_session_parts {k} {s} h =
    let t = and_tail _ _ h in
    let u = and_tail _ _ t in
    let v = and_tail _ _ u in
    record {
      fits = leb-true _ _ (and_head _ _ h);
      low = leb-true _ _ (and_head _ _ t);
      order = leb-true _ _ (and_head _ _ u);
      high = leb-true _ _ (and_head _ _ v);
      lists = and_head _ _ (and_tail _ _ v);
      numbers = and_tail _ _ (and_tail _ _ v);
    }

pub is_session_true : {k : ℕ} {s : List ℕ} → IsSession k s → is_session k s ≡ true
unfolding is_session
is_session_true i =
    and_both _ _ (le-leb _ _ i.fits)
    (and_both _ _ (le-leb _ _ i.low) (and_both _ _ (le-leb _ _ i.order) (and_both _ _ (le-leb _ _ i.high)
    (and_both _ _ i.lists i.numbers))))

-- one or none
pub one-most : (q p : ℕ) → one q p ≤ 1
unfolding one
one-most q p = either (λ (n : ℕ). n ≤ 1) (eqb q p) (λ e. omega arith) (λ e. omega arith)

pub one_is : {q p : ℕ} → q ≡ p → one q p ≡ 1
unfolding one
one_is e = when _ _ _ (eq-eqb _ _ e)

pub one_not : {q p : ℕ} → (q ≡ p → ⊥) → one q p ≡ 0
unfolding one
one_not n = unless _ _ _ (ne_eqb _ _ n)

-- the test's answer as a number
pub one-counts : (q p : ℕ) → bool_byte (eqb q p) ≡ one q p
unfolding one
one-counts q p = either (λ (n : ℕ). bool_byte (eqb q p) ≡ n) (eqb q p) (λ e. rw e) (λ e. rw e)

-- where one is counted, one stands
pub one_point : (q p : ℕ) → 1 ≤ one q p → q ≡ p
unfolding one
one_point q p h = elim (ℕ_discrete q p) [
  | yes e ↦ e
  | no e ↦ let z = one_not e in absurd (omega arith)
]

-- at most two stand past the tracks
pub extras-most : (s : List ℕ) → b0s s + c0s s ≤ 2
extras-most s =
    let b = one-most (point_at s (3 + tracks s)) B0 in let c = one-most (point_at s (3 + tracks s + b0s s)) C0 in omega arith

-- what holds of the B0h and of the C0h holds of each
pub extras_each :
    (s : List ℕ) (P : ℕ → Type 0) → (point_at s (3 + tracks s) ≡ B0 → P (3 + tracks s))
    → (point_at s (3 + tracks s + b0s s) ≡ C0 → P (3 + tracks s + b0s s)) → (i : ℕ) → 3 + tracks s ≤ i → i < count s → P i
extras_each s P f g i l h =
    let m = extras-most s in
    let b = one-most (point_at s (3 + tracks s)) B0 in
    elim (ℕ_discrete i (3 + tracks s + b0s s)) [
      | yes e ↦ rw e (g (one_point _ _ (omega arith)))
      | no e ↦ (let z : i ≡ 3 + tracks s = let c = one-most (point_at s (3 + tracks s + b0s s)) C0 in omega arith in
          rw z (f (one_point _ _ (omega arith))))
    ]

-- a descriptor that is counted is there whole, where whole descriptors are
one-whole : (s : List ℕ) (j p : ℕ) → 1 ≤ p → length s % row ≡ 0 → row * j ≤ length s → row * (j + one (point_at s j) p) ≤ length s
one-whole s j p l w h = elim (ℕ_discrete (point_at s j) p) [
  | yes e ↦ (let o = one_is e in let q = inside e in omega arith)
  | no e ↦ (let o = one_not e in omega arith)
]
  where
    inside : point_at s j ≡ p → row * j < length s
    inside e = elim (dec_le (length s) (row * j)) [
      | yes g ↦ (let z = get_or-eq_default s 0 {n = row * j + 3} (omega arith) in absurd (omega arith))
      | no g ↦ lt_of_not-le g
    ]

-- and so all of the session is
pub size-whole : (s : List ℕ) → length s % row ≡ 0 → row * (3 + tracks s) ≤ length s → size s ≤ length s
unfolding size
size-whole s w h = one-whole s (3 + tracks s + b0s s) C0 (omega arith) w (one-whole s (3 + tracks s) B0 (omega arith) w h)

-- a session has a track, and so four descriptors at least
pub size_least : {k : ℕ} {s : List ℕ} → IsSession k s → 44 ≤ size s
unfolding size
size_least i = let f = i.order in omega arith

-- of any bytes it counts A0, A1 and A2, and what it counts past the tracks are B0h and C0h
pub size-heads : (s : List ℕ) → 3 * row ≤ size s
unfolding size
size-heads s = omega arith

pub size_extras : (s : List ℕ) → size s / row - (3 + tracks s) ≡ b0s s + c0s s
unfolding size
size_extras s = omega arith

-- descriptor j is of session k and has POINT p
pub record Named (d : List ℕ) (k j p : ℕ) : Type 0 where
  pub number : session_at d j ≡ k
  pub point : point_at d j ≡ p

pub names_parts : (d : List ℕ) (k j p : ℕ) → names (row_at d j) k p ≡ true → Named d k j p
unfolding names
names_parts d k j p h = record { number = eqb-true _ _ (and_head _ _ h); point = eqb-true _ _ (and_tail _ _ h) }

-- the descriptors of session k: A0, A1, A2 and then n tracks from f on
pub record Listed (d : List ℕ) (k f n : ℕ) : Type 0 where
  pub a0 : Named d k 0 A0
  pub a1 : Named d k 1 A1
  pub a2 : Named d k 2 A2
  pub track : (i : ℕ) → i < n → Named d k (3 + i) (f + i)

pub listed_parts : {d : List ℕ} {k f n : ℕ} → listed d k f n ≡ true → Listed d k f n
unfolding listed
listed_parts {d} {k} {f} {n} h =
    let u = and_tail _ _ h in
    let v = and_tail _ _ u in
    record {
      a0 = names_parts _ _ _ _ (and_head _ _ h);
      a1 = names_parts _ _ _ _ (and_head _ _ u);
      a2 = names_parts _ _ _ _ (and_head _ _ v);
      track = λ i l. names_parts _ _ _ _ (every-at n (λ j. names (row_at d (3 + j)) k (f + j)) (and_tail _ _ v) i l);
    }

-- what the reader tells of the session that s begins with
abbrev pub told : List ℕ → Session
told s = record { first = first s; last = last s; bytes = size s }

-- what the reader answers of a session, and of anything else
pub read_session_is : {k : ℕ} {s : List ℕ} → IsSession k s → Some (told s) ≡ read_session k s
unfolding read_session
read_session_is i = sym (when _ _ _ (is_session_true i))

pub read_session_not : (k : ℕ) (s : List ℕ) → (IsSession k s → ⊥) → None ≡ read_session k s
unfolding read_session
read_session_not k s n = decided (is_session k s) refl
  where
    decided : (b : Bool) → is_session k s ≡ b → None ≡ (choose is_session k s then Some (told s) else None)
    decided true e = absurd (n (is_session_parts e))
    decided false e = sym (unless _ _ _ e)

-- what the reader's answer tells of s
pub record Told (k : ℕ) (s : List ℕ) (f l b : ℕ) : Type 0 where
  pub is : is_session k s ≡ true
  pub low : f ≡ first s
  pub high : l ≡ last s
  pub bytes : b ≡ size s

pub read_session-told : (k : ℕ) (s : List ℕ) {r : Session} → Some r ≡ read_session k s → Told k s r.first r.last r.bytes
unfolding read_session
read_session-told k s {r} h = decided (is_session k s) refl
  where
    decided : (t : Bool) → is_session k s ≡ t → Told k s r.first r.last r.bytes
    decided true e = let q : Some r ≡ Some (told s) = h ∙ when _ _ _ e in record { is = e; low = cc; high = cc; bytes = cc }
    decided false e = let q : Some r ≡ None = h ∙ unless _ _ _ e in cc

pub read_session_told_not : (k : ℕ) (s : List ℕ) → None ≡ read_session k s → is_session k s ≡ false
unfolding read_session
read_session_told_not k s h = decided (is_session k s) refl
  where
    decided : (t : Bool) → is_session k s ≡ t → is_session k s ≡ false
    decided true e = let q : None ≡ Some (told s) = h ∙ when _ _ _ e in cc
    decided false e = e

-- ---- where each session begins

-- the tracks of the session that begins at `at`, by the two bytes that tell them
pub tracks-drop : (d : List ℕ) (at : ℕ) → tracks (drop at d) ≡ get_or d (at + 11 + 8) 0 + 1 - get_or d (at + 8) 0
tracks-drop d at =
    let e : at + 19 ≡ at + 11 + 8 = omega arith in
    rw (get_or-drop at d 19 0, get_or-drop at d 8 0, e)

-- the POINT of descriptor j of it
pub point-drop : (d : List ℕ) (at j : ℕ) → point_at (drop at d) j ≡ point_at (drop (at + row * j) d) 0
point-drop d at j = get_or-drop at d (row * j + 3) 0 ∙ ap (λ (x : ℕ). get_or d x 0) (omega arith) ∙ sym (get_or-drop (at + row * j) d 3 0)

-- its size, by its tracks and the POINTs behind them
pub size-drop :
    (d : List ℕ) (at : ℕ) {n b c : ℕ} → n ≡ 3 + tracks (drop at d) → b ≡ one (point_at (drop (at + row * n) d) 0) B0
    → c ≡ one (point_at (drop (at + row * (n + b)) d) 0) C0 → row * (n + b + c) ≡ size (drop at d)
unfolding size
size-drop d at {n} {b} {c} e f g =
    let p : b ≡ b0s (drop at d) = f ∙ ap (λ (x : ℕ). one x B0) (sym (point-drop d at n) ∙ ap (point_at (drop at d)) e) in
    let q : n + b ≡ 3 + tracks (drop at d) + b0s (drop at d) = omega arith in
    let r : c ≡ c0s (drop at d) = g ∙ ap (λ (x : ℕ). one x C0) (sym (point-drop d at (n + b)) ∙ ap (point_at (drop at d)) q) in
    omega arith

pub starts_none : (d : List ℕ) → 0 ≡ starts d 0
unfolding starts
starts_none d = refl

-- the next one begins where this one ends
pub starts-next : (d : List ℕ) (k : ℕ) {at b : ℕ} → at ≡ starts d k → b ≡ size (drop at d) → at + b ≡ starts d (k + 1)
unfolding starts
starts-next d k {at} {b} e h = rw (add-one k) (rw (h, e))

pub before-next : (d : List ℕ) (k : ℕ) → before d (k + 1) ≡ last (session d k)
unfolding before
before-next d k = rw (add-one k)

pub in_place-session : (d : List ℕ) (k : ℕ) → in_place d k ≡ true → IsSession (k + 1) (session d k)
unfolding in_place
in_place-session d k h = is_session_parts (and_head _ _ h)

pub in_place-follows : (d : List ℕ) (k : ℕ) → in_place d k ≡ true → follows k (first (session d k)) (before d k) ≡ true
unfolding in_place
in_place-follows d k h = and_tail _ _ h

-- each of the sessions in order is one
pub placed : (n : ℕ) (d : List ℕ) → every n (in_place d) ≡ true → {k : ℕ} → k < n → IsSession (k + 1) (session d k)
placed n d h {k} i = in_place-session d k (every-at n (in_place d) h k i)

pub placed_at : (n : ℕ) (d : List ℕ) → every n (in_place d) ≡ true → {k at : ℕ} → at ≡ starts d k → k < n → IsSession (k + 1) (drop at d)
placed_at n d h e i = rw e (placed n d h i)

-- a session that begins in the table ends in it
pub size-within : {k : ℕ} (at : ℕ) (d : List ℕ) → at ≤ length d → IsSession k (drop at d) → at + size (drop at d) ≤ length d
size-within at d h i = let f = i.fits in let e = length-drop at d in omega arith

-- and so all of them begin in it
pub starts-within : (n : ℕ) (d : List ℕ) → every n (in_place d) ≡ true → (k : ℕ) → k ≤ n → starts d k ≤ length d
unfolding starts
starts-within n d h zero i = omega arith
starts-within n d h (suc k) i =
    size-within (starts d k) d (starts-within n d h k (omega arith)) (placed n d h {k = k} (omega arith))

-- ---- from one session to the next

-- k of n sessions are passed: the next begins at `at`, in the table
pub record Walked (n : ℕ) (d : List ℕ) (k at : ℕ) : Type 0 where
  pub turns : k ≤ n
  pub place : at ≡ starts d k
  pub within : at ≤ length d

pub walked_none : (n : ℕ) (d : List ℕ) → Walked n d 0 0
walked_none n d = record { turns = omega arith; place = starts_none d; within = omega arith }

pub walked_next :
    {n : ℕ} {d : List ℕ} {k at b : ℕ} → Walked n d k at → k < n → IsSession (k + 1) (drop at d) → b ≡ size (drop at d) → Walked n d (k + 1) (at + b)
walked_next {n} {d} {k} {at} w i s e = record {
  turns = omega arith;
  place = starts-next d k w.place e;
  within = let u = size-within at d w.within s in omega arith;
}

pub walked_all : {n : ℕ} {d : List ℕ} {k at : ℕ} → Walked n d k at → n ≤ k → k ≡ n
walked_all w h = let t = w.turns in omega arith

-- ---- how many descriptors

-- how many descriptors stand before the session after k others
unfoldable pub rows_before : List ℕ → ℕ → ℕ
rows_before d zero = 0
rows_before d (suc k) = rows_before d k + count (session d k)

pub rows_before-next : (d : List ℕ) (k : ℕ) → rows_before d (k + 1) ≡ rows_before d k + count (session d k)
unfolding rows_before
rows_before-next d k = rw (add-one k)

-- each session begins at a descriptor
pub starts-rows : (d : List ℕ) (k : ℕ) → starts d k ≡ row * rows_before d k
unfolding starts rows_before size
starts-rows d zero = refl
starts-rows d (suc k) = let h = starts-rows d k in omega arith

-- the sessions in order stand in their places
pub in_order-places : (n : ℕ) (d : List ℕ) → in_order n d ≡ true → every n (in_place d) ≡ true
unfolding in_order
in_order-places n d h = and_head _ _ h

pub in_order_end : (n : ℕ) (d : List ℕ) → in_order n d ≡ true → starts d n ≡ length d
unfolding in_order
in_order_end n d h = eqb-true _ _ (and_tail _ _ h)
