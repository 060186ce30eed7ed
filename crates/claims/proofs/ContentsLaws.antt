-- The track list is made of the contents alone, and two contents that make one list are one, by blocks and by M:S:F alike.
use Rattle.std.specs.Prelude.{◌≡◌, refl, Bool, true, false, List, [], ◌∷◌, ◌++◌, ℕ, zero, suc, ◌≤◌, leb, length, get_or, drop}
use Rattle.std.proofs.Common.{sym, ap, ◌∙◌, append-nil, append_assoc, arith, le-leb, length-append}
use Rattle.ground.specs.Tests.{◌and◌, choose◌then◌else◌, when}
use Rattle.ground.specs.Number.{word32, bytes32_exact}
use Rattle.address.specs.Address.{MsfAnswer, last as last_address, minute_of, second_of, frame_of, shown_address}
use Rattle.address.specs.Laws.{to_msf-at}
use Rattle.table.specs.Layout.{descriptors, rows, point_at, is_track}
use Rattle.toc.specs.Shown.{described_row, is_shown, shown_track, shown_tracks}
use Rattle.toc.specs.ShownLaws.{described-length}
use Rattle.toc.specs.Answer.{headed, format0}
use Rattle.claims.specs.Contents.{list_with, Entry, Contents, entry_at, entries, contents_of, from, entry_bytes, written, lead_entry, list_of}

-- ---- the list is made of the contents

from-append : (n : ℕ) (x y : List Entry) → from n (x ++ y) ≡ from n x ++ from n y
unfolding from choose◌then◌else◌
from-append n [] y = refl
from-append n (e ∷ x) y = step (leb n e.number) (from-append n x y)
  where
    step : (b : Bool) → from n (x ++ y) ≡ from n x ++ from n y
        → (choose b then e ∷ from n (x ++ y) else from n (x ++ y)) ≡ (choose b then e ∷ from n x else from n x) ++ from n y
    step true h = ap (λ (l : List Entry). e ∷ l) h
    step false h = h

written-append : (msf : Bool) (x y : List Entry) → written msf (x ++ y) ≡ written msf x ++ written msf y
unfolding written
written-append msf [] y = refl
written-append msf (e ∷ x) y =
    ap (λ (l : List ℕ). entry_bytes msf e ++ l) (written-append msf x y)
    ∙ sym (append_assoc (entry_bytes msf e) (written msf x) (written msf y))

-- of one descriptor
shown-written : (msf : Bool) (n : ℕ) (d : List ℕ) (j : ℕ)
    → shown_track msf n d j ≡ written msf (from n (choose is_track (point_at d j) then entry_at d j ∷ [] else []))
unfolding shown_track is_shown from written choose◌then◌else◌ ◌and◌
shown-written msf n d j = by-point (is_track (point_at d j))
  where
    by_number : (b : Bool) → (choose b then described_row msf d j else []) ≡ written msf (choose b then entry_at d j ∷ [] else [])
    by_number true = sym (append-nil (described_row msf d j))
    by_number false = refl

    by-point : (b : Bool)
        → (choose b and leb n (point_at d j) then described_row msf d j else []) ≡ written msf (from n (choose b then entry_at d j ∷ [] else []))
    by-point true = by_number (leb n (point_at d j))
    by-point false = refl

-- of the first j
shown-entries : (msf : Bool) (n : ℕ) (d : List ℕ) (j : ℕ) → shown_tracks msf n d j ≡ written msf (from n (entries d j))
unfolding shown_tracks entries from written
shown-entries msf n d zero = refl
shown-entries msf n d (suc j) =
    let here = choose is_track (point_at d j) then entry_at d j ∷ [] else [] in
    rw (shown-entries msf n d j, shown-written msf n d j)
    (sym (written-append msf (from n (entries d j)) (from n here)) ∙ ap (written msf) (sym (from-append n (entries d j) here)))

-- any table's list, by MSF and N
pub list-made : (msf : Bool) (n : ℕ) (t : List ℕ) → list_with msf n t ≡ list_of msf n (contents_of t)
unfolding format0
list-made msf n t = rw (shown-entries msf n (descriptors t) (rows (descriptors t)))

-- ---- and tells them

-- its address is 449,849 at most
abbrev pub Placed : Entry → Type 0
Placed e = e.start ≤ last_address

-- each of the list is such
pub data Each {E : Type 0} (P : E → Type 0) : List E → Type 0 where
  nil : Each P []
  cons : {e : E} {es : List E} → P e → Each P es → Each P (e ∷ es)

pub each_any : {E : Type 0} {P : E → Type 0} (x : List E) → ((e : E) → P e) → Each P x
each_any [] f = nil
each_any (e ∷ x) f = cons (f e) (each_any x f)

pub each_append : {E : Type 0} {P : E → Type 0} {x y : List E} → Each P x → Each P y → Each P (x ++ y)
each_append nil b = b
each_append (cons p a) b = cons p (each_append a b)

-- what an address is shown as, before other bytes, tells the address and them
shown-tells : (msf : Bool) {a b : ℕ} {x y : List ℕ} → a ≤ last_address → b ≤ last_address
    → shown_address msf a ++ x ≡ shown_address msf b ++ y → (a ≡ b) × (x ≡ y)
unfolding shown_address choose◌then◌else◌
shown-tells false {a} {b} p q h =
    let u = bytes32_exact a (omega arith) in
    let v = bytes32_exact b (omega arith) in
    let i = ap (λ (l : List ℕ). get_or l 0 0) h in
    let j = ap (λ (l : List ℕ). get_or l 1 0) h in
    let k = ap (λ (l : List ℕ). get_or l 2 0) h in
    let m = ap (λ (l : List ℕ). get_or l 3 0) h in
    (sym u ∙ (λ t. word32 (i t) (j t) (k t) (m t)) ∙ v, ap (drop 4) h)
shown-tells true {a} {b} p q h =
    let u = to_msf-at a p in
    let v = to_msf-at b q in
    let j : minute_of a ≡ minute_of b = sym (ap (λ (r : MsfAnswer). r.minute) u) ∙ ap (λ (l : List ℕ). get_or l 1 0) h ∙ ap (λ (r : MsfAnswer). r.minute) v in
    let k : second_of a ≡ second_of b = sym (ap (λ (r : MsfAnswer). r.second) u) ∙ ap (λ (l : List ℕ). get_or l 2 0) h ∙ ap (λ (r : MsfAnswer). r.second) v in
    let m : frame_of a ≡ frame_of b = sym (ap (λ (r : MsfAnswer). r.frame) u) ∙ ap (λ (l : List ℕ). get_or l 3 0) h ∙ ap (λ (r : MsfAnswer). r.frame) v in
    (omega arith, ap (drop 4) h)

-- so does an entry
described-tells : (msf : Bool) (e f : Entry) {x y : List ℕ} → Placed e → Placed f
    → entry_bytes msf e ++ x ≡ entry_bytes msf f ++ y → (e ≡ f) × (x ≡ y)
described-tells msf e f p q h =
    let a = ap (λ (l : List ℕ). get_or l 1 0) h in
    let b = ap (λ (l : List ℕ). get_or l 2 0) h in
    let r = shown-tells msf p q (ap (drop 4) h) in
    (λ i. record { flags = a i; number = b i; start = r.0 i }, r.1)

written-length : (msf : Bool) (e : Entry) (es : List Entry) → 8 ≤ length (written msf (e ∷ es))
unfolding written
written-length msf e es =
    let a = length-append (entry_bytes msf e) (written msf es) in
    let b = described-length msf e.flags e.number e.start in
    omega arith

-- the lead-out stands behind the tracks: with it a list of tracks is longer than it alone
longer : (msf : Bool) (e : Entry) (es : List Entry) (f g : Entry)
    → entry_bytes msf f ≡ written msf (e ∷ es) ++ entry_bytes msf g → ⊥
longer msf e es f g h =
    let a = ap length h in
    let b = length-append (written msf (e ∷ es)) (entry_bytes msf g) in
    let c = described-length msf f.flags f.number f.start in
    let d = described-length msf g.flags g.number g.start in
    let w = written-length msf e es in
    omega arith

-- the tracks with an entry behind them tell all of these
written-tells : (msf : Bool) (x y : List Entry) (e f : Entry) → Each Placed x → Each Placed y → Placed e → Placed f
    → written msf x ++ entry_bytes msf e ≡ written msf y ++ entry_bytes msf f
    → (x ≡ y) × (e ≡ f)
unfolding written
written-tells msf [] [] e f a b p q h =
    (refl, (described-tells msf e f p q (ap (λ (l : List ℕ). l ++ []) h)).0)
written-tells msf [] (g ∷ y) e f a b p q h = absurd (longer msf g y e f h)
written-tells msf (g ∷ x) [] e f a b p q h = absurd (longer msf g x f e (sym h))
written-tells msf (g ∷ x) (k ∷ y) e f (cons s a) (cons r b) p q h =
    let d = entry_bytes msf g in
    let c = entry_bytes msf k in
    let u = described-tells msf g k s r (sym (append_assoc d (written msf x) _) ∙ h ∙ append_assoc c (written msf y) _) in
    let v = written-tells msf x y e f a b p q u.1 in
    (λ i. u.0 i ∷ v.0 i, v.1)

-- contents whose addresses are in range
pub record Ranged (c : Contents) : Type 0 where
  pub tracks : Each Placed c.tracks
  pub lead : c.session_lead_out ≤ last_address

-- where every track is numbered n or more, all are shown
from_low : (n : ℕ) {x : List Entry} → Each (λ e. n ≤ e.number) x → from n x ≡ x
unfolding from
from_low n nil = refl
from_low n (cons {e} p a) = when _ _ _ (le-leb n e.number p) ∙ ap (λ (l : List Entry). e ∷ l) (from_low n a)

from_all : (x : List Entry) → from 0 x ≡ x
from_all x = from_low 0 (each_any x (λ e. omega arith))

-- then the list is that of N 0
pub list-low : (msf : Bool) (n : ℕ) (c : Contents) → Each (λ e. n ≤ e.number) c.tracks → list_of msf n c ≡ list_of msf 0 c
list-low msf n c h =
    ap (λ (x : List Entry). headed c.first c.last (written msf x ++ entry_bytes msf (lead_entry c)))
    (from_low n h ∙ sym (from_all c.tracks))

-- contents whose addresses are in range are told by the list that they make
pub list_tells : (msf : Bool) (c k : Contents) → Ranged c → Ranged k → list_of msf 0 c ≡ list_of msf 0 k → c ≡ k
unfolding headed
list_tells msf c k a b h =
    let p = ap (λ (l : List ℕ). get_or l 2 0) h in
    let q = ap (λ (l : List ℕ). get_or l 3 0) h in
    let w = rw (from_all c.tracks, from_all k.tracks) at (ap (drop 4) h) in
    let r = written-tells msf c.tracks k.tracks (lead_entry c) (lead_entry k) a.tracks b.tracks a.lead b.lead w in
    λ i. record { first = p i; last = q i; tracks = r.0 i; flags_of_lead = (r.1 i).flags; session_lead_out = (r.1 i).start }
