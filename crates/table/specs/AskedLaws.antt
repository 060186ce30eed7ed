-- The laws of what the walk asks of a descriptor.
use Rattle.std.specs.Prelude.{◌≡◌, true, ℕ, ◌≤◌, ◌<◌, eqb}
use Rattle.std.proofs.Common.{sym, ◌∙◌, arith, le-leb, leb-true, eq-eqb, eqb-true, ne_eqb}
use Rattle.ground.specs.Tests.{and_head, and_tail, and_both, when, unless}
use Rattle.address.specs.Address.{frames, is_msf}
use Rattle.address.specs.Laws.{InRange}
use Rattle.table.specs.Layout.{B0, is_extra}
use Rattle.table.specs.Row.{frames_of, names, plain}
use Rattle.table.specs.RowLaws.{plain-free, plain-simple}
use Rattle.table.specs.Asked.{kept, extra_kept, extra_passed, climbs, holds}
use Rattle.table.specs.declared.row.Row.{Row}

-- ---- kept, of a POINT that is neither B0h nor C0h: A0h, A1h, A2h and the tracks' numbers are lower

pub kept-names : (r : Row) (k p : ℕ) → kept r k p ≡ true → names r k p ≡ true
unfolding kept
kept-names r k p h = and_head _ _ h

pub kept-plain : (r : Row) (k p : ℕ) → p < B0 → kept r k p ≡ true → plain r ≡ true
unfolding kept names
kept-plain r k p l h =
    let e = eqb-true r.point p (and_tail _ _ (and_head _ _ h)) in plain-simple r (λ q. omega arith) (λ q. omega arith) ∙ and_tail _ _ h

pub kept_both : (r : Row) (k p : ℕ) → p < B0 → names r k p ≡ true → plain r ≡ true → kept r k p ≡ true
unfolding kept names
kept_both r k p l h g =
    let e = eqb-true r.point p (and_tail _ _ h) in
    and_both _ _ h (sym (plain-simple r (λ q. omega arith) (λ q. omega arith)) ∙ g)

-- ---- passed, of B0h and C0h

-- one with POINT p is kept
pub extra_passed-kept : (r : Row) (k p : ℕ) → r.point ≡ p → extra_passed r k p ≡ extra_kept r k
unfolding extra_passed
extra_passed-kept r k p e = when _ _ _ (eq-eqb _ _ e)

-- any other is none of them
pub extra_passed_other : (r : Row) (k p : ℕ) → (r.point ≡ p → ⊥) → extra_passed r k p ≡ true
unfolding extra_passed
extra_passed_other r k p n = unless _ _ _ (ne_eqb _ _ n)

pub extra_kept_number : (r : Row) (k : ℕ) → extra_kept r k ≡ true → eqb r.session k ≡ true
unfolding extra_kept
extra_kept_number r k h = and_head _ _ h

pub extra_kept-plain : (r : Row) (k : ℕ) → is_extra r.point ≡ true → extra_kept r k ≡ true → plain r ≡ true
unfolding extra_kept
extra_kept-plain r k e h = plain-free r e ∙ and_tail _ _ h

pub extra_kept_both : (r : Row) (k : ℕ) → is_extra r.point ≡ true → eqb r.session k ≡ true → plain r ≡ true → extra_kept r k ≡ true
unfolding extra_kept
extra_kept_both r k e h g = and_both _ _ h (sym (plain-free r e) ∙ g)

-- ---- climbs and holds

pub climbs-low : (r : Row) (low : ℕ) → climbs r low ≡ true → low ≤ frames_of r
unfolding climbs
climbs-low r low h = leb-true _ _ (and_tail _ _ (and_tail _ _ h))

pub holds-climbs : (r : Row) (low : ℕ) → holds r low ≡ true → climbs r low ≡ true
unfolding holds
holds-climbs r low h = and_tail _ _ h

pub holds-low : (r : Row) (low : ℕ) → holds r low ≡ true → low ≤ frames_of r
holds-low r low h = climbs-low r low (holds-climbs r low h)

-- its frames are those of 99:59:74 at most
pub holds-most : (r : Row) (low : ℕ) → holds r low ≡ true → frames_of r ≤ 449999
unfolding holds climbs frames_of
holds-most r low h =
    let m = leb-true r.pmin 99 (and_head _ _ h) in
    let s = leb-true r.psec 59 (and_head _ _ (and_tail _ _ h)) in
    let f = leb-true r.pframe 74 (and_head _ _ (and_tail _ _ (and_tail _ _ h))) in
    omega arith

-- at 00:02:00 or later, and no later than that, it is an address of rule 6
pub climbs-is_msf :
    (r : Row) (low : ℕ) → 150 ≤ low → frames_of r ≤ 449999 → climbs r low ≡ true → is_msf r.pmin r.psec r.pframe ≡ true
unfolding climbs frames_of is_msf
climbs-is_msf r low b m h =
    let u = and_tail _ _ h in
    let l = leb-true low (frames r.pmin r.psec r.pframe) (and_tail _ _ u) in
    and_both _ _ (le-leb r.pmin 99 (omega arith)) (and_both _ _ (and_head _ _ h) (and_both _ _ (and_head _ _ u)
    (le-leb 150 (frames r.pmin r.psec r.pframe) (omega arith))))

pub range-climbs : (r : Row) (low : ℕ) → InRange r.pmin r.psec r.pframe → low ≤ frames_of r → climbs r low ≡ true
unfolding climbs
range-climbs r low i l = and_both _ _ (le-leb _ _ i.second) (and_both _ _ (le-leb _ _ i.frame) (le-leb _ _ l))

pub range-holds : (r : Row) (low : ℕ) → InRange r.pmin r.psec r.pframe → low ≤ frames_of r → holds r low ≡ true
unfolding holds
range-holds r low i l = and_both _ _ (le-leb _ _ i.minute) (range-climbs r low i l)

pub range_least : (r : Row) → InRange r.pmin r.psec r.pframe → 150 ≤ frames_of r
unfolding frames_of
range_least r i = i.lead
