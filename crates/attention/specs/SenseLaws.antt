-- The laws of the table of triples: what is past its end, when triples are one, and what its search finds.
use Rattle.std.specs.Prelude.{◌≡◌, refl, true, false, ◌&&◌, List, [], ◌∷◌, ℕ, zero, suc, ◌+◌, ◌≤◌, ◌<◌, length, drop, get_or, nat_eq}
use Rattle.std.specs.List.{list_any}
use Rattle.std.proofs.Common.{sym, ap, add-one, arith, lt_of_not-le, eq-eqb, eqb-true, drop_of_length-le, drop-cons}
use Rattle.std.proofs.Math.Decide.{dec_le}
use Rattle.std.proofs.Math.ListN.{get_or-eq_default}
use Rattle.ground.specs.Tests.{◌and◌, ◌or◌, and_head, and_tail, and_both, and_plain, or_right, or_plain}
use Rattle.attention.specs.declared.sense.Sense.{Sense}
use Rattle.attention.specs.Sense.{triple, senses, sense_at, same_sense, among, is_known}

-- past the end of the table stands 00/00/00
pub sense_at-past : (i : ℕ) → 13 ≤ i → triple 0 0 0 ≡ sense_at i
unfolding sense_at
sense_at-past i h = sym (get_or-eq_default senses (triple 0 0 0) h)

-- equal triples are found equal, and only they
pub same_sense-eq : (a b : Sense) → same_sense a b ≡ true → a ≡ b
unfolding same_sense
same_sense-eq a b h =
    let k = eqb-true a.key b.key (and_head _ _ h) in
    let t = and_tail _ _ h in
    let s = eqb-true a.asc b.asc (and_head _ _ t) in
    let q = eqb-true a.ascq b.ascq (and_tail _ _ t) in
    λ i. record { key = k i; asc = s i; ascq = q i }

pub same_sense_refl : (a : Sense) → same_sense a a ≡ true
unfolding same_sense
same_sense_refl a = and_both _ _ (eq-eqb a.key _ refl) (and_both _ _ (eq-eqb a.asc _ refl) (eq-eqb a.ascq _ refl))

-- the search: the row at i is the triple
pub among-here : (i : ℕ) (s : Sense) → i < 13 → same_sense (sense_at i) s ≡ true → true ≡ among (drop i senses) s
unfolding sense_at among ◌or◌
among-here i s h k = rw (drop-cons senses i (triple 0 0 0) h, k)

-- the search: it is not, so what is left decides
pub among_on : (i : ℕ) (s : Sense) → i < 13 → same_sense (sense_at i) s ≡ false → among (drop i senses) s ≡ among (drop (i + 1) senses) s
unfolding sense_at among ◌or◌
among_on i s h k = rw (drop-cons senses i (triple 0 0 0) h, k, add-one i)

-- the search: nothing is left
pub among_none : (i : ℕ) (s : Sense) → 13 ≤ i → false ≡ among (drop i senses) s
unfolding among
among_none i s h = rw (drop_of_length-le senses {i = i} h)

-- the derived equality of triples, `==` in the code
pub same_sense-derived : (a b : Sense) → (nat_eq a.key b.key && (nat_eq a.asc b.asc && nat_eq a.ascq b.ascq)) ≡ same_sense a b
unfolding same_sense
same_sense-derived a b = simp and_plain

-- the search of a list, in the library's words
pub among-any :
    (rows : List Sense) (s : Sense)
    → list_any (λ r. nat_eq r.key s.key && (nat_eq r.asc s.asc && nat_eq r.ascq s.ascq)) rows ≡ among rows s
unfolding among
among-any [] s = refl
among-any (r ∷ rows) s = rw (among-any rows s, same_sense-derived r s) (or_plain (same_sense r s) (among rows s))

-- every row of a list stands in it
among-at : (rows : List Sense) (i : ℕ) (d : Sense) → i < length rows → among rows (get_or rows i d) ≡ true
unfolding among ◌or◌
among-at [] i d h = absurd (omega arith)
among-at (r ∷ rows) zero d h = rw (same_sense_refl r)
among-at (r ∷ rows) (suc i) d h = or_right (same_sense r (get_or rows i d)) _ (among-at rows i d (omega arith))

-- each row of the table is known, and so is 00/00/00 past its end
pub is_known-at : (i : ℕ) → is_known (sense_at i) ≡ true
unfolding is_known sense_at among ◌or◌ same_sense ◌and◌
is_known-at i = elim (dec_le 13 i) [
  | yes h ↦ ap (among senses) (get_or-eq_default senses (triple 0 0 0) h)
  | no h ↦ among-at senses i (triple 0 0 0) (lt_of_not-le h)
]
