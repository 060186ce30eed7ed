-- The laws of a session's part: when it is given, that it is never empty then, and which rule stands beside its refusal.
use Rattle.std.specs.Prelude.{◌≡◌, refl, Bool, true, false, Option, Some, None, is_some, List, ℕ, ◌+◌, ◌-◌, ◌≤◌, length, take, drop, leb}
use Rattle.std.proofs.Common.{sym, ap, ◌∙◌, arith, le-leb, leb-true, eq-eqb, ne_eqb}
use Rattle.ground.specs.Memory.{rest_all}
use Rattle.ground.specs.Tests.{◌and◌, and_head, and_tail, and_both, when, unless}
use Rattle.table.specs.Layout.{header, descriptors, last_session}
use Rattle.sessions.specs.Session.{size, starts, session}
use Rattle.disc.specs.Rules.{fault, is_fit}
use Rattle.disc.specs.RulesLaws.{Fit, is_fit_true, fit-is_fit, fit-least}
use Rattle.disc.specs.Part.{unfit, no_session, part_refusal, rule_with, refusal_with, part_refused, refusal_meaning, part_start, part_size}
use Rattle.disc.specs.declared.part.Refusal.{Refusal}
use Rattle.disc.specs.declared.part.Refusal.TheVariants as refusal
use Rattle.disc.specs.declared.part.Ruled.{Ruled}

-- the part of session k is given: the table is fit, and it has the session
pub record Given (t : List ℕ) (k : ℕ) : Type 0 where
  pub fit : Fit t
  pub low : 1 ≤ k
  pub high : k ≤ last_session t

pub part_refusal-given : (t : List ℕ) (k : ℕ) → part_refusal t k ≡ 0 → Given t k
unfolding part_refusal
part_refusal-given t k h = decided (is_fit t) (leb 1 k and leb k (last_session t)) refl refl
  where
    decided : (a b : Bool) → is_fit t ≡ a → (leb 1 k and leb k (last_session t)) ≡ b → Given t k
    decided true true p q = record { fit = is_fit_true p; low = leb-true _ _ (and_head _ _ q); high = leb-true _ _ (and_tail _ _ q) }
    decided true false p q = let z : no_session ≡ 0 = sym (when _ _ _ p ∙ unless _ _ _ q) ∙ h in absurd (omega arith)
    decided false b p q = let z : unfit ≡ 0 = sym (unless _ _ _ p) ∙ h in absurd (omega arith)

pub given-part_refusal : {t : List ℕ} {k : ℕ} → Given t k → 0 ≡ part_refusal t k
unfolding part_refusal
given-part_refusal g = sym (when _ _ _ (fit-is_fit g.fit) ∙ when _ _ _ (and_both _ _ (le-leb _ _ g.low) (le-leb _ _ g.high)))

-- ---- the rule beside the number

-- beside any other number than 4 stands 0
pub rule_with-none : (number : ℕ) (t : List ℕ) → (number ≡ unfit → ⊥) → 0 ≡ rule_with number t
unfolding rule_with
rule_with-none number t n = sym (unless _ _ _ (ne_eqb _ _ n))

-- and beside 4 the first broken rule
pub rule_with-fault : (t : List ℕ) → fault t ≡ rule_with unfit t
unfolding rule_with
rule_with-fault t = sym (when _ _ _ (eq-eqb unfit unfit refl))

-- how the part of a session is refused: not, by 10, or by 4 with the rule
part_refused_by : (t : List ℕ) (k : ℕ) {n r : ℕ} → part_refusal t k ≡ n → r ≡ rule_with n t → refusal_with n r ≡ part_refused t k
unfolding part_refused
part_refused_by t k e h = rw (h, e)

pub part_refused_not : {t : List ℕ} {k : ℕ} → Given t k → refusal_with 0 0 ≡ part_refused t k
part_refused_not {t} {k} g = part_refused_by t k (sym (given-part_refusal g)) (rule_with-none 0 t (λ e. omega arith))

pub part_refused_10 : (t : List ℕ) (k : ℕ) → is_fit t ≡ true → leb 1 k and leb k (last_session t) ≡ false → refusal_with no_session 0 ≡ part_refused t k
unfolding part_refusal
part_refused_10 t k h n = part_refused_by t k (when _ _ _ h ∙ unless _ _ _ n) (rule_with-none no_session t (λ e. omega arith))

pub part_refused_4 : (t : List ℕ) (k : ℕ) → is_fit t ≡ false → refusal_with unfit (fault t) ≡ part_refused t k
unfolding part_refusal
part_refused_4 t k h = part_refused_by t k (unless _ _ _ h) (rule_with-fault t)

pub part_refused_number : (t : List ℕ) (k : ℕ) {r : Ruled} → r ≡ part_refused t k → r.number ≡ part_refusal t k
unfolding part_refused
part_refused_number t k e = ap (λ (x : Ruled). x.number) e

-- what no refusal stands for, and any
pub refusal_none : (r : Option Refusal) → false ≡ is_some r → (refusal_meaning r).number ≡ 0
refusal_none None h = refl
refusal_none (Some r) h = cc

pub refusal_some : (r : Option Refusal) → true ≡ is_some r → (refusal_meaning r).number ≡ 0 → ⊥
refusal_some None h e = cc
refusal_some (Some (refusal.Unfit u)) h e = omega arith
refusal_some (Some refusal.NoSession) h e = omega arith

-- ---- the part

-- where the part stands that is given, and where it is refused
pub part_start-given : (t : List ℕ) (k : ℕ) → part_refusal t k ≡ 0 → header + starts (descriptors t) (k - 1) ≡ part_start t k
unfolding part_start
part_start-given t k h = sym (when _ _ _ (eq-eqb _ _ h))

pub part_size-given : (t : List ℕ) (k : ℕ) → part_refusal t k ≡ 0 → size (session (descriptors t) (k - 1)) ≡ part_size t k
unfolding part_size
part_size-given t k h = sym (when _ _ _ (eq-eqb _ _ h))

pub part_start-refused : (t : List ℕ) (k : ℕ) → (part_refusal t k ≡ 0 → ⊥) → 0 ≡ part_start t k
unfolding part_start
part_start-refused t k n = sym (unless _ _ _ (ne_eqb _ _ n))

pub part_size-refused : (t : List ℕ) (k : ℕ) → (part_refusal t k ≡ 0 → ⊥) → 0 ≡ part_size t k
unfolding part_size
part_size-refused t k n = sym (unless _ _ _ (ne_eqb _ _ n))

-- "only a refusal gives an empty part"
pub part_accepted : (t : List ℕ) (k : ℕ) → part_refusal t k ≡ 0 → 44 ≤ part_size t k
part_accepted t k h =
    let g = part_refusal-given t k h in
    let e = part_size-given t k h in
    let l = fit-least g.fit {k = k - 1} (omega arith) in
    omega arith

-- the rest of a rest, in the form in which the code lends it
pub rest-rest : (i j : ℕ) (l : List ℕ)
    → take (length (take (length l - i) (drop i l)) - j) (drop j (take (length l - i) (drop i l))) ≡ drop j (drop i l)
rest-rest i j l = rw (rest_all i l) (rest_all j (drop i l))
