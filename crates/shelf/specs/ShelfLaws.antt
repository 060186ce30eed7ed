-- Laws of a stream of tables: what one table adds, and so what any number of them do; and what is read piece by piece.
use Rattle.std.specs.Prelude.{◌≡◌, refl, Bool, true, false, List, [], ◌∷◌, ◌++◌, ℕ, zero, suc, ◌+◌, ◌-◌, ◌≤◌, ◌<◌, length, take, drop, Result, Ok, Err}
use Rattle.std.proofs.Common.{sym, ap, ◌∙◌, append_assoc, append-nil, arith, lt_of_not-le, length-drop, take-append-drop, ne_eqb}
use Rattle.std.proofs.Math.Decide.{dec_le}
use Rattle.std.proofs.lemmas.Bool.{lt-leb}
use Rattle.ground.specs.Tests.{choose◌then◌else◌, and_off, and_late}
use Rattle.table.specs.Layout.{bound, data_length, header}
use Rattle.disc.specs.Rules.{rule1, fault, is_fit, first_broken}
use Rattle.disc.specs.RulesLaws.{fault-first}
use Rattle.shelf.specs.Count.{one_if}
use Rattle.shelf.specs.Content.{last_out}
use Rattle.shelf.specs.ContentLaws.{blocks_three}
use Rattle.shelf.specs.Totals.{sum, if_fit, of_table, totals_of, within, too_large, bounded, Within}
use Rattle.shelf.specs.TotalsLaws.{within_parts, parts_within, bounded_is, bounded-over}
use Rattle.shelf.specs.Stream.{table_length, tables, shelf, counted, passed}
use Rattle.shelf.specs.Shelved.{concat, lead_outs, go_on, pieces}
use Rattle.shelf.specs.StreamLaws.{tables-none, tables-next, tables-cut, counted_on, counted-past}
use Rattle.shelf.specs.declared.totals.Totals.{Totals}
use Rattle.shelf.specs.declared.totals.TooLarge.{TooLarge}
use Rattle.shelf.specs.declared.stream.Passed.{Passed}

-- ---- tables one after the other

-- the tables of a stream, one after the other, are the stream
concat_in : (n : ℕ) (s : List ℕ) → length s ≤ n → concat (tables s) ≡ s
unfolding concat
concat_in zero [] h = ap concat tables-none
concat_in zero (b ∷ s) h = absurd (omega arith)
concat_in (suc n) [] h = ap concat tables-none
concat_in (suc n) (b ∷ s) h = elim (dec_le (table_length (b ∷ s)) (length (b ∷ s))) [
  | yes g ↦ (let l = length-drop (table_length (b ∷ s)) (b ∷ s) in
      ap concat (tables-next (b ∷ s) g)
      ∙ ap (λ (x : List ℕ). take (table_length (b ∷ s)) (b ∷ s) ++ x) (concat_in n (drop (table_length (b ∷ s)) (b ∷ s)) (omega arith))
      ∙ take-append-drop (table_length (b ∷ s)) (b ∷ s))
  | no g ↦ ap concat (tables-cut (b ∷ s) (omega arith) (lt_of_not-le g)) ∙ append-nil (b ∷ s)
]

pub tables-concat : (s : List ℕ) → concat (tables s) ≡ s
tables-concat s = concat_in (length s) s (omega arith)

-- ---- rule 1

rule1_broken : (t : List ℕ) → rule1 t ≡ false → fault t ≡ 1
unfolding fault first_broken
rule1_broken t h = rw h

-- a table without its four bytes of header
pub short_broken : (t : List ℕ) → length t < header → fault t ≡ 1
unfolding rule1
short_broken t h = rule1_broken t (sym (and_off _ _ (lt-leb _ _ h)))

-- a table that is cut off is shorter than it says
pub cut_broken : (t : List ℕ) → length t < table_length t → fault t ≡ 1
unfolding rule1
cut_broken t h = elim (dec_le header (length t)) [
  | yes l ↦ rule1_broken t (sym (and_late _ _ (and_late _ _ (and_late _ _ (sym (ne_eqb (data_length t) (length t - 2) (λ e. omega arith)))))))
  | no l ↦ short_broken t (lt_of_not-le l)
]

-- one over the bound is too long
pub over_broken : (t : List ℕ) → bound < length t → fault t ≡ 1
unfolding rule1
over_broken t h = rule1_broken t (sym (and_late _ _ (and_off _ _ (lt-leb _ _ h))))

-- ---- what one table adds

-- its blocks, in all
table-blocks : (t : List ℕ) → (of_table t).data_blocks + (of_table t).audio_blocks + (of_table t).trackless ≡ if_fit t (last_out t)
unfolding of_table if_fit choose◌then◌else◌
table-blocks t = decided (is_fit t) refl
  where
    decided : (b : Bool) → is_fit t ≡ b → (of_table t).data_blocks + (of_table t).audio_blocks + (of_table t).trackless ≡ if_fit t (last_out t)
    decided true e = rw e (blocks_three t)
    decided false e = rw e

-- it is fit, or breaks one rule of seven first
table_each :
    (t : List ℕ)
    → (of_table t).fit
    + ((of_table t).rule1 + (of_table t).rule2 + (of_table t).rule3 + (of_table t).rule4 + (of_table t).rule5 + (of_table t).rule6 + (of_table t).rule7) ≡ 1
unfolding of_table if_fit is_fit one_if choose◌then◌else◌
table_each t = which (fault t) refl (fault-first t).most
  where
    which : (n : ℕ) → fault t ≡ n → n ≤ 7
        → (of_table t).fit
        + ((of_table t).rule1 + (of_table t).rule2 + (of_table t).rule3 + (of_table t).rule4 + (of_table t).rule5 + (of_table t).rule6 + (of_table t).rule7) ≡ 1
    which zero e h = rw e
    which (suc zero) e h = rw e
    which (suc (suc zero)) e h = rw e
    which (suc (suc (suc zero))) e h = rw e
    which (suc (suc (suc (suc zero)))) e h = rw e
    which (suc (suc (suc (suc (suc zero))))) e h = rw e
    which (suc (suc (suc (suc (suc (suc zero)))))) e h = rw e
    which (suc (suc (suc (suc (suc (suc (suc zero))))))) e h = rw e
    which (suc (suc (suc (suc (suc (suc (suc (suc n)))))))) e h = absurd (omega arith)

table-one : (t : List ℕ) → (of_table t).tables ≡ 1
unfolding of_table
table-one t = refl

-- ---- and so any number of them

pub tables-blocks : (ts : List (List ℕ)) → (totals_of ts).data_blocks + (totals_of ts).audio_blocks + (totals_of ts).trackless ≡ lead_outs ts
unfolding totals_of lead_outs
tables-blocks [] = refl
tables-blocks (t ∷ ts) = let a = table-blocks t in let b = tables-blocks ts in omega arith

pub tables_each :
    (ts : List (List ℕ))
    → (totals_of ts).fit
    + ((totals_of ts).rule1 + (totals_of ts).rule2 + (totals_of ts).rule3 + (totals_of ts).rule4 + (totals_of ts).rule5 + (totals_of ts).rule6
    + (totals_of ts).rule7)
    ≡ (totals_of ts).tables
unfolding totals_of
tables_each [] = refl
tables_each (t ∷ ts) = let a = table_each t in let c = table-one t in let b = tables_each ts in omega arith

pub tables-count : (ts : List (List ℕ)) → (totals_of ts).tables ≡ length ts
unfolding totals_of
tables-count [] = refl
tables-count (t ∷ ts) = let c = table-one t in let b = tables-count ts in omega arith

-- ---- told or not

pub counted-within :
    (a : Totals) (s : List ℕ)
    → (Within (sum a (shelf s)) → counted a s ≡ Ok (sum a (shelf s))) × ((Within (sum a (shelf s)) → ⊥) → counted a s ≡ Err too_large)
unfolding counted
counted-within a s = (λ w. bounded_is _ (parts_within w), λ n. decided (within (sum a (shelf s))) refl n)
  where
    decided : (b : Bool) → within (sum a (shelf s)) ≡ b → (Within (sum a (shelf s)) → ⊥) → bounded (sum a (shelf s)) ≡ Err too_large
    decided true e n = absurd (n (within_parts e))
    decided false e n = bounded-over _ e

-- ---- piece by piece

pub pieces_agree : (a : Totals) (held : List ℕ) (ps : List (List ℕ)) → pieces a held ps ≡ counted a (held ++ concat ps)
unfolding pieces concat go_on
pieces_agree a held [] = ap (counted a) (sym (append-nil held))
pieces_agree a held (p ∷ ps) =
    by-passed (passed a (held ++ p)) refl (λ b left. pieces_agree b left ps) ∙ ap (counted a) (append_assoc held p (concat ps))
  where
    by-passed :
        (q : Result Passed TooLarge) → q ≡ passed a (held ++ p) → ((b : Totals) (left : List ℕ) → pieces b left ps ≡ counted b (left ++ concat ps))
        → go_on q (held ++ p) (λ b left. pieces b left ps) ≡ counted a ((held ++ p) ++ concat ps)
    by-passed (Ok q) e again = again q.totals (drop q.used (held ++ p)) ∙ counted_on a (held ++ p) (concat ps) e
    by-passed (Err q) e again = counted-past a (held ++ p) (concat ps) e
