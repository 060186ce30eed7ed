-- K13: "What our disc shelf holds." What is told of a stream of tables, whatever its bytes, and of the totals.
use Rattle.std.specs.Prelude.{◌≡◌, List, [], ◌∷◌, ◌++◌, ℕ, ◌+◌, ◌≤◌, ◌<◌, length, take, drop, Ok, Err}
use Rattle.std.proofs.Common.{sym, ap, ◌∙◌, append-nil, arith, length-take-le}
use Rattle.table.specs.Layout.{bound, data_length}
use Rattle.disc.specs.Rules.{fault}
use Rattle.shelf.specs.Totals.{sum, totals_of, Within, too_large}
use Rattle.shelf.specs.TotalsLaws.{totals-append}
use Rattle.shelf.specs.Stream.{table_length, wholes, rest, tables, shelf, counted}
use Rattle.shelf.specs.StreamLaws.{tables-none, tables-next, tables-cut, tables_more}
use Rattle.shelf.specs.declared.totals.Totals.{Totals}
use Rattle.shelf.specs.Shelved.{concat, lead_outs, pieces}
use Rattle.shelf.specs.ShelfLaws.{tables-blocks, tables-count, tables_each, tables-concat, short_broken, cut_broken, over_broken, pieces_agree, counted-within}

-- ---- the cutting

-- nothing is lost: the tables one after the other are the stream
pub shelf-joined : (s : List ℕ) → concat (tables s) ≡ s
shelf-joined = tables-concat

-- an empty stream has no table; "each its data length plus 2 long": a table that is whole, and then those behind it
pub shelf-none : tables [] ≡ []
shelf-none = tables-none

pub shelf-next : (s : List ℕ) → table_length s ≤ length s → tables s ≡ take (table_length s) s ∷ tables (drop (table_length s) s)
shelf-next = tables-next

-- "A table cut off by the end counts as rule 1": it is the last, and counts once, a single byte too
pub shelf-cut_off : (s : List ℕ) → 0 < length s → length s < table_length s → (tables s ≡ s ∷ []) × (fault s ≡ 1)
shelf-cut_off s l h = (tables-cut s l h, cut_broken s h)

-- "as does one over the bound, which is skipped": whole, so that the next one begins behind it
pub shelf-over :
    (s : List ℕ) → table_length s ≤ length s → bound < table_length s
    → (tables s ≡ take (table_length s) s ∷ tables (drop (table_length s) s)) × (fault (take (table_length s) s) ≡ 1)
shelf-over s l h = (tables-next s l, over_broken (take (table_length s) s) (let e = length-take-le (table_length s) s l in omega arith))

-- a data length of 0 or 1 makes a table of 2 or 3 bytes: rule 1, and on
pub shelf_short :
    (s : List ℕ) → table_length s ≤ length s → data_length s ≤ 1
    → (tables s ≡ take (table_length s) s ∷ tables (drop (table_length s) s)) × (fault (take (table_length s) s) ≡ 1)
shelf_short s l h = (tables-next s l, short_broken (take (table_length s) s) (let e = length-take-le (table_length s) s l in omega arith))

-- ---- the totals

-- "The three block totals add up to the sum of the fit tables' last lead-outs."
pub shelf-blocks : (s : List ℕ) → (shelf s).data_blocks + (shelf s).audio_blocks + (shelf s).trackless ≡ lead_outs (tables s)
unfolding shelf
shelf-blocks s = tables-blocks (tables s)

-- the fit and the unfit ones add up to the tables, and each table of the stream counts
pub shelf-tables :
    (s : List ℕ)
    → (shelf s).fit + ((shelf s).rule1 + (shelf s).rule2 + (shelf s).rule3 + (shelf s).rule4 + (shelf s).rule5 + (shelf s).rule6 + (shelf s).rule7)
    ≡ (shelf s).tables
unfolding shelf
shelf-tables s = tables_each (tables s)

pub shelf-count : (s : List ℕ) → (shelf s).tables ≡ length (tables s)
unfolding shelf
shelf-count s = tables-count (tables s)

-- the totals of a stream of whole tables, and whatever behind it, are the sums of each's; of whole tables nothing is left
pub shelf-sum : (s r : List ℕ) → rest s ≡ [] → shelf (s ++ r) ≡ sum (shelf s) (shelf r)
unfolding shelf
shelf-sum s r h =
    ap totals_of (tables_more s r ∙ ap (λ (x : List ℕ). wholes s ++ tables (x ++ r)) h)
    ∙ totals-append (wholes s) (tables r) ∙ ap (λ (x : List (List ℕ)). sum (totals_of x) (totals_of (tables r))) (sym (alone s h))
  where
    alone : (s : List ℕ) → rest s ≡ [] → tables s ≡ wholes s
    alone s h = ap tables (sym (append-nil s)) ∙ tables_more s [] ∙ ap (λ (x : List ℕ). wholes s ++ tables (x ++ [])) h
        ∙ ap (λ (x : List (List ℕ)). wholes s ++ x) tables-none ∙ append-nil (wholes s)

-- ---- 64 bits

-- "Totals are 64-bit; past that it stops": from any totals a on, the sums are told exactly where each of them is within 64 bits
pub shelf-told : (a : Totals) (s : List ℕ) → Within (sum a (shelf s)) → counted a s ≡ Ok (sum a (shelf s))
shelf-told a s w = (counted-within a s).0 w

pub shelf_too_large : (a : Totals) (s : List ℕ) → (Within (sum a (shelf s)) → ⊥) → counted a s ≡ Err too_large
shelf_too_large a s w = (counted-within a s).1 w

-- ---- in pieces

-- read in pieces, whatever they are, as the program reads: what each piece leaves of a table stands before the next one
pub shelf-pieces : (a : Totals) (held : List ℕ) (ps : List (List ℕ)) → pieces a held ps ≡ counted a (held ++ concat ps)
shelf-pieces = pieces_agree
