-- Laws of the totals: sums of sums, and that a total past 64 bits stays past them.
use Rattle.std.specs.Prelude.{◌≡◌, refl, Bool, true, false, ◌⊎◌, List, [], ◌∷◌, ◌++◌, ℕ, ◌+◌, ◌-◌, ◌≤◌, leb, eqb, Result, Ok, Err}
use Rattle.std.proofs.Common.{sym, ap, ◌∙◌, true≢false, inl, inr, ⊎_elim, arith, add_assoc, add_comm, add-zero, zero-add, lt_of_not-le, le-leb, leb-true, eqb-true}
use Rattle.std.proofs.Math.Decide.{dec_le}
use Rattle.std.proofs.lemmas.Bool.{lt-leb}
use Rattle.ground.specs.Tests.{◌and◌, choose◌then◌else◌, and_head, and_tail, and_both, when, unless}
use Rattle.disc.specs.Rules.{fault, is_fit}
use Rattle.disc.specs.RulesLaws.{is_fit_true}
use Rattle.disc.specs.FitLaws.{fit-span}
use Rattle.disc.specs.Disc.{disc_of}
use Rattle.disc.specs.declared.disc.Disc.{Disc}
use Rattle.tracks.specs.Track.{is_mode}
use Rattle.tracks.specs.declared.track.Mode.TheVariants.{Data, Audio}
use Rattle.shelf.specs.Count.{one_if}
use Rattle.shelf.specs.Content.{tracks_in, blocks_in, is_none}
use Rattle.shelf.specs.ContentLaws.{blocks_three, fit-tracks, held_by}
use Rattle.shelf.specs.declared.content.Held.{Held}
use Rattle.shelf.specs.Totals.{nothing, sum, if_fit, of_table, totals_of, most, Within, within, too_large, bounded}
use Rattle.shelf.specs.declared.totals.Totals.{Totals}
use Rattle.shelf.specs.declared.totals.TooLarge.{TooLarge}

-- ---- sums

pub sum_assoc : (a b c : Totals) → sum (sum a b) c ≡ sum a (sum b c)
sum_assoc a b c = simp add_assoc

pub sum_comm : (a b : Totals) → sum a b ≡ sum b a
sum_comm a b =
    rw (
      add_comm a.tables b.tables,
      add_comm a.fit b.fit,
      add_comm a.rule1 b.rule1,
      add_comm a.rule2 b.rule2,
      add_comm a.rule3 b.rule3,
      add_comm a.rule4 b.rule4,
      add_comm a.rule5 b.rule5,
      add_comm a.rule6 b.rule6,
      add_comm a.rule7 b.rule7,
      add_comm a.tracks b.tracks,
      add_comm a.data_blocks b.data_blocks,
      add_comm a.audio_blocks b.audio_blocks,
      add_comm a.trackless b.trackless,
    )

pub sum-nothing : (a : Totals) → sum a nothing ≡ a
sum-nothing a = simp add-zero

pub nothing-sum : (a : Totals) → sum nothing a ≡ a
nothing-sum a = simp zero-add

pub totals-none : totals_of [] ≡ nothing
unfolding totals_of
totals-none = refl

pub totals-next : (t : List ℕ) (ts : List (List ℕ)) → totals_of (t ∷ ts) ≡ sum (of_table t) (totals_of ts)
unfolding totals_of
totals-next t ts = refl

pub totals-one : (t : List ℕ) → totals_of (t ∷ []) ≡ of_table t
totals-one t = totals-next t [] ∙ ap (sum (of_table t)) totals-none ∙ sum-nothing (of_table t)

-- the totals of tables one after the other are the sums
pub totals-append : (ts us : List (List ℕ)) → totals_of (ts ++ us) ≡ sum (totals_of ts) (totals_of us)
totals-append [] us = sym (ap (λ (x : Totals). sum x (totals_of us)) totals-none ∙ nothing-sum (totals_of us))
totals-append (t ∷ ts) us =
    totals-next t (ts ++ us) ∙ ap (sum (of_table t)) (totals-append ts us) ∙ sym (sum_assoc (of_table t) (totals_of ts) (totals_of us))
    ∙ ap (λ (x : Totals). sum x (totals_of us)) (sym (totals-next t ts))

-- ---- 64 bits

-- a number fits into what another leaves exactly where their sum is within them
pub room-left : (a b : ℕ) {left : ℕ} → b ≤ most → left ≡ most - b → leb a left ≡ leb (a + b) most
room-left a b {left} h e = elim (dec_le (a + b) most) [
  | yes l ↦ le-leb a left (omega arith) ∙ sym (le-leb _ _ l)
  | no l ↦ (let g = lt_of_not-le l in lt-leb a left (omega arith) ∙ sym (lt-leb _ _ g))
]

-- one of the sums: where it is past them, it is not told
unfoldable pub plus : ℕ → ℕ → Result ℕ TooLarge
plus a b = choose leb (a + b) most then Ok (a + b) else Err too_large

pub plus_told : (a b : ℕ) {n : ℕ} → Ok n ≡ plus a b → (a + b ≤ most) × (n ≡ a + b)
unfolding plus
plus_told a b h = elim (dec_le (a + b) most) [
  | yes l ↦ (let w = when (leb (a + b) most) (Ok (a + b)) (Err too_large) (le-leb _ _ l) in (l, cc))
  | no l ↦ (let g = lt_of_not-le l in let w = unless (leb (a + b) most) (Ok (a + b)) (Err too_large) (lt-leb _ _ g) in cc)
]

pub plus_told-over : (a b : ℕ) {e : TooLarge} → Err e ≡ plus a b → a + b ≤ most → ⊥
unfolding plus
plus_told-over a b h l = let w = when (leb (a + b) most) (Ok (a + b)) (Err too_large) (le-leb _ _ l) in cc

pub within_parts : {a : Totals} → within a ≡ true → Within a
unfolding within
within_parts h₁ =
    let h₂ = and_tail _ _ h₁ in
    let h₃ = and_tail _ _ h₂ in
    let h₄ = and_tail _ _ h₃ in
    let h₅ = and_tail _ _ h₄ in
    let h₆ = and_tail _ _ h₅ in
    let h₇ = and_tail _ _ h₆ in
    let h₈ = and_tail _ _ h₇ in
    let h₉ = and_tail _ _ h₈ in
    let k₁ = and_tail _ _ h₉ in
    let k₂ = and_tail _ _ k₁ in
    let k₃ = and_tail _ _ k₂ in
    let k₄ = and_tail _ _ k₃ in
    record {
      tables = leb-true _ _ (and_head _ _ h₁);
      fit = leb-true _ _ (and_head _ _ h₂);
      rule1 = leb-true _ _ (and_head _ _ h₃);
      rule2 = leb-true _ _ (and_head _ _ h₄);
      rule3 = leb-true _ _ (and_head _ _ h₅);
      rule4 = leb-true _ _ (and_head _ _ h₆);
      rule5 = leb-true _ _ (and_head _ _ h₇);
      rule6 = leb-true _ _ (and_head _ _ h₈);
      rule7 = leb-true _ _ (and_head _ _ h₉);
      tracks = leb-true _ _ (and_head _ _ k₁);
      data_blocks_in = leb-true _ _ (and_head _ _ k₂);
      audio_blocks_in = leb-true _ _ (and_head _ _ k₃);
      trackless = leb-true _ _ k₄;
    }

pub parts_within : {a : Totals} → Within a → within a ≡ true
unfolding within
parts_within w =
    and_both _ _ (le-leb _ _ w.tables) (and_both _ _ (le-leb _ _ w.fit) (and_both _ _ (le-leb _ _ w.rule1)
    (and_both _ _ (le-leb _ _ w.rule2) (and_both _ _ (le-leb _ _ w.rule3) (and_both _ _ (le-leb _ _ w.rule4)
    (and_both _ _ (le-leb _ _ w.rule5) (and_both _ _ (le-leb _ _ w.rule6) (and_both _ _ (le-leb _ _ w.rule7)
    (and_both _ _ (le-leb _ _ w.tracks) (and_both _ _ (le-leb _ _ w.data_blocks_in) (and_both _ _ (le-leb _ _ w.audio_blocks_in)
    (le-leb _ _ w.trackless))))))))))))

pub nothing-within : within nothing ≡ true
unfolding within ◌and◌
nothing-within = refl

-- a sum within them has its first part within them
pub within_first : (a b : Totals) → within (sum a b) ≡ true → within a ≡ true
within_first a b h =
    let w = within_parts h in
    parts_within (record {
      tables = let x = w.tables in omega arith;
      fit = let x = w.fit in omega arith;
      rule1 = let x = w.rule1 in omega arith;
      rule2 = let x = w.rule2 in omega arith;
      rule3 = let x = w.rule3 in omega arith;
      rule4 = let x = w.rule4 in omega arith;
      rule5 = let x = w.rule5 in omega arith;
      rule6 = let x = w.rule6 in omega arith;
      rule7 = let x = w.rule7 in omega arith;
      tracks = let x = w.tracks in omega arith;
      data_blocks_in = let x = w.data_blocks_in in omega arith;
      audio_blocks_in = let x = w.audio_blocks_in in omega arith;
      trackless = let x = w.trackless in omega arith;
    })

-- so what is past them stays past them
pub within-over : (a b : Totals) → within a ≡ false → within (sum a b) ≡ false
within-over a b h = decided (within (sum a b)) refl
  where
    decided : (x : Bool) → within (sum a b) ≡ x → within (sum a b) ≡ false
    decided true e = absurd (true≢false (sym (within_first a b e) ∙ h))
    decided false e = e

-- which of two it was that the test led to
pub within_chose : {A : Type 0} (a : Totals) {x y r : A} → r ≡ (choose within a then x else y)
    → ((within a ≡ true) × (r ≡ x)) ⊎ ((within a ≡ false) × (r ≡ y))
within_chose a {x} {y} {r} h = decided (within a) refl
  where
    decided : (b : Bool) → within a ≡ b → ((within a ≡ true) × (r ≡ x)) ⊎ ((within a ≡ false) × (r ≡ y))
    decided true e = inl (e, h ∙ when _ _ _ e)
    decided false e = inr (e, h ∙ unless _ _ _ e)

pub bounded_is : (a : Totals) → within a ≡ true → bounded a ≡ Ok a
unfolding bounded
bounded_is a h = when _ _ _ h

pub bounded-over : (a : Totals) → within a ≡ false → bounded a ≡ Err too_large
unfolding bounded
bounded-over a h = unless _ _ _ h

pub bounded_fails : (a : Totals) → (Within a → ⊥) → bounded a ≡ Err too_large
bounded_fails a h = decided (within a) refl
  where
    decided : (b : Bool) → within a ≡ b → bounded a ≡ Err too_large
    decided true e = absurd (h (within_parts e))
    decided false e = bounded-over a e

-- what is told
pub bounded-told : (a : Totals) {b : Totals} → Ok b ≡ bounded a → (within a ≡ true) × (b ≡ a)
unfolding bounded
bounded-told a h = ⊎_elim (λ w. let k = w.1 in (w.0, cc)) (λ w. let k = w.1 in let z : ◌≡◌ {A = ℕ} 0 1 = cc in absurd (omega arith)) (within_chose a h)

pub bounded-told-over : (a : Totals) {e : TooLarge} → Err e ≡ bounded a → within a ≡ false
unfolding bounded
bounded-told-over a h = ⊎_elim (λ w. let k = w.1 in let z : ◌≡◌ {A = ℕ} 0 1 = cc in absurd (omega arith)) (λ w. w.0) (within_chose a h)

-- ---- one table

-- by the first rule that it breaks, 0 for none: one that is not fit adds nothing more
abbrev pub of_rule : ℕ → Totals
of_rule rule = record {
  tables = 1;
  fit = one_if (eqb rule 0);
  rule1 = one_if (eqb rule 1);
  rule2 = one_if (eqb rule 2);
  rule3 = one_if (eqb rule 3);
  rule4 = one_if (eqb rule 4);
  rule5 = one_if (eqb rule 5);
  rule6 = one_if (eqb rule 6);
  rule7 = one_if (eqb rule 7);
  tracks = 0;
  data_blocks = 0;
  audio_blocks = 0;
  trackless = 0;
}

pub of_table-unfit : (t : List ℕ) → is_fit t ≡ false → of_table t ≡ of_rule (fault t)
unfolding of_table if_fit is_fit one_if choose◌then◌else◌
of_table-unfit t h = rw h

-- and one that is adds what it holds
abbrev pub of_fit : ℕ → ℕ → ℕ → ℕ → Totals
of_fit n d a g = record {
  tables = 1;
  fit = 1;
  rule1 = 0;
  rule2 = 0;
  rule3 = 0;
  rule4 = 0;
  rule5 = 0;
  rule6 = 0;
  rule7 = 0;
  tracks = n;
  data_blocks = d;
  audio_blocks = a;
  trackless = g;
}

pub of_table_fit :
    (t : List ℕ) {n d a g : ℕ} → is_fit t ≡ true → n ≡ tracks_in t → d ≡ blocks_in (is_mode Data) t → a ≡ blocks_in (is_mode Audio) t
    → g ≡ blocks_in is_none t → of_fit n d a g ≡ of_table t
unfolding of_table if_fit is_fit one_if choose◌then◌else◌
of_table_fit t h p q r s = let z : fault t ≡ 0 = eqb-true _ _ h in rw (z, p, q, r, s)

-- what is read off the disc and counted in the table is what a fit table adds
pub record FitAdds (t : List ℕ) (disc : Disc) (h : Held) : Type 0 where
  pub order : disc.first ≤ disc.last + 1
  pub data_most : h.of_data ≤ disc.lead_out
  pub none_most : h.of_none ≤ disc.lead_out - h.of_data
  pub same :
      of_fit (disc.last + 1 - disc.first) h.of_data (disc.lead_out - h.of_data - h.of_none) h.of_none ≡ of_table t

pub fit_adds : (t : List ℕ) {disc : Disc} {h : Held} → is_fit t ≡ true → disc ≡ disc_of t → h ≡ held_by t → FitAdds t disc h
fit_adds t i d e =
    let f = is_fit_true i in
    let s = fit-span f in
    let n = fit-tracks f in
    let o = s.order in
    let b = blocks_three t in
    rw (d, e) (record {
      order = omega arith;
      data_most = omega arith;
      none_most = omega arith;
      same = of_table_fit t i (omega arith) refl (omega arith) refl;
    })
