-- The laws of the call: each way in which a sheet is answered, and what the output memory then holds.
use Rattle.std.specs.Prelude.{◌≡◌, refl, Bool, true, false, List, ℕ, ◌%◌, ◌≤◌, ◌<◌, length}
use Rattle.std.proofs.Common.{sym, ap, ◌∙◌, arith, lt_of_not-le, eq-eqb, ne_eqb, lt-ltb, le-ltb}
use Rattle.std.proofs.Math.Decide.{dec_le, ℕ_discrete}
use Rattle.ground.specs.Tests.{when, unless}
use Rattle.ground.specs.Memory.{Laid, fill_none}
use Rattle.table.specs.Layout.{bound}
use Rattle.disc.specs.Rules.{fault, is_fit}
use Rattle.disc.specs.RulesLaws.{fault-first}
use Rattle.cue.specs.Sheet.{entry_size, is_described}
use Rattle.cue.specs.Made.{table_of}
use Rattle.cue.specs.Write.{refuse, not_whole, no_table, no_room, hand_out, whole_answer, answer, written_of, Turned}
use Rattle.cue.specs.declared.write.Written.{Written}

-- nothing is written
pub turned-refuse : (n : ℕ) (m : List ℕ) {r : Written} → r ≡ written_of (refuse n) → Turned (refuse n) m r m
turned-refuse n m e = record { outcome = e; memory = sym (fill_none m) }

-- there are seven rules
pub fault-most : (t : List ℕ) {n : ℕ} → n ≡ fault t → n ≤ 7
fault-most t e = let m = (fault-first t).most in omega arith

-- a fit table that the memory holds
pub hand_out_fit :
    {t m m' : List ℕ} {n r : ℕ} → fault t ≡ 0 → n ≡ length t → n ≤ length m → Laid m t r m' → Turned (hand_out t) m (record { number = 0; len = n }) m'
unfolding hand_out is_fit
hand_out_fit h e k l =
    rw (when _ _ _ (eq-eqb _ _ h)) (record { outcome = ap (λ (n : ℕ). record { number = 0; len = n }) e; memory = l.bytes })

pub hand_out-unfit : (t m : List ℕ) {r : Written} → (fault t ≡ 0 → ⊥) → r ≡ written_of (refuse no_table) → Turned (hand_out t) m r m
unfolding hand_out is_fit
hand_out-unfit t m h e = rw (unless _ _ _ (ne_eqb _ _ h)) (turned-refuse no_table m e)

-- a sheet of whole entries
pub whole_answer-described : (s : List ℕ) → is_described s ≡ true → whole_answer s ≡ hand_out (table_of s)
unfolding whole_answer
whole_answer-described s h = when _ _ _ h

pub whole_answer_not : (s : List ℕ) → is_described s ≡ false → whole_answer s ≡ refuse no_table
unfolding whole_answer
whole_answer_not s h = unless _ _ _ h

-- 14, then 12
pub answer-no_room : (s : List ℕ) (m : ℕ) → m < bound → answer s m ≡ refuse no_room
unfolding answer
answer-no_room s m h = when _ _ _ (lt-ltb _ _ h)

pub answer-whole : (s : List ℕ) (m : ℕ) → bound ≤ m → length s % entry_size ≡ 0 → answer s m ≡ whole_answer s
unfolding answer
answer-whole s m h k = unless _ _ _ (le-ltb _ _ h) ∙ when _ _ _ (eq-eqb _ _ k)

pub answer-not_whole : (s : List ℕ) (m : ℕ) → bound ≤ m → (length s % entry_size ≡ 0 → ⊥) → answer s m ≡ refuse not_whole
unfolding answer
answer-not_whole s m h k = unless _ _ _ (le-ltb _ _ h) ∙ unless _ _ _ (ne_eqb _ _ k)

-- ---- the five ways in which a sheet is answered

pub data Case (s : List ℕ) (m : ℕ) : Type 0 where
  short : m < bound → answer s m ≡ refuse no_room → Case s m
  broken : bound ≤ m → (length s % entry_size ≡ 0 → ⊥) → answer s m ≡ refuse not_whole → Case s m
  other : bound ≤ m → length s % entry_size ≡ 0 → is_described s ≡ false → answer s m ≡ refuse no_table → Case s m
  none : bound ≤ m → length s % entry_size ≡ 0 → is_described s ≡ true → is_fit (table_of s) ≡ false → answer s m ≡ refuse no_table → Case s m
  made : bound ≤ m → length s % entry_size ≡ 0 → is_described s ≡ true → is_fit (table_of s) ≡ true
      → answer s m ≡ record { number = 0; bytes = table_of s } → Case s m

pub answer-cases : (s : List ℕ) (m : ℕ) → Case s m
unfolding hand_out
answer-cases s m = elim (dec_le bound m) [
  | yes h ↦ elim (ℕ_discrete (length s % entry_size) 0) [
    | yes k ↦ described h k (is_described s) refl
    | no k ↦ broken h k (answer-not_whole s m h k)
  ]
  | no h ↦ short (lt_of_not-le h) (answer-no_room s m (lt_of_not-le h))
]
  where
    fits : bound ≤ m → length s % entry_size ≡ 0 → is_described s ≡ true → (b : Bool) → is_fit (table_of s) ≡ b → Case s m
    fits h k d true e = made h k d e (answer-whole s m h k ∙ whole_answer-described s d ∙ when _ _ _ e)
    fits h k d false e = none h k d e (answer-whole s m h k ∙ whole_answer-described s d ∙ unless _ _ _ e)

    described : bound ≤ m → length s % entry_size ≡ 0 → (b : Bool) → is_described s ≡ b → Case s m
    described h k true d = fits h k d (is_fit (table_of s)) refl
    described h k false d = other h k d (answer-whole s m h k ∙ whole_answer_not s d)
