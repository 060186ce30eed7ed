-- K12, "Masters arrive as cue sheets": what is written for a sheet, which sheets are refused, and what the output memory then holds.
use Rattle.std.specs.Prelude.{◌≡◌, refl, ◌↔◌, ◌⊎◌, true, false, List, ◌++◌, ℕ, ◌/◌, ◌%◌, ◌≤◌, ◌<◌, length, drop}
use Rattle.std.proofs.Common.{sym, ap, ◌∙◌, inl, inr, ⊎_elim, true≢false, arith, lt_of_not-le, eqb-true}
use Rattle.std.proofs.Math.Decide.{dec_le}
use Rattle.ground.specs.Tests.{and_head}
use Rattle.ground.specs.Memory.{fill, fill_fits, fill_none}
use Rattle.table.specs.Layout.{bound}
use Rattle.disc.specs.Rules.{is_fit}
use Rattle.disc.specs.RulesLaws.{is_fit_true, fit_sized}
use Rattle.cue.specs.Sheet.{AA, swapped, tracks_of, lead_out_of, is_lead_out, is_numbered, is_described}
use Rattle.cue.specs.SheetLaws.{is_described_parts}
use Rattle.cue.specs.Made.{table_of}
use Rattle.cue.specs.MadeLaws.{table_with-length}
use Rattle.cue.specs.MadeFit.{made-fit, made_holds, made-A0-flags, made-A1-flags, made-type, made-times, made_plain, held-numbered}
use Rattle.cue.specs.Write.{Answer, refuse, answer, Turned}
use Rattle.cue.specs.declared.write.Written.{Written}
use Rattle.cue.specs.WriteLaws.{short, broken, other, none, made, answer-cases}
use Rattle.cue.specs.Held.{Holds, Bytes}
use Rattle.cue.specs.BytesLaws.{table_of-bytes}
use Rattle.claims.specs.CueSheet.{Told, NoTable}

-- the number that an answer has is the one that it was found to have
numbered : {a b : Answer} {n : ℕ} → a ≡ b → a.number ≡ n → b.number ≡ n
numbered e h = sym (ap (λ (x : Answer). x.number) e) ∙ h

-- a described sheet's last entry has number AAh
lead_number : (s : List ℕ) → is_described s ≡ true → (lead_out_of s).number ≡ AA
unfolding is_lead_out
lead_number s d = eqb-true _ _ (and_head _ _ (is_described_parts s d).session_lead_out)

told_of : (s : List ℕ) → is_described s ≡ true → is_fit (table_of s) ≡ true → Told s (table_of s)
told_of s d f =
    let n = (is_described_parts s d).numbered in
    record {
      holds = made_holds (tracks_of s) (lead_out_of s) n (lead_number s d) f;
      first = made-A0-flags (tracks_of s) (lead_out_of s);
      last = made-A1-flags (tracks_of s) (lead_out_of s);
      plain = made_plain (tracks_of s) (lead_out_of s) n f;
      disc_type = made-type (tracks_of s) (lead_out_of s);
      times = made-times (tracks_of s) (lead_out_of s);
      size = table_with-length (tracks_of s) (lead_out_of s);
    }

-- a sheet that is not refused
pub cue-written : (s : List ℕ) (m : ℕ) → (answer s m).number ≡ 0 → ((answer s m).bytes ≡ table_of s) × Told s (table_of s)
cue-written s m h = elim (answer-cases s m) [
  | short b e ↦ absurd (let z = numbered e h in omega arith)
  | broken b w e ↦ absurd (let z = numbered e h in omega arith)
  | other b w d e ↦ absurd (let z = numbered e h in omega arith)
  | none b w d f e ↦ absurd (let z = numbered e h in omega arith)
  | made b w d f e ↦ (ap (λ (a : Answer). a.bytes) e, told_of s d f)
]

-- "(control high, ADR low, unlike our table)": the control and the ADR that a table has are the sheet's
pub cue_control : (b : ℕ) → swapped b % 16 ≡ b / 16 % 16
cue_control b = omega arith

pub cue-adr : (b : ℕ) → swapped b / 16 ≡ b % 16
cue-adr b = omega arith

-- ---- the refusals, each "exactly when"

-- 14 "for output memory under 6,538 bytes"
pub cue_14 : (s : List ℕ) (m : ℕ) → ((answer s m).number ≡ 14) ↔ (m < bound)
cue_14 s m = (
  λ h. elim (answer-cases s m) [
    | short b e ↦ b
    | broken b w e ↦ absurd (let z = numbered e h in omega arith)
    | other b w d e ↦ absurd (let z = numbered e h in omega arith)
    | none b w d f e ↦ absurd (let z = numbered e h in omega arith)
    | made b w d f e ↦ absurd (let z = numbered e h in omega arith)
  ],
  λ h. elim (answer-cases s m) [
    | short b e ↦ ap (λ (a : Answer). a.number) e
    | broken b w e ↦ absurd (omega arith)
    | other b w d e ↦ absurd (omega arith)
    | none b w d f e ↦ absurd (omega arith)
    | made b w d f e ↦ absurd (omega arith)
  ],
)

-- 12 "for a length not a multiple of 8"
pub cue_12 : (s : List ℕ) (m : ℕ) → ((answer s m).number ≡ 12) ↔ ((bound ≤ m) × (length s % 8 ≡ 0 → ⊥))
cue_12 s m = (
  λ h. elim (answer-cases s m) [
    | short b e ↦ absurd (let z = numbered e h in omega arith)
    | broken b w e ↦ (b, w)
    | other b w d e ↦ absurd (let z = numbered e h in omega arith)
    | none b w d f e ↦ absurd (let z = numbered e h in omega arith)
    | made b w d f e ↦ absurd (let z = numbered e h in omega arith)
  ],
  λ h. elim (answer-cases s m) [
    | short b e ↦ absurd (let z = h.0 in omega arith)
    | broken b w e ↦ ap (λ (a : Answer). a.number) e
    | other b w d e ↦ absurd (h.1 w)
    | none b w d f e ↦ absurd (h.1 w)
    | made b w d f e ↦ absurd (h.1 w)
  ],
)

-- 13: "exactly when no fit table has those tracks, controls and addresses or the entries aren't as described here"
pub cue_13 : (s : List ℕ) (m : ℕ) → ((answer s m).number ≡ 13) ↔ ((bound ≤ m) × (length s % 8 ≡ 0) × ((is_described s ≡ false) ⊎ NoTable s))
cue_13 s m = (
  λ h. elim (answer-cases s m) [
    | short b e ↦ absurd (let z = numbered e h in omega arith)
    | broken b w e ↦ absurd (let z = numbered e h in omega arith)
    | other b w d e ↦ (b, w, inl d)
    | none b w d f e ↦ (b, w, inr (λ t k. true≢false (sym (made-fit k) ∙ f)))
    | made b w d f e ↦ absurd (let z = numbered e h in omega arith)
  ],
  λ h. elim (answer-cases s m) [
    | short b e ↦ absurd (let z = h.0 in omega arith)
    | broken b w e ↦ absurd (w h.1)
    | other b w d e ↦ ap (λ (a : Answer). a.number) e
    | none b w d f e ↦ ap (λ (a : Answer). a.number) e
    | made b w d f e ↦ absurd (⊎_elim (λ n. true≢false (sym d ∙ n)) (λ n. n (table_of s) (told_of s d f).holds) h.2)
  ],
)

-- there is no other number
pub cue_numbers : (s : List ℕ) (m : ℕ) → ((answer s m).number ≡ 0) ⊎ ((12 ≤ (answer s m).number) × ((answer s m).number ≤ 14))
cue_numbers s m = elim (answer-cases s m) [
  | short b e ↦ inr (let z = numbered e refl in (omega arith, omega arith))
  | broken b w e ↦ inr (let z = numbered e refl in (omega arith, omega arith))
  | other b w d e ↦ inr (let z = numbered e refl in (omega arith, omega arith))
  | none b w d f e ↦ inr (let z = numbered e refl in (omega arith, omega arith))
  | made b w d f e ↦ inl (ap (λ (a : Answer). a.number) e)
]

-- that a described sheet's tracks are f, f + 1, .. l, from 1 to 99, asks no more of it than a fit table does
pub cue_numbering : (s t : List ℕ) → Holds t (tracks_of s) (lead_out_of s) → is_numbered (tracks_of s) ≡ true
cue_numbering s t h = held-numbered h

-- and the table of a sheet of bytes is one of bytes: `NoTable` says no less where it is read of these alone
pub cue-bytes : (s : List ℕ) → Bytes s → Bytes (table_of s)
cue-bytes s f = table_of-bytes s f

-- ---- the output memory

-- "memory past the table stays as it was"
pub cue_memory : (s m m' : List ℕ) (r : Written) → Turned (answer s (length m)) m r m' → r.number ≡ 0
    → (r.len ≡ length (table_of s)) × (m' ≡ table_of s ++ drop r.len m)
cue_memory s m m' r t h =
    let n = sym (ap (λ (w : Written). w.number) t.outcome) ∙ h in
    let w = cue-written s (length m) n in
    let l = ap (λ (w : Written). w.len) t.outcome ∙ ap length w.0 in
    let z = (fit_sized (is_fit_true w.1.holds.fit)).most in
    let b : bound ≤ length m = elim (dec_le bound (length m)) [
      | yes k ↦ k
      | no k ↦ absurd (let y = sym ((cue_14 s (length m)).1 (lt_of_not-le k)) ∙ n in omega arith)
    ] in
    (l, t.memory ∙ ap (fill m) w.0 ∙ fill_fits m (table_of s) (omega arith) ∙ ap (λ (k : ℕ). table_of s ++ drop k m) (sym l))

-- a refused sheet leaves all of it
pub cue_unchanged : (s m m' : List ℕ) (r : Written) → Turned (answer s (length m)) m r m' → (r.number ≡ 0 → ⊥) → (r.len ≡ 0) × (m' ≡ m)
cue_unchanged s m m' r t h = elim (answer-cases s (length m)) [
  | short b e ↦ same e
  | broken b w e ↦ same e
  | other b w d e ↦ same e
  | none b w d f e ↦ same e
  | made b w d f e ↦ absurd (h (ap (λ (w : Written). w.number) t.outcome ∙ ap (λ (a : Answer). a.number) e))
]
  where
    same : {n : ℕ} → answer s (length m) ≡ refuse n → (r.len ≡ 0) × (m' ≡ m)
    same e =
        let b = ap (λ (a : Answer). a.bytes) e in
        (ap (λ (w : Written). w.len) t.outcome ∙ ap length b, t.memory ∙ ap (fill m) b ∙ fill_none m)
