-- Refusal 13 told of the frame and the ADR alone: that the numbering is as described is asked of the table.
use Rattle.std.specs.Prelude.{◌≡◌, refl, ◌↔◌, ◌⊎◌, Bool, true, false, List, ℕ, ◌%◌, ◌≤◌, length}
use Rattle.std.proofs.Common.{sym, ◌∙◌, inl, inr, ⊎_elim, true≢false}
use Rattle.ground.specs.Tests.{◌and◌, and_head, and_tail, and_both, and_off, and_assoc}
use Rattle.table.specs.Layout.{bound}
use Rattle.cue.specs.Sheet.{is_framed, every_adr, is_described}
use Rattle.cue.specs.Write.{answer}
use Rattle.claims.specs.CueSheet.{NoTable}
use Rattle.claims.proofs.CueSheet.{cue_numbering, cue_13}

-- so 13 may be said with less in "as described": the lead-in first, the lead-out last, and every ADR
pub cue_13-framed : (s : List ℕ) (m : ℕ)
    → ((answer s m).number ≡ 13) ↔ ((bound ≤ m) × (length s % 8 ≡ 0) × ((is_framed s and every_adr s ≡ false) ⊎ NoTable s))
unfolding is_described
cue_13-framed s m = (
  λ h. let c = (cue_13 s m).0 h in (c.0, c.1, ⊎_elim (split (is_framed s and every_adr s) refl) inr c.2),
  λ h. (cue_13 s m).1 (h.0, h.1, ⊎_elim (λ n. inl (sym (and_assoc _ _ _) ∙ sym (and_off _ _ n))) inr h.2),
)
  where
    split : (b : Bool) → is_framed s and every_adr s ≡ b → is_described s ≡ false → (is_framed s and every_adr s ≡ false) ⊎ NoTable s
    split false e n = inl e
    split true e n = inr (λ t h.
        true≢false (sym (and_both _ _ (and_head _ _ e) (and_both _ _ (and_tail _ _ e) (cue_numbering s t h))) ∙ n))
