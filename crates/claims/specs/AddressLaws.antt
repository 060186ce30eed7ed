-- Exactly the stated ranges convert.
use Rattle.std.specs.Prelude.{◌≡◌, refl, ◌↔◌, ℕ, ◌≤◌, Bool, true, false}
use Rattle.std.proofs.Common.{sym, ap, ◌∙◌, arith, lt_of_not-le, true≢false}
use Rattle.std.proofs.Math.Decide.{dec_le}
use Rattle.address.specs.Address.{MsfAnswer, BlockAnswer, last, is_msf, to_msf, to_block}
use Rattle.address.specs.Laws.{InRange, is_msf_range, is_msf_true, to_msf-at, to_msf-refused, to_block-at, to_block-refused}

pub to_msf_exactly : (a : ℕ) → ((to_msf a).number ≡ 0) ↔ (a ≤ last)
to_msf_exactly a = (
  λ h. elim (dec_le a last) [
    | yes k ↦ k
    | no k ↦ absurd (eight (sym (ap (λ (r : MsfAnswer). r.number) (to_msf-refused a (lt_of_not-le k))) ∙ h))
  ],
  λ h. ap (λ (r : MsfAnswer). r.number) (to_msf-at a h),
)
  where
    eight : ◌≡◌ {A = ℕ} 8 0 → ⊥
    eight e = omega arith

pub to_block_exactly : (m s f : ℕ) → ((to_block m s f).number ≡ 0) ↔ InRange m s f
to_block_exactly m s f = (λ h. go (is_msf m s f) refl h, λ r. ap (λ (b : BlockAnswer). b.number) (to_block-at r))
  where
    eight : ◌≡◌ {A = ℕ} 8 0 → ⊥
    eight e = omega arith

    go : (b : Bool) → is_msf m s f ≡ b → (to_block m s f).number ≡ 0 → InRange m s f
    go true e h = is_msf_range m s f e
    go false e h = absurd (eight (sym (ap (λ (b : BlockAnswer). b.number) (to_block-refused m s f (λ r. true≢false (sym (is_msf_true r) ∙ e)))) ∙ h))
