-- `shelf::totals::add` meets its contract: the first sum that is past 64 bits is told as such, and else all of them.
use Rattle.std.specs.Prelude.{◌≡◌, Result, IsErrAnd}
use Rattle.std.proofs.Common.{sym, ◌∙◌}
use Rattle.std.proofs.lemmas.Result.{err_from_is_err_and}
use Rattle.shelf.specs.Totals.{Within, bounded}
use Rattle.shelf.specs.TotalsLaws.{plus_told, plus_told-over, parts_within, bounded_is, bounded_fails}
use Rattle.shelf.specs.declared.totals.Totals.{Totals}
use Rattle.shelf.specs.declared.totals.TooLarge.{TooLarge}
use Rattle.shelf.proofs.totals.add.Goals as goal

-- what is handed on where one of the sums is too large
over : (a : Totals) (Q : TooLarge → Type 0) (r : Result Totals TooLarge) → IsErrAnd r Q → (Within a → ⊥) → r ≡ bounded a
over a Q r e h = let p = err_from_is_err_and r e in p.1 ∙ sym (bounded_fails a h)

pub returns-in_err-plus : goal.returns-in_err-plus
returns-in_err-plus c = over _ _ _ c.from_residual.ensures.1 (λ w. plus_told-over _ _ c.in_err-plus.ensures w.tables)

pub returns-in_err-plus-2 : goal.returns-in_err-plus-2
returns-in_err-plus-2 c = over _ _ _ c.from_residual-in_err-plus-2.ensures.1 (λ w. plus_told-over _ _ c.in_err-plus-2.ensures w.fit)

pub returns-in_err-plus-3 : goal.returns-in_err-plus-3
returns-in_err-plus-3 c = over _ _ _ c.from_residual-in_err-plus-3.ensures.1 (λ w. plus_told-over _ _ c.in_err-plus-3.ensures w.rule1)

pub returns-in_err-plus-4 : goal.returns-in_err-plus-4
returns-in_err-plus-4 c = over _ _ _ c.from_residual-in_err-plus-4.ensures.1 (λ w. plus_told-over _ _ c.in_err-plus-4.ensures w.rule2)

pub returns-in_err-plus-5 : goal.returns-in_err-plus-5
returns-in_err-plus-5 c = over _ _ _ c.from_residual-in_err-plus-5.ensures.1 (λ w. plus_told-over _ _ c.in_err-plus-5.ensures w.rule3)

pub returns-in_err-plus-6 : goal.returns-in_err-plus-6
returns-in_err-plus-6 c = over _ _ _ c.from_residual-in_err-plus-6.ensures.1 (λ w. plus_told-over _ _ c.in_err-plus-6.ensures w.rule4)

pub returns-in_err-plus-7 : goal.returns-in_err-plus-7
returns-in_err-plus-7 c = over _ _ _ c.from_residual-in_err-plus-7.ensures.1 (λ w. plus_told-over _ _ c.in_err-plus-7.ensures w.rule5)

pub returns-in_err-plus-8 : goal.returns-in_err-plus-8
returns-in_err-plus-8 c = over _ _ _ c.from_residual-in_err-plus-8.ensures.1 (λ w. plus_told-over _ _ c.in_err-plus-8.ensures w.rule6)

pub returns-in_err-plus-9 : goal.returns-in_err-plus-9
returns-in_err-plus-9 c = over _ _ _ c.from_residual-in_err-plus-9.ensures.1 (λ w. plus_told-over _ _ c.in_err-plus-9.ensures w.rule7)

pub returns-in_err-plus-10 : goal.returns-in_err-plus-10
returns-in_err-plus-10 c = over _ _ _ c.from_residual-in_err-plus-10.ensures.1 (λ w. plus_told-over _ _ c.in_err-plus-10.ensures w.tracks)

pub returns-in_err-plus-11 : goal.returns-in_err-plus-11
returns-in_err-plus-11 c = over _ _ _ c.from_residual-in_err-plus-11.ensures.1 (λ w. plus_told-over _ _ c.in_err-plus-11.ensures w.data_blocks_in)

pub returns-in_err-plus-12 : goal.returns-in_err-plus-12
returns-in_err-plus-12 c = over _ _ _ c.from_residual-in_err-plus-12.ensures.1 (λ w. plus_told-over _ _ c.in_err-plus-12.ensures w.audio_blocks_in)

pub returns-in_err-plus-13 : goal.returns-in_err-plus-13
returns-in_err-plus-13 c = over _ _ _ c.from_residual-in_err-plus-13.ensures.1 (λ w. plus_told-over _ _ c.in_err-plus-13.ensures w.trackless)

pub returns : goal.returns
returns c =
    let t1 = plus_told _ _ c.in_ok-plus.ensures in
    let t2 = plus_told _ _ c.in_ok-plus-2.ensures in
    let t3 = plus_told _ _ c.in_ok-plus-3.ensures in
    let t4 = plus_told _ _ c.in_ok-plus-4.ensures in
    let t5 = plus_told _ _ c.in_ok-plus-5.ensures in
    let t6 = plus_told _ _ c.in_ok-plus-6.ensures in
    let t7 = plus_told _ _ c.in_ok-plus-7.ensures in
    let t8 = plus_told _ _ c.in_ok-plus-8.ensures in
    let t9 = plus_told _ _ c.in_ok-plus-9.ensures in
    let t10 = plus_told _ _ c.in_ok-plus-10.ensures in
    let t11 = plus_told _ _ c.in_ok-plus-11.ensures in
    let t12 = plus_told _ _ c.in_ok-plus-12.ensures in
    let t13 = plus_told _ _ c.in_ok-plus-13.ensures in
    rw (t1.1, t2.1, t3.1, t4.1, t5.1, t6.1, t7.1, t8.1, t9.1, t10.1, t11.1, t12.1, t13.1)
    (sym (bounded_is _ (parts_within (record {
      tables = t1.0;
      fit = t2.0;
      rule1 = t3.0;
      rule2 = t4.0;
      rule3 = t5.0;
      rule4 = t6.0;
      rule5 = t7.0;
      rule6 = t8.0;
      rule7 = t9.0;
      tracks = t10.0;
      data_blocks_in = t11.0;
      audio_blocks_in = t12.0;
      trackless = t13.0;
    }))))
