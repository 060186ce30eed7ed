-- `disc::walk::session_end` meets its contract: the first test that fails decides, and then the heads, the tracks and what stands past them.
use mathlib.Core.Path.{sym, ◌∙◌}
use mathlib.Core.Bool.{false≢true}
use native.Mathlib.Omega.{arith}
use Rattle.sessions.specs.SessionLaws.{size-heads}
use Rattle.disc.specs.WalkLaws.{session_kept-heads, session_kept-tracks, session_kept-sound}
use Rattle.disc.specs.WalkSteps.{tracks_end-none, session_end_not, session_end_on}
use Rattle.disc.proofs.walk.session_end.Goals as goal
use Rattle.disc.proofs.walk.session_end.Goals.{then-f-lt1-via-then-f-lt1, then-f-lt1-via-else-f-lt1+then-wide-next, then-f-lt1-via-else-f-lt1+else-wide-next+then-l-f, then-f-lt1-via-else-f-lt1+else-wide-next+else-l-f+then-l-gt99, then-f-lt1-via-else-f-lt1+else-wide-next+else-l-f+else-l-gt99+then-not-heads_kept}

pub returns-then-d : goal.returns-then-d
returns-then-d c =
    session_end_not _ _ _ _
    (λ s n. let f = (session_kept-sound _ _ _ s).is.fits in let e = size-heads c.args.d.now in omega arith)

pub returns-then-f-lt1 : goal.returns-then-f-lt1
returns-then-f-lt1 c =
    session_end_not _ _ _ _
    (λ s n. let i = (session_kept-sound _ _ _ s).is in let low = i.low in let order = i.order in let high = i.high in
    elim c.then-f-lt1.branch [
      | then-f-lt1-via-then-f-lt1 w ↦ absurd (omega arith)
      | then-f-lt1-via-else-f-lt1+then-wide-next w ↦ w.if-wide-next.true (w.wide.ensures.same ∙ n)
      | then-f-lt1-via-else-f-lt1+else-wide-next+then-l-f w ↦ absurd (omega arith)
      | then-f-lt1-via-else-f-lt1+else-wide-next+else-l-f+then-l-gt99 w ↦ absurd (omega arith)
      | then-f-lt1-via-else-f-lt1+else-wide-next+else-l-f+else-l-gt99+then-not-heads_kept w ↦
          false≢true (w.if-not-heads_kept.ensures ∙ session_kept-heads _ _ _ s)
    ])

pub returns-in_err-end : goal.returns-in_err-end
returns-in_err-end c =
    c.from_residual.ensures ∙ session_end_not _ _ _ _
    (λ s n. false≢true (sym (tracks_end-none _ _ _ _ _ (sym c.in_err-end.ensures.same)) ∙ session_kept-tracks _ _ _ s))

pub returns : goal.returns
returns c =
    c.extras_end.ensures
    ∙ session_end_on _ _ _ _
    c.requires.0
    (omega arith)
    (sym c.wide.ensures.same
    ∙ c.if-wide-next.false)
    (omega arith) (omega arith) (sym c.if-not-heads_kept.ensures)
    (sym c.in_ok-end.ensures.same) c.in_ok-end.ensures.within.1
