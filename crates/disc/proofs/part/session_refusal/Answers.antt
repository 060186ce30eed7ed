-- `disc::part::session_refusal` meets its contract: a reading tells the broken rule, or the disc whose sessions are counted.
use mathlib.Core.Path.{sym, ap, ◌∙◌}
use borrow.Author.Tests.{lt-leb}
use Rattle.ground.specs.Tests.{and_off, and_late}
use Rattle.disc.specs.declared.disc.Disc.{Disc}
use Rattle.disc.specs.RulesLaws.{is_fit_true}
use Rattle.disc.specs.DiscLaws.{reading_fit, reading-unfit}
use Rattle.disc.specs.PartLaws.{part_refused_not, part_refused_10, part_refused_4}
use Rattle.disc.proofs.part.session_refusal.Goals as goal
use Rattle.disc.proofs.part.session_refusal.Goals.{else-k-ge1-via-then-k-ge1+else-k-disc, else-k-ge1-via-else-k-ge1}

pub returns-in-Err : goal.returns-in-Err
returns-in-Err c =
    let r = reading-unfit _ _ (sym c.in-Err.ensures) in
    rw r.1 (part_refused_4 _ _ r.0)

pub returns-then-k-disc : goal.returns-then-k-disc
returns-then-k-disc c =
    let r = reading_fit _ _ (sym c.in-Ok.ensures) in
    part_refused_not (record { fit = is_fit_true r.0; low = c.if-k-ge1.true; high = rw (ap (λ (d : Disc). d.sessions) r.1) at c.if-k-disc.true })

pub returns-else-k-ge1 : goal.returns-else-k-ge1
returns-else-k-ge1 c =
    let r = reading_fit _ _ (sym c.in-Ok.ensures) in
    part_refused_10 _ _ r.0 (elim c.else-k-ge1.branch [
      | else-k-ge1-via-then-k-ge1+else-k-disc w ↦
          sym (and_late _ _ (sym (lt-leb _ _ (rw (ap (λ (d : Disc). d.sessions) r.1) at w.if-k-disc.false))))
      | else-k-ge1-via-else-k-ge1 w ↦ sym (and_off _ _ (lt-leb _ _ w.if-k-ge1.false))
    ])
