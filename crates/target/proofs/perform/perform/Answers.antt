-- `target::perform::perform` meets its contract: the disc that is needed is asked for before the work.
use mathlib.Core.Path.{sym, ◌∙◌}
use mathlib.Core.Bool.{true≢false}
use Rattle.target.specs.PerformLaws.{performed-fails, perform_empty, perform-loaded, perform-free}
use Rattle.target.proofs.perform.perform.Goals as goal
use Rattle.target.proofs.perform.perform.Goals.{else-needs_disc-via-then-needs_disc+else-not-is_loaded, else-needs_disc-via-else-needs_disc}

pub returns-then-not-is_loaded : goal.returns-then-not-is_loaded
returns-then-not-is_loaded c = rw c.no_medium.ensures (performed-fails _ (perform_empty _ _ _ _ _ (sym c.needs_disc.ensures ∙ c.if-needs_disc.true) (sym c.is_loaded.ensures ∙ c.if-not-is_loaded.true)))

pub work-requires : goal.work-requires
work-requires c = let q = c.requires in record {
  room = q.room;
  ready = elim c.else-needs_disc.branch [
    | else-needs_disc-via-then-needs_disc+else-not-is_loaded w ↦ λ h. q.ready (sym w.is_loaded.ensures ∙ w.if-not-is_loaded.false)
    | else-needs_disc-via-else-needs_disc w ↦ λ h. absurd (true≢false (sym h ∙ sym c.needs_disc.ensures ∙ w.if-needs_disc.false))
  ];
}

pub returns : goal.returns
returns c = let x = c.args in elim c.else-needs_disc.branch [
  | else-needs_disc-via-then-needs_disc+else-not-is_loaded w ↦
      rw (perform-loaded x.c x.p.now x.m x.t.now x.list.now (sym w.is_loaded.ensures ∙ w.if-not-is_loaded.false)) c.work.ensures
  | else-needs_disc-via-else-needs_disc w ↦
      rw (perform-free x.c x.p.now x.m x.t.now x.list.now (sym c.needs_disc.ensures ∙ w.if-needs_disc.false)) c.work.ensures
]
