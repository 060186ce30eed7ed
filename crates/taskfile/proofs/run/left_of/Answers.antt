-- `taskfile::run::left_of` meets its contract: the arm knows the phase, and a record in a run has a next byte.
use Rattle.std.proofs.Common.{sym, ◌∙◌, inl, inr, arith}
use Rattle.taskfile.specs.Run.{left_of}
use Rattle.taskfile.specs.RunLaws.{phase_of-packet, phase_of-list, phase_of-answer}
use Rattle.taskfile.proofs.run.left_of.Goals as goal

pub left-requires : goal.left-requires
left-requires c =
    let p = sym c.phase_of.ensures in
    elim c.in-PacketRun.is [
      | inl e ↦ let h = phase_of-packet c.args.f (p ∙ e) in let n = h.1 in let l = h.0 in omega arith
      | inr (inl e) ↦ let h = phase_of-list c.args.f (p ∙ e) in let n = h.1 in let l = h.0 in omega arith
      | inr (inr e) ↦ (phase_of-answer c.args.f (p ∙ e)).0
    ]

pub returns-in-Idle : goal.returns-in-Idle
unfolding left_of
returns-in-Idle c = rw (sym c.phase_of.ensures ∙ c.in-Idle.is)

pub returns-in-PacketRun : goal.returns-in-PacketRun
unfolding left_of
returns-in-PacketRun c =
    let p = sym c.phase_of.ensures in
    elim c.in-PacketRun.is [
      | inl e ↦ rw (p ∙ e) c.left.ensures
      | inr (inl e) ↦ rw (p ∙ e) c.left.ensures
      | inr (inr e) ↦ rw (p ∙ e) c.left.ensures
    ]
