-- `target::perform::work` meets its contract: each arm's function performs what the definition says of its command, and a command
-- that needs a disc has one read off a fit table.
use mathlib.Core.Path.{refl, ap}
use Rattle.command.specs.declared.decode.Command.{Command}
use Rattle.command.specs.Command.{needs_disc}
use Rattle.target.specs.PerformLaws.{read_off_leads, performed-fails, performed_quiet, start_stop_quiet, seek_quiet, ranged_quiet, pause_resume_quiet, mode_select_quiet}
use Rattle.target.proofs.perform.work.Goals as goal

pub read_run-requires : goal.read_run-requires
read_run-requires c = c.requires.ready (ap (λ (k : Command). needs_disc k c.args.p.now) c.in-Read10.is)

pub read_toc-requires : goal.read_toc-requires
read_toc-requires c = (c.requires.ready (ap (λ (k : Command). needs_disc k c.args.p.now) c.in-ReadToc.is), c.requires.room)

pub read_run-requires-in-Read12 : goal.read_run-requires-in-Read12
read_run-requires-in-Read12 c = c.requires.ready (ap (λ (k : Command). needs_disc k c.args.p.now) c.in-Read12.is)

pub play_run-requires : goal.play_run-requires
play_run-requires c = c.requires.ready (ap (λ (k : Command). needs_disc k c.args.p.now) c.in-PlayAudio.is)

pub returns-in-TestUnitReady : goal.returns-in-TestUnitReady
returns-in-TestUnitReady c = rw c.in-TestUnitReady.is (performed_quiet _ refl c.done_with.ensures)

pub returns-in-RequestSense : goal.returns-in-RequestSense
returns-in-RequestSense c = rw c.in-RequestSense.is (performed_quiet _ refl c.done_with-in-RequestSense.ensures)

pub returns-in-Inquiry : goal.returns-in-Inquiry
returns-in-Inquiry c = rw c.in-Inquiry.is (rw (c.bit.ensures, c.inquiry_bytes.ensures, c.wide.ensures.same) at c.answer.ensures)

pub returns-in-StartStop : goal.returns-in-StartStop
returns-in-StartStop c = rw c.in-StartStop.is (performed_quiet _ (start_stop_quiet _ _) c.start_stop.ensures)

pub returns-in-Prevent : goal.returns-in-Prevent
returns-in-Prevent c = rw c.in-Prevent.is (performed_quiet _ refl c.prevent.ensures)

pub returns-in-ReadCapacity : goal.returns-in-ReadCapacity
returns-in-ReadCapacity c = let l = read_off_leads (c.requires.ready (ap (λ (k : Command). needs_disc k c.args.p.now) c.in-ReadCapacity.is)) in
    rw c.in-ReadCapacity.is (rw (c.capacity_bytes.ensures, l) at c.answer-in-ReadCapacity.ensures)

pub returns-in-Read10 : goal.returns-in-Read10
returns-in-Read10 c = rw c.in-Read10.is (performed_quiet _ (ranged_quiet _ _ _ _ _ refl) (rw (c.word_at.ensures, c.word16.ensures) at c.read_run.ensures))

pub returns-in-Seek : goal.returns-in-Seek
returns-in-Seek c = let l = read_off_leads (c.requires.ready (ap (λ (k : Command). needs_disc k c.args.p.now) c.in-Seek.is)) in
    rw c.in-Seek.is (performed_quiet _ (seek_quiet _ _ _) (rw (c.word_at-in-Seek.ensures, l) at c.seek.ensures))

pub returns-in-ReadToc : goal.returns-in-ReadToc
returns-in-ReadToc c = rw c.in-ReadToc.is c.read_toc.ensures

pub returns-in-Read12 : goal.returns-in-Read12
returns-in-Read12 c = rw c.in-Read12.is (performed_quiet _ (ranged_quiet _ _ _ _ _ refl) (rw (c.word_at-in-Read12.ensures, c.word_at-in-Read12-2.ensures) at c.read_run-in-Read12.ensures))

pub returns-in-PlayAudio : goal.returns-in-PlayAudio
returns-in-PlayAudio c = rw c.in-PlayAudio.is (performed_quiet _ (ranged_quiet _ _ _ _ _ refl) (rw (c.word_at-in-PlayAudio.ensures, c.word16-in-PlayAudio.ensures) at c.play_run.ensures))

pub returns-in-PauseResume : goal.returns-in-PauseResume
returns-in-PauseResume c = rw c.in-PauseResume.is (performed_quiet _ (pause_resume_quiet _ _) (rw c.bit-in-PauseResume.ensures at c.pause_resume.ensures))

pub returns-in-ReadSubChannel : goal.returns-in-ReadSubChannel
returns-in-ReadSubChannel c = rw c.in-ReadSubChannel.is c.read_sub_channel.ensures

pub returns-in-ModeSense : goal.returns-in-ModeSense
returns-in-ModeSense c = rw c.in-ModeSense.is c.mode_sense.ensures

pub returns-in-ModeSelect : goal.returns-in-ModeSelect
returns-in-ModeSelect c = rw c.in-ModeSelect.is (performed_quiet _ (mode_select_quiet _ _ _) (rw c.word16-in-ModeSelect.ensures at c.mode_select.ensures))

pub returns-in-GetEvent : goal.returns-in-GetEvent
returns-in-GetEvent c = rw c.in-GetEvent.is c.get_event.ensures

pub returns-in-Unknown : goal.returns-in-Unknown
returns-in-Unknown c = rw c.in-Unknown.is (performed-fails _ refl)
