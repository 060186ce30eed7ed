-- `target::read_sub_channel::read_sub_channel` meets its contract: the two forms of the answer are those that SubQ picks, and each is laid, cut to the allocation length.
use mathlib.Core.Path.{◌∙◌, ap}
use native.Mathlib.Omega.{arith}
use lib.ListN.{length}
use Rattle.table.specs.Layout.{descriptors}
use Rattle.tracks.specs.Track.{track_of}
use Rattle.audio.specs.SubChannel.{sub_ask_in}
use Rattle.audio.specs.SubChannelLaws.{position_bytes-length, sub_bytes-on, sub_bytes-off}
use Rattle.target.proofs.read_sub_channel.read_sub_channel.Goals as goal

pub answer-requires : goal.answer-requires
answer-requires c =
    let x = c.args in
    let k = c.track_of.result in
    let l = ap length c.position_bytes-full.ensures ∙ position_bytes-length c.sub_ask-ask.result.msf k x.m.play in
    let r = c.requires in
    omega arith

pub returns-then-ask : goal.returns-then-ask
returns-then-ask c = let x = c.args in
    let a = c.sub_ask-ask.ensures in
    let h = rw a at c.if-ask.true in
    rw (sub_bytes-on (sub_ask_in x.p.now) (track_of (descriptors x.t.now) x.m.play.position) x.m.play h)
    (rw (c.sub_bad.ensures, c.with_play-next.ensures, c.reported.ensures, c.position_bytes-full.ensures, c.track_of.ensures, a, c.word16-limit.ensures) at c.answer.ensures)

pub returns : goal.returns
returns c = let x = c.args in
    let a = c.sub_ask-ask.ensures in
    let h = rw a at c.if-ask.false in
    rw (sub_bytes-off (sub_ask_in x.p.now) (track_of (descriptors x.t.now) x.m.play.position) x.m.play h)
    (rw (c.sub_bad-2.ensures, c.with_play-next.ensures, c.reported.ensures, c.status_bytes.ensures, a, c.word16-limit.ensures) at c.answer-2.ensures)
