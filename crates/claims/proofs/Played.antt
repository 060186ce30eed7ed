-- K2 on Disc E, "Loaded, nothing pending": a run of audio commands and of moving on, each with its marked result and the play record after it.
use Rattle.std.specs.Prelude.{◌≡◌, refl, true}
use Rattle.ground.specs.Tests.{◌and◌, ◌or◌, choose◌then◌else◌, every}
use Rattle.address.specs.Address.{is_msf, to_msf, shown_address}
use Rattle.attention.specs.Sense.{sense_at, same_sense, among, is_known}
use Rattle.play.specs.Play.{is_status, is_play, moved_on}
use Rattle.page.specs.Page.{among as among_bytes, is_setting}
use Rattle.attention.specs.Unit.{attend}
use Rattle.drive.specs.State.{is_known_state, move_on}
use Rattle.table.specs.Layout.{is_track, is_extra}
use Rattle.table.specs.Row.{start_of, names, simple, free, plain, head_a0, head_a1, headed, addressed, row_test}
use Rattle.sessions.specs.Session.{one, size, listed, numbered, is_session, starts, before, follows, in_place, in_order}
use Rattle.disc.specs.Rules.{rule1, rule2, each_row, rises, out_before, begins_after, rising, rule7, first_broken, late_rules, row_rules, fault, is_fit}
use Rattle.tracks.specs.Track.{next_out, out_at, covers, wanted, next_found, found, track_of, is_mode, in_mode, all_in}
use Rattle.gate.specs.Unit.{pending_of}
use Rattle.gate.specs.Gate.{gate}
use Rattle.command.specs.Command.{decode}
use Rattle.command.specs.Done.{answering}
use Rattle.blocks.specs.Range.{over, in_range, ranged}
use Rattle.blocks.specs.Blocks.{seek}
use Rattle.audio.specs.Audio.{started, is_over, pause_resume}
use Rattle.audio.specs.SubChannel.{sub_bad, index_of, relative, shown_relative, sub_bytes, reported}
use Rattle.target.specs.Perform.{perform}
use Rattle.target.specs.Packet.{refusal_of, answer}
use Rattle.claims.specs.Marked.{loaded_e, same_bytes, same_outcome}
use Rattle.claims.specs.Differing.{same_play}
use Rattle.claims.specs.Stepped.{comes, after, all_stepped}
use Rattle.claims.specs.Played.{plays, play_marks}

pub played : all_stepped loaded_e play_marks ≡ true
unfolding all_stepped plays same_play after comes same_outcome same_bytes ◌and◌ ◌or◌ choose◌then◌else◌ every is_msf to_msf sense_at same_sense among is_known is_status is_play among_bytes is_setting is_known_state moved_on move_on attend is_track is_extra start_of names simple free plain head_a0 head_a1 headed addressed row_test one size listed numbered is_session starts before follows in_place in_order rule1 rule2 each_row rises out_before begins_after rising rule7 first_broken late_rules row_rules fault is_fit next_out out_at covers wanted next_found found track_of is_mode in_mode all_in pending_of gate decode shown_address answering over in_range ranged started is_over pause_resume seek sub_bad index_of relative shown_relative sub_bytes reported perform refusal_of answer
played = refl
