-- K4 on Disc E: a run of power-on, MODE SENSE and MODE SELECT, each with its marked result and the mode page after it.
use Rattle.std.specs.Prelude.{◌≡◌, refl, true}
use Rattle.ground.specs.Tests.{◌and◌, ◌or◌, choose◌then◌else◌, every}
use Rattle.address.specs.Address.{is_msf}
use Rattle.attention.specs.Sense.{sense_at, same_sense, among, is_known}
use Rattle.play.specs.Play.{is_status, is_play}
use Rattle.page.specs.Page.{among as among_bytes, is_setting}
use Rattle.attention.specs.Unit.{attend}
use Rattle.drive.specs.State.{is_known_state, power_on}
use Rattle.table.specs.Layout.{is_track, is_extra}
use Rattle.table.specs.Row.{start_of, names, simple, free, plain, head_a0, head_a1, headed, addressed, row_test}
use Rattle.sessions.specs.Session.{one, size, listed, numbered, is_session, starts, before, follows, in_place, in_order}
use Rattle.disc.specs.Rules.{rule1, rule2, each_row, rises, out_before, begins_after, rising, rule7, first_broken, late_rules, row_rules, fault, is_fit}
use Rattle.gate.specs.Unit.{pending_of}
use Rattle.gate.specs.Gate.{gate}
use Rattle.command.specs.Command.{decode}
use Rattle.command.specs.Done.{answering}
use Rattle.mode.specs.ModeSense.{values_of, page_shown}
use Rattle.mode.specs.ModeSelect.{is_list_length, is_page, selected, mode_select}
use Rattle.target.specs.Perform.{perform}
use Rattle.target.specs.Packet.{refusal_of, answer}
use Rattle.claims.specs.Marked.{loaded_e, same_bytes, same_outcome}
use Rattle.claims.specs.Differing.{same_page}
use Rattle.claims.specs.Stepped.{comes, after, all_stepped}
use Rattle.claims.specs.Paged.{pages, page_marks}

pub paged : all_stepped loaded_e page_marks ≡ true
unfolding all_stepped pages same_page after comes same_outcome same_bytes ◌and◌ ◌or◌ choose◌then◌else◌ every is_msf sense_at same_sense among is_known is_status is_play among_bytes is_setting is_known_state power_on attend is_track is_extra start_of names simple free plain head_a0 head_a1 headed addressed row_test one size listed numbered is_session starts before follows in_place in_order rule1 rule2 each_row rises out_before begins_after rising rule7 first_broken late_rules row_rules fault is_fit pending_of gate decode answering values_of page_shown is_list_length is_page selected mode_select perform refusal_of answer
paged = refl
