-- For Exercise 14, "which calls cancel": what always does, as laws of this drive and of its whole state; and what does on some drives only
-- or on none, computed on Disc E with the parts of the state that are left changed. `next c d` is the state after the call c on d, and
-- `(answer c d).number` its number, as in Call.antt.
use Rattle.std.specs.Prelude.{◌≡◌, refl, true, false, List, [], map, ◌↔◌, ℕ}
use Rattle.std.proofs.Common.{◌∙◌}
use Rattle.ground.specs.Tests.{◌or◌, choose◌then◌else◌, every, and_tail}
use Rattle.address.specs.Address.{is_msf}
use Rattle.drive.specs.declared.state.Drive.{Drive}
use Rattle.attention.specs.Sense.{sense_at, same_sense, among, is_known}
use Rattle.play.specs.Play.{is_status, is_play}
use Rattle.page.specs.Page.{among as among_bytes, is_setting}
use Rattle.attention.specs.Unit.{attend}
use Rattle.deck.specs.Deck.{is_loaded}
use Rattle.drive.specs.State.{is_known_state, power_on, power_on_without_change, button, lay, lift}
use Rattle.table.specs.Layout.{is_track, is_extra}
use Rattle.table.specs.Row.{start_of, names, simple, plain, head_a0, head_a1, headed, addressed, row_test}
use Rattle.sessions.specs.Session.{one, size, listed, numbered, is_session, starts, follows, in_place, in_order}
use Rattle.disc.specs.Rules.{rule1, rule2, each_row, rises, begins_after, rising, rule7, first_broken, late_rules, row_rules, fault, is_fit}
use Rattle.tracks.specs.Track.{next_out, out_at, covers, wanted, next_found, found, track_of, is_mode, in_mode, all_in}
use Rattle.gate.specs.Unit.{pending_of}
use Rattle.gate.specs.Gate.{gate}
use Rattle.command.specs.Command.{decode}
use Rattle.command.specs.Tray.{eject as ejects, load as loads, start_stop}
use Rattle.blocks.specs.Range.{over, in_range, ranged}
use Rattle.audio.specs.Audio.{started, is_over, pause_resume}
use Rattle.target.specs.Perform.{perform}
use Rattle.target.specs.Packet.{refusal_of, answer as reply_to}
use Rattle.claims.specs.Call.{Form, by_default, without_change, Call, powering, pressing, laying, lifting, packet, next, final, is_eject_or_load}
use Rattle.claims.specs.Differing.{same_flag, same_play, same_page, add, differing}
use Rattle.claims.proofs.Differing.{differing-none}
use Rattle.claims.proofs.CancelLaws.{lay-lift, lift-lay, packet-same, power-same, same_power, power-tells, forms-same, forms-apart, press-press}
use Rattle.claims.specs.Cancel.{Granted, Keeps, reloaded, Instance, instances, found_in, said_of}

-- ---- what cancels

module _ (d : Drive) where
  -- K8: "Laying a disc, where it isn't refused, and lifting it gives back the same state"; and the lifting is not refused
  pub laying-lifting : Granted laying d → Granted lifting (next laying d) × (next lifting (next laying d) ≡ d)
  laying-lifting = lay-lift d

  -- the other way round too: lifting, where it isn't refused, and laying
  pub lifting-laying : Granted lifting d → Granted laying (next lifting d) × (next laying (next lifting d) ≡ d)
  lifting-laying = lift-lay d

  -- K8: "Power-on after a packet that leaves tray and disc as they were equals power-on alone, in the same form of K3": refused or not,
  -- with any table, list and memory
  pub packet-powering : (f : Form) (p t l m : List ℕ) → Keeps (packet p t l m) d
      → next (powering f) (next (packet p t l m) d) ≡ next (powering f) d
  packet-powering f p t l m = same_power f d (next (packet p t l m) d)

  -- every packet that is not 1Bh with LoEj 1 leaves them so; that one may move the tray
  pub packet-keeps : (p t l m : List ℕ) → is_eject_or_load p ≡ false → Keeps (packet p t l m) d
  packet-keeps p t l m = packet-same p t l m d

  -- and after any call: power-on equals power-on alone exactly where the call left tray and disc as they were
  pub call-powering : (f : Form) (c : Call) → (next (powering f) (next c d) ≡ next (powering f) d) ↔ Keeps c d
  call-powering f c = (power-tells f d (next c d), same_power f d (next c d))

  -- so of two power-ons, in any forms, the later counts alone
  pub powering-powering : (f g : Form) → next (powering g) (next (powering f) d) ≡ next (powering g) d
  powering-powering f g = same_power g d (next (powering f) d) (power-same f d)

  -- and the two forms give one state exactly where the drive is not loaded
  pub powering-forms : (next (powering by_default) d ≡ next (powering without_change) d) ↔ (is_loaded d.deck ≡ false)
  powering-forms = (forms-apart d, forms-same d)

  -- the button twice, on a loaded drive that is not locked, in a state that refusal 2 does not meet: it leaves what a loading leaves
  pub pressing-pressing : is_known_state d ≡ true → is_loaded d.deck ≡ true → d.deck.lock ≡ false → next pressing (next pressing d) ≡ reloaded d
  unfolding attend choose◌then◌else◌
  pressing-pressing k h l = press-press d k h l ∙ rw (and_tail _ _ h)

-- there are none exactly where the two states are the same
pub found_none : (i : Instance) → (found_in i ≡ []) ↔ (final i.from i.calls ≡ final i.from i.others)
found_none i = differing-none (final i.from i.calls) (final i.from i.others)

-- each instance is as it says
pub compared : map found_in instances ≡ map said_of instances
unfolding differing add same_flag same_play same_page ◌or◌ choose◌then◌else◌ every is_msf sense_at same_sense among is_known is_status is_play among_bytes is_setting is_known_state power_on power_on_without_change button lay lift attend is_track is_extra start_of names simple plain head_a0 head_a1 headed addressed row_test one size listed numbered is_session starts follows in_place in_order rule1 rule2 each_row rises begins_after rising rule7 first_broken late_rules row_rules fault is_fit next_out out_at covers wanted next_found found track_of is_mode in_mode all_in pending_of gate decode ejects loads start_stop over in_range ranged started is_over pause_resume perform refusal_of reply_to
compared = refl
