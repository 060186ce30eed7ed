-- A state that refusal 2 does not meet stays one: every triple that is held is a row of the table, what is played lies below L, a page that
-- is set has one of the twenty, and an event that is noted is one of the three.
use Rattle.std.specs.Prelude.{◌≡◌, refl, Bool, List, [], ◌∷◌, ℕ, zero, suc, ◌≤◌, length, eqb}
use Rattle.std.proofs.Common.{sym, ap, ◌∙◌, eq-eqb}
use Rattle.std.proofs.Math.Bool.{true, false, not}
use native.Mathlib.Omega.{arith}
use Rattle.std.proofs.lemmas.Bool.{not-true}
use Rattle.ground.specs.Tests.{◌and◌, choose◌then◌else◌, either, and_tail}
use Rattle.address.specs.Address.{last}
use Rattle.attention.specs.declared.sense.Sense.{Sense}
use Rattle.attention.specs.declared.Unit.{Unit}
use Rattle.deck.specs.declared.Deck.{Deck}
use Rattle.drive.specs.declared.state.Drive.{Drive}
use Rattle.drive.specs.declared.state.Moved.{Moved}
use Rattle.attention.specs.Sense.{same_sense, no_sense, is_known}
use Rattle.attention.specs.SenseLaws.{is_known-at}
use Rattle.play.specs.declared.Play.{Play}
use Rattle.page.specs.declared.Page.{Page}
use Rattle.page.specs.Page.{is_setting}
use Rattle.page.specs.PageLaws.{is_setting_default}
use Rattle.play.specs.Play.{none, is_status, with_status}
use Rattle.play.specs.PlayLaws.{Known, is_status-playing, is_status-paused, is_status-none, no_play_known, with_status_known, moved_on_known}
use Rattle.attention.specs.Unit.{attend}
use Rattle.deck.specs.Deck.{loaded, opened, is_event, is_loaded, event_moved, opening, closing, restarted, with_disc, with_lock, with_play, with_page, with_event}
use Rattle.drive.specs.State.{is_known_state, button, lay, lift, move_on}
use Rattle.drive.specs.StateLaws.{KnownDeck, is_known_state_sense, is_known_state_deck, known-is_known_state, power_on-with, power_on_without_change-with}
use Rattle.disc.specs.Rules.{is_fit}
use Rattle.disc.specs.RulesLaws.{is_fit_true}
use Rattle.disc.specs.FitLaws.{fit-lead-out}
use Rattle.gate.specs.declared.fault.Fault.{Fault}
use Rattle.gate.specs.declared.fault.Fault.TheVariants.{NoMediumClosed, NoMediumOpen, UnknownCode, OutOfRange, BadField, RemovalPrevented, IllegalMode, ListLength, ListField, NoSaving}
use Rattle.gate.specs.declared.unit.Giving.{Giving}
use Rattle.gate.specs.Fault.{sense_of}
use Rattle.gate.specs.Unit.{pending_of, give}
use Rattle.gate.specs.Gate.{Result, fails, goes, gate}
use Rattle.command.specs.declared.decode.Command.{Command}
use Rattle.command.specs.declared.decode.Command.TheVariants.{TestUnitReady, RequestSense, Inquiry, StartStop, Prevent, ReadCapacity, Read10, Seek, ReadToc, Read12, PlayAudio, PauseResume, ReadSubChannel, ModeSense, ModeSelect, GetEvent, Unknown}
use Rattle.command.specs.Command.{byte, bit0, decode, code_of, needs_disc, address_in, count10, length_in}
use Rattle.command.specs.Tray.{eject, load, start_stop}
use Rattle.command.specs.Done.{answering}
use Rattle.blocks.specs.Range.{in_range, ranged}
use Rattle.blocks.specs.RangeLaws.{in_range-end}
use Rattle.blocks.specs.Blocks.{seek}
use Rattle.audio.specs.Audio.{started, resumed, pause_resume}
use Rattle.audio.specs.SubChannel.{reported}
use Rattle.mode.specs.ModeSenseLaws.{mode_sense-ways}
use Rattle.mode.specs.ModeSelectLaws.{mode_select_ways}
use Rattle.event.specs.EventAnswer.{is_clearing}
use Rattle.event.specs.EventAnswerLaws.{get_event-ways}
use Rattle.target.specs.Perform.{L, work, perform}
use Rattle.target.specs.Packet.{refusal_of, answer as reply_to}
use Rattle.claims.proofs.UnitLaws.{Kind, asks, frees, orders, reply, meets, next_of, comes_to, meets-keeps}
use Rattle.claims.specs.Call.{Form, by_default, without_change, Call, powering, pressing, laying, lifting, moving_on, packet, answer, next, final}
use Rattle.claims.proofs.PacketLaws.{Seen, asking, freeing, ordering, seen, kind_of, kind, reply-kind}
use Rattle.claims.proofs.RefusalLaws.{refusal-ordered, reply-ordered, press-tested, lay-tested, lift-tested, move-tested}
use Rattle.claims.proofs.WholeLaws.{second_holds}

-- ---- the held sense, over any deck

known-none : is_known no_sense ≡ true
known-none = is_known-at 0

sense_of_known : (f : Fault) → is_known (sense_of f) ≡ true
sense_of_known NoMediumClosed = is_known-at 1
sense_of_known NoMediumOpen = is_known-at 2
sense_of_known UnknownCode = is_known-at 3
sense_of_known OutOfRange = is_known-at 4
sense_of_known BadField = is_known-at 5
sense_of_known RemovalPrevented = is_known-at 6
sense_of_known IllegalMode = is_known-at 7
sense_of_known ListLength = is_known-at 10
sense_of_known ListField = is_known-at 11
sense_of_known NoSaving = is_known-at 12

attend_known : (b : Bool) (u : Unit) → is_known u.sense ≡ true → is_known (attend b u).sense ≡ true
unfolding attend choose◌then◌else◌
attend_known true u h = h
attend_known false u h = h

give_known : (u : Unit) → is_known (give u).unit.sense ≡ true
unfolding give
give_known u = either (λ (g : Giving). is_known g.unit.sense ≡ true) (same_sense u.sense no_sense) (λ h. known-none) (λ h. known-none)

module _ {M : Type 0} where
  gate-known : (p c : Bool) (h : Sense) (m : M) (r : Result M) →
      let u : Unit = record { power = p; change = c; sense = h } in
      is_known (gate u m r).unit.sense ≡ true
  unfolding gate pending_of choose◌then◌else◌
  gate-known true c h m r = is_known-at 9
  gate-known false true h m r = is_known-at 8
  gate-known false false h m (fails f) = sense_of_known f
  gate-known false false h m (goes next loading full limit start count) = attend_known loading _ known-none

  reply-known : (k : Kind M) (u : Unit) (m : M) → is_known u.sense ≡ true → is_known (reply k u m).unit.sense ≡ true
  reply-known (asks limit) u m h = give_known u
  reply-known (frees (fails f)) u m h = sense_of_known f
  reply-known (frees (goes next loading full limit start count)) u m h = attend_known loading u h
  reply-known (orders r) u m h = gate-known u.power u.change u.sense m r

  pub meets-known : (j rule : ℕ) (k : Kind M) (u : Unit) (m : M) → is_known u.sense ≡ true → is_known (meets j rule k u m).unit.sense ≡ true
  meets-known zero rule k u m h = reply-known k u m h
  meets-known (suc j) rule k u m h = h

-- ---- the deck

-- the deck after a result is one that refusal 2 does not meet
abbrev Comes : Deck → Result Deck → Type 0
Comes m r = KnownDeck (next_of m r)

module _ (m : Deck) (s : KnownDeck m) where
  -- another play record, another page, or another event
  played : {r : Play} → Known r → KnownDeck (with_play m r)
  played k = record { play = k; page = s.page; event = s.event }

  paged : {g : Page} → is_setting g.recovery ≡ true → KnownDeck (with_page m g)
  paged k = record { play = s.play; page = k; event = s.event }

  noted : {e : ℕ} → is_event e ≡ true → KnownDeck (with_event m e)
  noted k = record { play = s.play; page = s.page; event = k }

  -- another lock, or another disc: refusal 2 asks nothing of them
  locked : (b : Bool) → KnownDeck (with_lock m b)
  locked b = record { play = s.play; page = s.page; event = s.event }

  pub held : (b : Bool) → KnownDeck (with_disc m b)
  held b = record { play = s.play; page = s.page; event = s.event }

  stopped-known : KnownDeck (with_play m (with_status m.play none))
  stopped-known = played (with_status_known none is_status-none s.play)

  answering-known : (bad : Bool) (next : Deck) (full : List ℕ) (limit : ℕ) → KnownDeck next → Comes m (answering bad next full limit)
  unfolding answering
  answering-known bad next full limit n = either (Comes m) bad (λ h. s) (λ h. n)

  ranged-known : (all : Bool) (a n l : ℕ) (r : Result Deck) → (in_range a n l ≡ true → Comes m r) → Comes m (ranged all a n l r)
  unfolding ranged
  ranged-known all a n l r f = either (Comes m) (in_range a n l) (λ h. either (Comes m) all (λ k. f h) (λ k. s)) (λ h. s)

  seek-known : (a l : ℕ) → Comes m (seek a l m)
  unfolding seek
  seek-known a l = either (Comes m) _ (λ h. s) (λ h. stopped-known)

  -- with a disc in the tray's move is one of the three
  event_moved-known : (e : ℕ) → is_event e ≡ true → is_event (event_moved m e) ≡ true
  event_moved-known e k = either (λ (x : ℕ). is_event x ≡ true) m.disc_in (λ h. k) (λ h. s.event)

  pub closing-known : KnownDeck (closing m).deck
  closing-known = record {
    play = either Known m.disc_in (λ h. no_play_known) (λ h. s.play);
    page = s.page;
    event = event_moved-known loaded refl;
  }

  pub opening-known : KnownDeck (opening m).deck
  opening-known = record { play = no_play_known; page = s.page; event = event_moved-known opened refl }

  load-known : Comes m (load m)
  unfolding load
  load-known = either (Comes m) _ (λ h. closing-known) (λ h. s)

  eject-known : Comes m (eject m)
  unfolding eject
  eject-known = either (Comes m) _ (λ h. s) (λ h. either (Comes m) _ (λ k. s) (λ k. opening-known))

  start_stop-known : (b : ℕ) → Comes m (start_stop b m)
  unfolding start_stop
  start_stop-known b = either (Comes m) _ (λ h. either (Comes m) _ (λ k. load-known) (λ k. eject-known)) (λ h. s)

  -- what is played lies below L, which is a block's address
  started-known : (a n l : ℕ) → l ≤ last → in_range a n l ≡ true → KnownDeck (started a n m)
  unfolding started
  started-known a n l h k =
      let e = in_range-end a n l k in
      either KnownDeck (eqb n 0) (λ z. s) (λ z. played (record { status = is_status-playing; within = omega arith; most = omega arith }))

  resumed-known : (resume : Bool) → KnownDeck (with_play m (with_status m.play (resumed resume)))
  resumed-known resume =
      played (with_status_known (resumed resume) (either (λ x. is_status x ≡ true) resume (λ h. is_status-playing) (λ h. is_status-paused)) s.play)

  pause_resume-known : (resume : Bool) → Comes m (pause_resume resume m)
  unfolding pause_resume
  pause_resume-known resume = either (Comes m) _ (λ h. s) (λ h. resumed-known resume)

  reported-known : KnownDeck (with_play m (reported m.play))
  unfolding reported
  reported-known = played (either Known _ (λ h. with_status_known none is_status-none s.play) (λ h. s.play))

  -- each command that has what it needs
  work-known : (c : Command) (p t l : List ℕ) → (needs_disc c p ≡ true → L t ≤ last) → Comes m (work c p m t l)
  work-known TestUnitReady p t l f = s
  work-known RequestSense p t l f = s
  work-known Inquiry p t l f = answering-known _ m _ _ s
  work-known StartStop p t l f = start_stop-known (byte p 4)
  work-known Prevent p t l f = locked (bit0 (byte p 4))
  work-known ReadCapacity p t l f = answering-known _ m _ _ s
  work-known Read10 p t l f = ranged-known _ _ _ _ _ (λ h. stopped-known)
  work-known Seek p t l f = seek-known _ _
  work-known ReadToc p t l f = answering-known _ m _ _ s
  work-known Read12 p t l f = ranged-known _ _ _ _ _ (λ h. stopped-known)
  work-known PlayAudio p t l f = ranged-known _ _ _ _ _ (started-known (address_in p) (count10 p) (L t) (f refl))
  work-known PauseResume p t l f = pause_resume-known (bit0 (byte p 8))
  work-known ReadSubChannel p t l f = answering-known _ _ _ _ reported-known
  work-known ModeSense p t l f = mode_sense-ways (Comes m) (length_in p) m (byte p 2) (λ e. s) (λ g. s)
  work-known ModeSelect p t l f = mode_select_ways (Comes m) (length_in p) l m s s paged s
  work-known GetEvent p t l f =
      get_event-ways (Comes m) (length_in p) m (byte p 1) (byte p 4) s
      (λ full h. either KnownDeck (is_clearing full (length_in p)) (λ k. noted refl) (λ k. s))
  work-known Unknown p t l f = s

  perform-known : (c : Command) (p t l : List ℕ) → (is_loaded m ≡ true → L t ≤ last) → Comes m (perform c p m t l)
  unfolding perform
  perform-known c p t l f =
      either (Comes m) (needs_disc c p and not (is_loaded m)) (λ h. s) (λ h. work-known c p t l (λ n. f (second_holds _ _ h n)))

  pub kind-known : {c : Command} (z : Seen c) (p t l : List ℕ) → (is_loaded m ≡ true → L t ≤ last) → KnownDeck (comes_to m (kind_of z p (perform c p m t l)))
  kind-known asking p t l f = s
  kind-known (freeing {c} z) p t l f = perform-known c p t l f
  kind-known (ordering {c} n g) p t l f = perform-known c p t l f

-- ---- each call

-- a fit table's L is a block's address
pub fit-last : (t : List ℕ) → is_fit t ≡ true → L t ≤ last
fit-last t h = (fit-lead-out (is_fit_true h)).1

-- a packet's answer
module _ (d : Drive) (s : is_known_state d ≡ true) (p t l : List ℕ) (n : ℕ) where
  -- the deck, where it is not refused
  comes-known : refusal_of d p t n ≡ 0 → KnownDeck (comes_to d.deck (kind p d.deck t l))
  comes-known z =
      let h = and_tail _ _ (and_tail _ _ (and_tail _ _ (sym (refusal-ordered d p t n).zero ∙ eq-eqb _ _ z))) in
      kind-known d.deck (is_known_state_deck d s) (seen (decode (code_of p))) p t l (λ i. fit-last t (second_holds _ _ (not-true _ h) i))

  reply-state : is_known_state (record { unit = (reply_to d p t l n).unit; deck = (reply_to d p t l n).deck }) ≡ true
  reply-state =
      rw (reply-kind d p t l n) (known-is_known_state _ (meets-known (refusal_of d p t n) _ (kind p d.deck t l) d.unit d.deck (is_known_state_sense d s))
      (meets-keeps KnownDeck (refusal_of d p t n) _ (kind p d.deck t l) d.unit d.deck (is_known_state_deck d s) comes-known))

-- what power-on leaves
pub restarted_known : (m : Deck) → KnownDeck (restarted m)
restarted_known m = record { play = no_play_known; page = is_setting_default; event = refl }

pub power_state : (f : Form) (d : Drive) → is_known_state (next (powering f) d) ≡ true
power_state by_default d = rw (power_on-with d) (known-is_known_state _ known-none (restarted_known d.deck))
power_state without_change d = rw (power_on_without_change-with d) (known-is_known_state _ known-none (restarted_known d.deck))

-- the calls that are no packets
module _ (d : Drive) (s : is_known_state d ≡ true) where
  abbrev Stays : Moved → Type 0
  Stays r = is_known_state r.state ≡ true

  sense : is_known d.unit.sense ≡ true
  sense = is_known_state_sense d s

  deck : KnownDeck d.deck
  deck = is_known_state_deck d s

  button-state : Stays (button d)
  unfolding button
  button-state = either Stays _
      (λ k. either Stays _
      (λ t. known-is_known_state _ (attend_known d.deck.disc_in d.unit sense) (closing-known d.deck deck))
      (λ t. either Stays _
      (λ l. known-is_known_state _ sense (noted d.deck deck refl))
      (λ l. known-is_known_state _ (attend_known false d.unit sense) (opening-known d.deck deck))))
      (λ k. s)

  lay-state : Stays (lay d)
  unfolding lay
  lay-state = either Stays _ (λ k. either Stays _ (λ t. known-is_known_state _ sense (held d.deck deck true)) (λ t. s)) (λ k. s)

  lift-state : Stays (lift d)
  unfolding lift
  lift-state = either Stays _ (λ k. either Stays _ (λ t. known-is_known_state _ sense (held d.deck deck false)) (λ t. s)) (λ k. s)

  move_on-state : (k : ℕ) → Stays (move_on k d)
  unfolding move_on
  move_on-state k =
      either Stays _ (λ h. known-is_known_state _ sense (played d.deck deck (moved_on_known k d.deck.play deck.play))) (λ h. s)

pub call_state : (c : Call) (d : Drive) → is_known_state d ≡ true → is_known_state (next c d) ≡ true
call_state (powering f) d s = power_state f d
call_state pressing d s = button-state d s
call_state laying d s = lay-state d s
call_state lifting d s = lift-state d s
call_state (moving_on k) d s = move_on-state d s k
call_state (packet p t l m) d s = reply-state d s p t l (length m)

pub known-final : (calls : List Call) (d : Drive) → is_known_state d ≡ true → is_known_state (final d calls) ≡ true
known-final [] d s = s
known-final (c ∷ calls) d s = known-final calls (next c d) (call_state c d s)

-- ---- and so 2 is not given

pub known_never_2 : (c : Call) (d : Drive) → is_known_state d ≡ true → eqb (answer c d).number 2 ≡ false
unfolding ◌and◌
known_never_2 (powering f) d s = refl
known_never_2 pressing d s = (press-tested d).two ∙ ap not s
known_never_2 laying d s = (lay-tested d).two ∙ ap not s
known_never_2 lifting d s = (lift-tested d).two ∙ ap not s
known_never_2 (moving_on k) d s = (move-tested d k).two ∙ ap not s
known_never_2 (packet p t l m) d s = (reply-ordered d p t (length m) l).two ∙ never (eqb (length p) 12) (ap not s)
  where
    never : (a : Bool) {b : Bool} → b ≡ false → a and b ≡ false
    never true h = h
    never false h = refl
