-- A packet on the drive is one of three kinds, refused or not; what each command does to tray, disc and event, and so that none but a closing
-- with a disc is a loading.
use Rattle.std.specs.Prelude.{◌≡◌, Bool, not, ℕ, eqb, length}
use Rattle.std.proofs.Math.Path.{refl}
use Rattle.std.proofs.Common.{sym, ap, ◌∙◌, lt_of_not-le}
use Rattle.std.proofs.Math.Bool.{true, false}
use Rattle.std.proofs.lemmas.Bool.{false≢true}
use mathlib.Core.List.{List}
use Rattle.std.proofs.Math.Decide.{dec_le, ℕ_discrete}
use Rattle.ground.specs.Tests.{◌and◌, ◌or◌, choose◌then◌else◌, when, unless, either}
use Rattle.attention.specs.declared.Unit.{Unit}
use Rattle.deck.specs.declared.Deck.{Deck}
use Rattle.drive.specs.declared.state.Drive.{Drive}
use Rattle.play.specs.declared.Play.{Play}
use Rattle.page.specs.declared.Page.{Page}
use Rattle.deck.specs.Deck.{no_event, is_loaded, opening, closing, with_lock, with_play, with_page, with_event}
use Rattle.drive.specs.State.{is_known_state}
use Rattle.table.specs.Layout.{bound}
use Rattle.disc.specs.Rules.{is_fit}
use Rattle.disc.specs.Part.{rule_with}
use Rattle.gate.specs.declared.fault.Fault.{Fault}
use Rattle.gate.specs.Gate.{Result, fails, goes, gate, pass}
use Rattle.command.specs.declared.decode.Command.{Command}
use Rattle.command.specs.declared.decode.Command.TheVariants.{TestUnitReady, RequestSense, Inquiry, StartStop, Prevent, ReadCapacity, Read10, Seek, ReadToc, Read12, PlayAudio, PauseResume, ReadSubChannel, ModeSense, ModeSelect, GetEvent, Unknown}
use Rattle.command.specs.Command.{decode, byte, bit0, bit1, code_of, length_in, needs_disc, lo_ej, start}
use Rattle.command.specs.Class.{class_of}
use Rattle.command.specs.ClassLaws.{code_for, decode_is}
use Rattle.command.specs.Tray.{moving, eject, load, start_stop}
use Rattle.command.specs.Done.{done, answering}
use Rattle.blocks.specs.Range.{ranged}
use Rattle.blocks.specs.Blocks.{seek}
use Rattle.audio.specs.Audio.{started, pause_resume}
use Rattle.mode.specs.ModeSenseLaws.{mode_sense-ways}
use Rattle.mode.specs.ModeSelectLaws.{mode_select_ways}
use Rattle.event.specs.EventAnswer.{is_clearing, get_event}
use Rattle.event.specs.EventAnswerLaws.{get_event-ways}
use Rattle.target.specs.Perform.{work, perform}
use Rattle.target.specs.Packet.{steps, refusal_of, answer as reply_to}
use Rattle.target.specs.PacketLaws.{steps_of, answer-1, answer-2, answer-3, answer-steps}
use Rattle.claims.specs.Telling.{any_pending}
use Rattle.claims.proofs.UnitLaws.{Kind, asks, frees, orders, is_asking, reply, meets, meets_by, next_of, loading_of, Honest, gate-blind}
use Rattle.claims.specs.Call.{closed, is_request_sense, is_needing}

-- the command c is k
abbrev pub is_the : Command → Command → Bool
is_the k c = eqb (class_of c) (class_of k)

abbrev is_request : Command → Bool
is_request c = is_the RequestSense c

-- a command that is "performed even with an attention pending" and tells none: it needs no disc, and looks at neither table nor list
pub record Free (c : Command) : Type 0 where
  pub other : is_request c ≡ false
  pub passes : (u : Unit) (m : Deck) (p t l : List ℕ) → steps c u m p t l ≡ pass u m (perform c p m t l)
  pub blind : (p : List ℕ) (m : Deck) (t t' l l' : List ℕ) → perform c p m t l ≡ perform c p m t' l'
  pub needs : (p : List ℕ) → needs_disc c p ≡ false

inquiry-free : Free Inquiry
unfolding class_of perform ◌and◌ choose◌then◌else◌
inquiry-free = record { other = refl; passes = λ u m p t l. refl; blind = λ p m t t' l l'. refl; needs = λ p. refl }

get_event-free : Free GetEvent
unfolding class_of perform ◌and◌ choose◌then◌else◌
get_event-free = record { other = refl; passes = λ u m p t l. refl; blind = λ p m t t' l l'. refl; needs = λ p. refl }

-- REQUEST SENSE, INQUIRY or 4Ah, or a command that meets the gate
pub data Seen : Command → Type 0 where
  asking : Seen RequestSense
  freeing : {c : Command} → Free c → Seen c
  ordering : {c : Command} → is_request c ≡ false → ((u : Unit) (m : Deck) (p t l : List ℕ) → steps c u m p t l ≡ gate u m (perform c p m t l)) → Seen c

pub seen : (c : Command) → Seen c
unfolding class_of
seen TestUnitReady = ordering refl (λ u m p t l. refl)
seen RequestSense = asking
seen Inquiry = freeing inquiry-free
seen StartStop = ordering refl (λ u m p t l. refl)
seen Prevent = ordering refl (λ u m p t l. refl)
seen ReadCapacity = ordering refl (λ u m p t l. refl)
seen Read10 = ordering refl (λ u m p t l. refl)
seen Seek = ordering refl (λ u m p t l. refl)
seen ReadToc = ordering refl (λ u m p t l. refl)
seen Read12 = ordering refl (λ u m p t l. refl)
seen PlayAudio = ordering refl (λ u m p t l. refl)
seen PauseResume = ordering refl (λ u m p t l. refl)
seen ReadSubChannel = ordering refl (λ u m p t l. refl)
seen ModeSense = ordering refl (λ u m p t l. refl)
seen ModeSelect = ordering refl (λ u m p t l. refl)
seen GetEvent = freeing get_event-free
seen Unknown = ordering refl (λ u m p t l. refl)

abbrev pub kind_of : {c : Command} → Seen c → List ℕ → Result Deck → Kind Deck
kind_of asking p r = asks (byte p 4)
kind_of (freeing f) p r = frees r
kind_of (ordering n g) p r = orders r

-- what the packet comes to
abbrev pub kind : List ℕ → Deck → List ℕ → List ℕ → Kind Deck
kind p m t l = kind_of (seen (decode (code_of p))) p (perform (decode (code_of p)) p m t l)

kind-steps : {c : Command} (s : Seen c) (u : Unit) (m : Deck) (p t l : List ℕ) → steps c u m p t l ≡ reply (kind_of s p (perform c p m t l)) u m
kind-steps asking u m p t l = refl
kind-steps (freeing f) u m p t l = f.passes u m p t l
kind-steps (ordering n g) u m p t l = g u m p t l

kind_request : {c : Command} (s : Seen c) (p : List ℕ) (r : Result Deck) → is_asking (kind_of s p r) ≡ is_request c
unfolding class_of
kind_request asking p r = refl
kind_request (freeing f) p r = sym f.other
kind_request (ordering n g) p r = sym n

kind-needs : {c : Command} (s : Seen c) (p : List ℕ) (r : Result Deck) → needs_disc c p ≡ true → kind_of s p r ≡ orders r
kind-needs asking p r h = absurd (false≢true h)
kind-needs (freeing f) p r h = absurd (false≢true (sym (f.needs p) ∙ h))
kind-needs (ordering n g) p r h = refl

-- while an attention is pending neither the lent table nor the parameter list is looked at
kind_blind : {c : Command} (s : Seen c) (u : Unit) (m : Deck) (p t t' l l' : List ℕ) → any_pending u ≡ true
    → reply (kind_of s p (perform c p m t l)) u m ≡ reply (kind_of s p (perform c p m t' l')) u m
kind_blind asking u m p t t' l l' a = refl
kind_blind (freeing f) u m p t t' l l' a = ap (pass u m) (f.blind p m t t' l l')
kind_blind (ordering n g) u m p t t' l l' a = gate-blind u m _ _ a

pub steps_blind : (c : Command) (u : Unit) (m : Deck) (p t t' l l' : List ℕ) → any_pending u ≡ true → steps c u m p t l ≡ steps c u m p t' l'
steps_blind c u m p t t' l l' a =
    kind-steps (seen c) u m p t l ∙ kind_blind (seen c) u m p t t' l l' a ∙ sym (kind-steps (seen c) u m p t' l')

-- ---- refused or not

pub steps_of-kind : (d : Drive) (p t l : List ℕ) → steps_of d p t l ≡ reply (kind p d.deck t l) d.unit d.deck
steps_of-kind d p t l = kind-steps (seen (decode (code_of p))) d.unit d.deck p t l

-- what is performed alike is answered alike
pub steps-performed : (d : Drive) (p t t' l l' : List ℕ) → perform (decode (code_of p)) p d.deck t l ≡ perform (decode (code_of p)) p d.deck t' l'
    → steps_of d p t l ≡ steps_of d p t' l'
steps-performed d p t t' l l' h =
    steps_of-kind d p t l
    ∙ ap (λ (r : Result Deck). reply (kind_of (seen (decode (code_of p))) p r) d.unit d.deck) h
    ∙ sym (steps_of-kind d p t' l')

-- the rule beside a packet's number
abbrev pub rule_of : Drive → List ℕ → List ℕ → ℕ → ℕ
rule_of d p t n = rule_with (refusal_of d p t n) t

-- the answer is that of the packet's kind, or the refusal
pub reply-kind : (d : Drive) (p t l : List ℕ) (n : ℕ)
    → reply_to d p t l n ≡ meets (refusal_of d p t n) (rule_of d p t n) (kind p d.deck t l) d.unit d.deck
unfolding reply_to
reply-kind d p t l n = meets_by (refusal_of d p t n) (rule_of d p t n) (kind p d.deck t l) d.unit d.deck (steps_of-kind d p t l)

-- ---- what each command does to tray, disc and event

pub closed_still : (m : Deck) → closed m m ≡ false
unfolding ◌and◌
closed_still m = go m.tray_open _
  where
    go : (b c : Bool) → b and not b and c ≡ false
    go true c = refl
    go false c = refl

-- the deck n has the tray, the disc and the event of m
pub record Still (m n : Deck) : Type 0 where
  pub tray : n.tray_open ≡ m.tray_open
  pub disc : n.disc_in ≡ m.disc_in
  pub event : n.event ≡ m.event

still : (m : Deck) → Still m m
still m = record { tray = refl; disc = refl; event = refl }

-- a result of a command on the deck m, where `trays` says that it is 1Bh with LoEj 1, and `polls` that it is 4Ah: it fails, keeps all three,
-- moves the tray, or clears the event
pub data Does (trays polls : Bool) (m : Deck) : Result Deck → Type 0 where
  failing : {f : Fault} → Does trays polls m (fails f)
  keeping : {n : Deck} {full : List ℕ} {limit start count : ℕ} → Still m n → polls and is_clearing full limit ≡ false
      → Does trays polls m (goes n false full limit start count)
  closing-it : trays ≡ true → m.tray_open ≡ true → Does trays polls m (moving (closing m))
  opening-it : trays ≡ true → m.tray_open ≡ false → Does trays polls m (moving (opening m))
  clearing : {full : List ℕ} {limit : ℕ} → polls and is_clearing full limit ≡ true → Does trays polls m (goes (with_event m no_event) false full limit 0 0)

-- any command but 4Ah
module _ (m : Deck) where
  kept : {trays : Bool} (n : Deck) {full : List ℕ} {limit start count : ℕ} → Still m n → Does trays false m (goes n false full limit start count)
  unfolding ◌and◌
  kept n s = keeping s refl

  stays : {trays : Bool} → Does trays false m (done m)
  stays = kept m (still m)

  -- another lock, play record or page
  relocked : (b : Bool) → Still m (with_lock m b)
  relocked b = record { tray = refl; disc = refl; event = refl }

  replayed : (r : Play) → Still m (with_play m r)
  replayed r = record { tray = refl; disc = refl; event = refl }

  repaged : (g : Page) → Still m (with_page m g)
  repaged g = record { tray = refl; disc = refl; event = refl }

  module _ (trays : Bool) where
    abbrev Traying : Result Deck → Type 0
    Traying r = Does trays false m r

    load_does : trays ≡ true → Traying (load m)
    unfolding load
    load_does w = either Traying _ (λ h. closing-it w h) (λ h. stays)

    eject-does : trays ≡ true → Traying (eject m)
    unfolding eject
    eject-does w = either Traying _ (λ h. stays) (λ h. either Traying _ (λ k. failing) (λ k. opening-it w h))

  start_stop-does : (b : ℕ) → Traying (bit1 b) (start_stop b m)
  unfolding start_stop
  start_stop-does b =
      let t = bit1 b in
      either (Traying t) _ (λ h. either (Traying t) _ (λ k. load_does t h) (λ k. eject-does t h)) (λ h. stays)

  -- and any but 1Bh with LoEj 1
  abbrev Other : Result Deck → Type 0
  Other r = Does false false m r

  answering-does : (bad : Bool) (n : Deck) (full : List ℕ) (limit : ℕ) → Still m n → Other (answering bad n full limit)
  unfolding answering
  answering-does bad n full limit s = either Other bad (λ h. failing) (λ h. kept n s)

  ranged-does : (all : Bool) (a n l : ℕ) (r : Result Deck) → Other r → Other (ranged all a n l r)
  unfolding ranged
  ranged-does all a n l r f = either Other _ (λ h. either Other all (λ k. f) (λ k. failing)) (λ h. failing)

  seek-does : (a l : ℕ) → Other (seek a l m)
  unfolding seek
  seek-does a l = either Other _ (λ h. failing) (λ h. kept _ (replayed _))

  started-still : (a n : ℕ) → Still m (started a n m)
  unfolding started
  started-still a n = either (Still m) _ (λ h. still m) (λ h. replayed _)

  pause_resume-does : (resume : Bool) → Other (pause_resume resume m)
  unfolding pause_resume
  pause_resume-does resume = either Other _ (λ h. failing) (λ h. kept _ (replayed _))

  get_event-does : (b1 asked limit : ℕ) → Does false true m (get_event b1 asked limit m)
  unfolding ◌and◌
  get_event-does b1 asked limit = get_event-ways (Does false true m) limit m b1 asked failing (λ full h. by-clearing full (is_clearing full limit) refl)
    where
      by-clearing : (full : List ℕ) (b : Bool) → is_clearing full limit ≡ b → Does false true m (goes (choose is_clearing full limit then with_event m no_event else m) false full limit 0 0)
      by-clearing full true h = rw (when {A = Deck} _ (with_event m no_event) m h) (clearing h)
      by-clearing full false h = rw (unless {A = Deck} _ (with_event m no_event) m h) (keeping (still m) h)

abbrev pub is_polling : Command → Bool
is_polling c = is_the GetEvent c

-- 1Bh, "byte 4 bit 1 LoEj": eject or load
abbrev pub is_traying : Command → List ℕ → Bool
is_traying c p = is_the StartStop c and lo_ej p

work_does : (c : Command) (p : List ℕ) (m : Deck) (t l : List ℕ) → Does (is_traying c p) (is_polling c) m (work c p m t l)
unfolding class_of ◌and◌
work_does TestUnitReady p m t l = stays m
work_does RequestSense p m t l = stays m
work_does Inquiry p m t l = answering-does m _ m _ _ (still m)
work_does StartStop p m t l = start_stop-does m (byte p 4)
work_does Prevent p m t l = kept m _ (relocked m (bit0 (byte p 4)))
work_does ReadCapacity p m t l = answering-does m _ m _ _ (still m)
work_does Read10 p m t l = ranged-does m _ _ _ _ _ (kept m _ (replayed m _))
work_does Seek p m t l = seek-does m _ _
work_does ReadToc p m t l = answering-does m _ m _ _ (still m)
work_does Read12 p m t l = ranged-does m _ _ _ _ _ (kept m _ (replayed m _))
work_does PlayAudio p m t l = ranged-does m _ _ _ _ _ (kept m _ (started-still m _ _))
work_does PauseResume p m t l = pause_resume-does m _
work_does ReadSubChannel p m t l = answering-does m _ _ _ _ (replayed m _)
work_does ModeSense p m t l = mode_sense-ways (Other m) (length_in p) m (byte p 2) (λ f. failing) (λ g. kept m m (still m))
work_does ModeSelect p m t l =
    mode_select_ways (Other m) (length_in p) l m failing (stays m) (λ h. kept m _ (repaged m _)) failing
work_does GetEvent p m t l = get_event-does m (byte p 1) (byte p 4) (length_in p)
work_does Unknown p m t l = failing

pub perform_does : (c : Command) (p : List ℕ) (m : Deck) (t l : List ℕ) → Does (is_traying c p) (is_polling c) m (perform c p m t l)
unfolding perform
perform_does c p m t l = either (Does (is_traying c p) (is_polling c) m) _ (λ h. failing) (λ h. work_does c p m t l)

-- ---- no command but a closing is a loading

-- the result moves the tray only as it says
abbrev Fair : Deck → Result Deck → Type 0
Fair m r = closed m (next_of m r) ≡ loading_of r

does_fair : {trays polls : Bool} {m : Deck} {r : Result Deck} → Does trays polls m r → Fair m r
unfolding ◌and◌
does_fair {m = m} failing = closed_still m
does_fair {m = m} (keeping s b) = rw (s.tray, s.disc) (closed_still m)
does_fair (closing-it w h) = rw h
does_fair (opening-it w h) = rw h
does_fair {m = m} (clearing b) = closed_still m

-- the drive's loadings are read off the deck alone, before and after
abbrev HonestOn : Deck → Kind Deck → Type 0
HonestOn m = Honest (λ good n. closed m n) m

kind_fair : {c : Command} (s : Seen c) (p : List ℕ) (m : Deck) (t l : List ℕ) → HonestOn m (kind_of s p (perform c p m t l))
kind_fair asking p m t l = (closed_still m, closed_still m)
kind_fair (freeing {c} f) p m t l = (does_fair (perform_does c p m t l), closed_still m)
kind_fair (ordering {c} n g) p m t l = (does_fair (perform_does c p m t l), closed_still m)

pub packet_fair : (p : List ℕ) (m : Deck) (t l : List ℕ) → HonestOn m (kind p m t l)
packet_fair p m t l = kind_fair (seen (decode (code_of p))) p m t l

-- ---- the packet's code

-- REQUEST SENSE is the code 03h
decode_request : (n : ℕ) → eqb n 0x03 ≡ is_request (decode n)
unfolding class_of
decode_request = decode_is RequestSense refl

pub packet_request : (p : List ℕ) (m : Deck) (t l : List ℕ) → is_asking (kind p m t l) ≡ is_request_sense p
packet_request p m t l = kind_request (seen (decode (code_of p))) p _ ∙ sym (decode_request (code_of p))

-- those that need a disc, by name
class-needs : (c : Command) (p : List ℕ)
    → is_the TestUnitReady c or is_the ReadCapacity c or is_the Read10 c or is_the Seek c or is_the ReadToc c or is_the Read12 c or is_the PlayAudio c or is_the PauseResume c or is_the ReadSubChannel c or is_the StartStop c and not (lo_ej p) and start p
    ≡ needs_disc c p
unfolding class_of ◌or◌ ◌and◌
class-needs TestUnitReady p = refl
class-needs RequestSense p = refl
class-needs Inquiry p = refl
class-needs StartStop p = refl
class-needs Prevent p = refl
class-needs ReadCapacity p = refl
class-needs Read10 p = refl
class-needs Seek p = refl
class-needs ReadToc p = refl
class-needs Read12 p = refl
class-needs PlayAudio p = refl
class-needs PauseResume p = refl
class-needs ReadSubChannel p = refl
class-needs ModeSense p = refl
class-needs ModeSelect p = refl
class-needs GetEvent p = refl
class-needs Unknown p = refl

-- and by code
code-needs : (n : ℕ) (p : List ℕ)
    → eqb n 0x00 or eqb n 0x25 or eqb n 0x28 or eqb n 0x2B or eqb n 0x43 or eqb n 0xA8 or eqb n 0x45 or eqb n 0x4B or eqb n 0x42 or eqb n 0x1B and not (lo_ej p) and start p
    ≡ needs_disc (decode n) p
unfolding class_of
code-needs n p = rw (by TestUnitReady refl, by ReadCapacity refl, by Read10 refl, by Seek refl, by ReadToc refl, by Read12 refl, by PlayAudio refl, by PauseResume refl, by ReadSubChannel refl, by StartStop refl) (class-needs (decode n) p)
  where
    by : (c : Command) → eqb (class_of c) 0 ≡ false → eqb n (code_for c) ≡ is_the c (decode n)
    by c u = decode_is c u n

pub packet-needs : (p : List ℕ) → is_needing p ≡ needs_disc (decode (code_of p)) p
unfolding is_needing
packet-needs p = code-needs (code_of p) p

pub packet_orders : (p : List ℕ) (m : Deck) (t l : List ℕ) → is_needing p ≡ true → (r : Result Deck) × (kind p m t l ≡ orders r)
packet_orders p m t l h = (_, kind-needs (seen (decode (code_of p))) p _ (sym (packet-needs p) ∙ h))

-- ---- the lent table and the parameter list

-- what the steps answer alike the packet answers alike, where both tables are fit or the drive is not loaded: no refusal looks at more
pub packet-steps : (d : Drive) (p t t' l l' : List ℕ) (n : ℕ) → (is_loaded d.deck ≡ true → (is_fit t ≡ true) × (is_fit t' ≡ true))
    → steps_of d p t l ≡ steps_of d p t' l' → reply_to d p t l n ≡ reply_to d p t' l' n
packet-steps d p t t' l l' n f s = elim (ℕ_discrete (length p) 12) [
  | yes a ↦ by_state a (is_known_state d) refl
  | no a ↦ answer-1 d p t l n a ∙ sym (answer-1 d p t' l' n a)
]
  where
    by-memory : length p ≡ 12 → is_known_state d ≡ true → reply_to d p t l n ≡ reply_to d p t' l' n
    by-memory a b = elim (dec_le bound n) [
      | yes c ↦ answer-steps d p t l n a b c (λ i. (f i).0) ∙ s ∙ sym (answer-steps d p t' l' n a b c (λ i. (f i).1))
      | no c ↦ answer-3 d p t l n a b (lt_of_not-le c) ∙ sym (answer-3 d p t' l' n a b (lt_of_not-le c))
    ]

    by_state : length p ≡ 12 → (b : Bool) → is_known_state d ≡ b → reply_to d p t l n ≡ reply_to d p t' l' n
    by_state a true e = by-memory a e
    by_state a false e = answer-2 d p t l n a e ∙ sym (answer-2 d p t' l' n a e)

-- while an attention is pending two fit tables give one answer, with any two lists
pub packet_blind : (d : Drive) (p t t' l l' : List ℕ) (n : ℕ) → is_fit t ≡ true → is_fit t' ≡ true → any_pending d.unit ≡ true
    → reply_to d p t l n ≡ reply_to d p t' l' n
packet_blind d p t t' l l' n f g a =
    packet-steps d p t t' l l' n (λ i. (f, g)) (steps_blind (decode (code_of p)) d.unit d.deck p t t' l l' a)

-- and so do two lists with one table, fit or not
pub packet_unlisted : (d : Drive) (p t l l' : List ℕ) (n : ℕ) → any_pending d.unit ≡ true → reply_to d p t l n ≡ reply_to d p t l' n
unfolding reply_to
packet_unlisted d p t l l' n a = rw (steps_blind (decode (code_of p)) d.unit d.deck p t t l l' a)
