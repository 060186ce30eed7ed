-- "For any input a public function's promise leaves one possible result, one next state and one content of each lent memory, refusals as well."
-- A law for each public function, by its name: two results that meet its promise are equal.
use Rattle.std.specs.Prelude.{◌≡◌, refl, Bool, Option, Some, None, Result, Ok, Err, List, ℕ, ◌≤◌, ◌<◌, min, length, take, get_or}
use Rattle.std.proofs.Common.{sym, ap, ◌∙◌, arith}
use Rattle.std.specs.Borrow.{Bor}
use denote.Slice.{shr_slice_vals}
use Rattle.ground.specs.Number.{Byte, word16, word32, bytes16, bytes32}
use Rattle.ground.specs.Memory.{Laid, laid-only}
use Rattle.address.specs.declared.Msf.{Msf}
use Rattle.address.specs.declared.OutOfRange.{OutOfRange}
use Rattle.address.specs.Address.{shown_address, MsfAnswer, BlockAnswer, msf_meaning, block_meaning, to_msf, to_block, address_of, is_msf}
use Rattle.attention.specs.declared.sense.Sense.{Sense}
use Rattle.attention.specs.declared.Unit.{Unit}
use Rattle.deck.specs.declared.Deck.{Deck}
use Rattle.drive.specs.declared.state.Drive.{Drive}
use Rattle.deck.specs.declared.Shifted.{Shifted}
use Rattle.drive.specs.declared.state.Moved.{Moved}
use Rattle.attention.specs.Sense.{sense_at, same_sense, is_known}
use Rattle.play.specs.declared.Play.{Play}
use Rattle.play.specs.Play.{no_play, with_status, is_play, moved_on}
use Rattle.page.specs.declared.Page.{Page}
use Rattle.page.specs.Page.{defaults, is_setting}
use Rattle.attention.specs.Unit.{powered_on, attend}
use Rattle.deck.specs.Deck.{is_event, is_loaded, opening, closing, restarted, with_disc, with_lock, with_play, with_page, with_event}
use Rattle.drive.specs.State.{is_known_state, shift, power_on, power_on_without_change, button, lay, lift, move_on}
use Rattle.gate.specs.declared.fault.Fault.{Fault}
use Rattle.gate.specs.declared.unit.Pending.{Pending}
use Rattle.gate.specs.declared.unit.Giving.{Giving}
use Rattle.gate.specs.Gate.{Reply, sense_bytes}
use Rattle.gate.specs.Fault.{sense_of}
use Rattle.gate.specs.Unit.{hold, clear, pending_of, told, attention_sense, give}
use Rattle.tracks.specs.declared.track.Track.{Track}
use Rattle.disc.specs.declared.disc.Disc.{Disc}
use Rattle.disc.specs.declared.disc.Unfit.{Unfit}
use Rattle.disc.specs.declared.part.Refusal.{Refusal}
use Rattle.disc.specs.declared.part.Refusal.TheVariants as refusal
use Rattle.table.specs.declared.row.Row.{Row}
use Rattle.table.specs.Layout.{descriptors, is_track, is_extra}
use Rattle.table.specs.Row.{row_of, frames_of, start_of, row_test}
use Rattle.table.specs.Asked.{kept, a0_kept, a1_kept, extra_kept, climbs, holds}
use Rattle.sessions.specs.declared.session.Session.{Session}
use Rattle.sessions.specs.Session.{size, starts, read_session}
use Rattle.disc.specs.Rules.{fault}
use Rattle.disc.specs.Part.{PartOf, part_refused, refusal_meaning, part_start, part_size}
use Rattle.disc.specs.declared.part.Ruled.{Ruled}
use Rattle.tracks.specs.declared.track.Mode.{Mode}
use Rattle.tracks.specs.Track.{is_data, track_of, track_numbered, run_is}
use Rattle.disc.specs.Disc.{unfit_by, reading}
use Rattle.command.specs.declared.decode.Command.{Command}
use Rattle.command.specs.declared.decode.Kind.{Kind}
use Rattle.command.specs.declared.done.Went.{Went}
use Rattle.command.specs.Command.{decode, kind_of, needing, bit, bit0, bit1, bit6}
use Rattle.command.specs.Tray.{moving, start_stop, prevent, no_medium}
use Rattle.command.specs.Inquiry.{inquiry_bytes}
use Rattle.command.specs.Done.{Done, went_with, done, done_of}
use Rattle.blocks.specs.Range.{in_range}
use Rattle.blocks.specs.Blocks.{capacity, seek, read}
use Rattle.audio.specs.declared.sub_channel.SubAsk.{SubAsk}
use Rattle.audio.specs.Audio.{play, pause_resume}
use Rattle.audio.specs.SubChannel.{sub_ask, sub_bad, position_bytes, status_bytes, reported}
use Rattle.mode.specs.ModeSense.{page_shown, mode_bytes}
use Rattle.mode.specs.ModeSelect.{mode_select}
use Rattle.event.specs.EventClass.{class_for}
use Rattle.event.specs.EventAnswer.{class_bytes, none_bytes, event_bytes, cleared}
use Rattle.toc.specs.Answer.{toc_bytes, toc_bad}
use Rattle.outcome.specs.declared.Outcome.{Outcome}
use Rattle.outcome.specs.Outcome.{with_state, Answered, refused, checked, granted, finished}
use Rattle.target.specs.Packet.{answer}
use Rattle.cue.specs.declared.write.Refusal.{Refusal as NoSheet}
use Rattle.cue.specs.declared.write.Refusal.TheVariants as sheet
use Rattle.shelf.specs.declared.totals.Totals.{Totals}
use Rattle.shelf.specs.declared.totals.TooLarge.{TooLarge}
use Rattle.shelf.specs.declared.stream.Taken.{Taken}
use Rattle.shelf.specs.Totals.{nothing, sum, of_table, bounded, numbers_of}
use Rattle.shelf.specs.Stream.{counted, left_in, Took}
use Rattle.cue.specs.Write.{answer as answer_sheet, written_meaning, Turned}
use Rattle.cue.specs.declared.write.Written.{Written}

-- ---- the shapes of a promise, a law each

-- a value: the result is what the definition gives
pub value_once : {A : Type 0} {x r s : A} → r ≡ x → s ≡ x → r ≡ s
value_once p q = p ∙ sym q

-- bytes laid into lent memory: how many went in, and what the memory holds then
pub laying_once : {m b m₁ m₂ : List ℕ} {r s : ℕ} → Laid m b r m₁ → Laid m b s m₂ → (r ≡ s) × (m₁ ≡ m₂)
laying_once = laid-only

-- a part of a slice: the same machine value, place and length
pub part_once : {s r q : Bor (List ℕ)} {at n : ℕ} → PartOf s r at n → PartOf s q at n → shr_slice_vals r ≡ shr_slice_vals q
part_once {s} {r} {q} a b =
    let e : r.ref_ptr.0 ≡ q.ref_ptr.0 = a.block ∙ sym b.block in
    let o : r.ref_ptr.1 ≡ q.ref_ptr.1 = a.offset ∙ sym b.offset in
    let l : length r.now ≡ length q.now = ap length (a.shows ∙ sym b.shows) in
    rw (e, o, l)

-- an answer with memory
pub answer_once : {a : Reply Deck} {m m₁ m₂ : List ℕ} {r s : Outcome Drive} → Answered a m r m₁ → Answered a m s m₂ → (r ≡ s) × (m₁ ≡ m₂)
answer_once a b = (a.outcome ∙ sym b.outcome, a.memory ∙ sym b.memory)

-- a result through its meaning: the two conversions' answers
msf_injective : (r s : Result Msf OutOfRange) → msf_meaning r ≡ msf_meaning s → r ≡ s
msf_injective (Ok m) (Ok n) e =
    let a = ap (λ (x : MsfAnswer). x.minute) e in
    let b = ap (λ (x : MsfAnswer). x.second) e in
    let c = ap (λ (x : MsfAnswer). x.frame) e in
    rw (a, b, c)
msf_injective (Ok m) (Err o) e = let z : ◌≡◌ {A = ℕ} 0 8 = ap (λ (x : MsfAnswer). x.number) e in absurd (omega arith)
msf_injective (Err o) (Ok n) e = let z : ◌≡◌ {A = ℕ} 8 0 = ap (λ (x : MsfAnswer). x.number) e in absurd (omega arith)
msf_injective (Err o) (Err p) e = refl

block_injective : (r s : Result ℕ OutOfRange) → block_meaning r ≡ block_meaning s → r ≡ s
block_injective (Ok a) (Ok b) e = rw (ap (λ (x : BlockAnswer). x.address) e)
block_injective (Ok a) (Err o) e = let z : ◌≡◌ {A = ℕ} 0 8 = ap (λ (x : BlockAnswer). x.number) e in absurd (omega arith)
block_injective (Err o) (Ok b) e = let z : ◌≡◌ {A = ℕ} 8 0 = ap (λ (x : BlockAnswer). x.number) e in absurd (omega arith)
block_injective (Err o) (Err p) e = refl

-- ---- ground

pub unique_wide : (b r s : ℕ) → Byte b r → Byte b s → r ≡ s
unique_wide b r s p q = value_once p.same q.same

pub unique-word16 : (a b r s : ℕ) → r ≡ word16 a b → s ≡ word16 a b → r ≡ s
unique-word16 a b r s = value_once

pub unique-word32 : (a b c d r s : ℕ) → (r ≡ word32 a b c d) × (r < 4294967296) → (s ≡ word32 a b c d) × (s < 4294967296) → r ≡ s
unique-word32 a b c d r s p q = value_once p.0 q.0

pub unique-bytes16 : (n : ℕ) (r s : List ℕ) → r ≡ bytes16 n → s ≡ bytes16 n → r ≡ s
unique-bytes16 n r s = value_once

pub unique-bytes32 : (n : ℕ) (r s : List ℕ) → r ≡ bytes32 n → s ≡ bytes32 n → r ≡ s
unique-bytes32 n r s = value_once

pub unique_smaller : (a b r s : ℕ) → r ≡ min a b → s ≡ min a b → r ≡ s
unique_smaller a b r s = value_once

pub unique_copy_front : (m b m₁ m₂ : List ℕ) (r s : ℕ) → Laid m b r m₁ → Laid m b s m₂ → (r ≡ s) × (m₁ ≡ m₂)
unique_copy_front m b m₁ m₂ r s = laying_once

pub unique_put-cut : (room : ℕ) (m b m₁ m₂ : List ℕ) (r s : ℕ) → Laid m (take room b) r m₁ → Laid m (take room b) s m₂ → (r ≡ s) × (m₁ ≡ m₂)
unique_put-cut room m b m₁ m₂ r s = laying_once

-- ---- address

pub unique-to_msf : (a : ℕ) (r s : Result Msf OutOfRange) → msf_meaning r ≡ to_msf a → msf_meaning s ≡ to_msf a → r ≡ s
unique-to_msf a r s p q = msf_injective r s (value_once p q)

pub unique-to_block : (m n f : ℕ) (r s : Result ℕ OutOfRange) → block_meaning r ≡ to_block m n f → block_meaning s ≡ to_block m n f → r ≡ s
unique-to_block m n f r s p q = block_injective r s (value_once p q)

pub unique_address_of : (m n f r s : ℕ) → r ≡ address_of m n f → s ≡ address_of m n f → r ≡ s
unique_address_of m n f r s = value_once

pub unique_is_msf : (m n f : ℕ) (r s : Bool) → r ≡ is_msf m n f → s ≡ is_msf m n f → r ≡ s
unique_is_msf m n f r s = value_once

pub unique-shown_address : (msf : Bool) (a : ℕ) (r s : List ℕ) → r ≡ shown_address msf a → s ≡ shown_address msf a → r ≡ s
unique-shown_address msf a r s = value_once

-- ---- play

pub unique_no-play : (r s : Play) → r ≡ no_play → s ≡ no_play → r ≡ s
unique_no-play r s = value_once

pub unique_is-play : (a : Play) (r s : Bool) → r ≡ is_play a → s ≡ is_play a → r ≡ s
unique_is-play a r s = value_once

pub unique_with_status : (a : Play) (n : ℕ) (r s : Play) → r ≡ with_status a n → s ≡ with_status a n → r ≡ s
unique_with_status a n r s = value_once

pub unique-moved_on : (a : Play) (k : ℕ) (r s : Play) → r ≡ moved_on k a → s ≡ moved_on k a → r ≡ s
unique-moved_on a k r s = value_once

-- ---- page

pub unique-defaults : (r s : Page) → r ≡ defaults → s ≡ defaults → r ≡ s
unique-defaults r s = value_once

pub unique_is_setting : (b : ℕ) (r s : Bool) → r ≡ is_setting b → s ≡ is_setting b → r ≡ s
unique_is_setting b r s = value_once

-- ---- attention

pub unique_sense-at : (i : ℕ) (r s : Sense) → r ≡ sense_at i → s ≡ sense_at i → r ≡ s
unique_sense-at i r s = value_once

pub unique-same : (a b : Sense) (r s : Bool) → r ≡ same_sense a b → s ≡ same_sense a b → r ≡ s
unique-same a b r s = value_once

pub unique_is_known : (a : Sense) (r s : Bool) → r ≡ is_known a → s ≡ is_known a → r ≡ s
unique_is_known a r s = value_once

pub unique-powered_on : (change : Bool) (r s : Unit) → r ≡ powered_on change → s ≡ powered_on change → r ≡ s
unique-powered_on change r s = value_once

pub unique-attend : (u : Unit) (b : Bool) (r s : Unit) → r ≡ attend b u → s ≡ attend b u → r ≡ s
unique-attend u b r s = value_once

-- ---- deck

pub unique_is-event : (e : ℕ) (r s : Bool) → r ≡ is_event e → s ≡ is_event e → r ≡ s
unique_is-event e r s = value_once

pub unique_is-loaded : (m : Deck) (r s : Bool) → r ≡ is_loaded m → s ≡ is_loaded m → r ≡ s
unique_is-loaded m r s = value_once

pub unique-opening : (m : Deck) (r s : Shifted) → r ≡ opening m → s ≡ opening m → r ≡ s
unique-opening m r s = value_once

pub unique-closing : (m : Deck) (r s : Shifted) → r ≡ closing m → s ≡ closing m → r ≡ s
unique-closing m r s = value_once

pub unique-restarted : (m : Deck) (r s : Deck) → r ≡ restarted m → s ≡ restarted m → r ≡ s
unique-restarted m r s = value_once

pub unique_with-disc : (m : Deck) (b : Bool) (r s : Deck) → r ≡ with_disc m b → s ≡ with_disc m b → r ≡ s
unique_with-disc m b r s = value_once

pub unique_with_lock : (m : Deck) (b : Bool) (r s : Deck) → r ≡ with_lock m b → s ≡ with_lock m b → r ≡ s
unique_with_lock m b r s = value_once

pub unique_with-play : (m : Deck) (a : Play) (r s : Deck) → r ≡ with_play m a → s ≡ with_play m a → r ≡ s
unique_with-play m a r s = value_once

pub unique_with-page : (m : Deck) (a : Page) (r s : Deck) → r ≡ with_page m a → s ≡ with_page m a → r ≡ s
unique_with-page m a r s = value_once

pub unique_with-event : (m : Deck) (e : ℕ) (r s : Deck) → r ≡ with_event m e → s ≡ with_event m e → r ≡ s
unique_with-event m e r s = value_once

-- ---- drive

pub unique_is_known_state : (d : Drive) (r s : Bool) → r ≡ is_known_state d → s ≡ is_known_state d → r ≡ s
unique_is_known_state d r s = value_once

pub unique-shift : (d : Drive) (m : Shifted) (r s : Drive) → r ≡ shift d m → s ≡ shift d m → r ≡ s
unique-shift d m r s = value_once

pub unique_power_on : (d r s : Drive) → r ≡ power_on d → s ≡ power_on d → r ≡ s
unique_power_on d r s = value_once

pub unique_power_on_without_change : (d r s : Drive) → r ≡ power_on_without_change d → s ≡ power_on_without_change d → r ≡ s
unique_power_on_without_change d r s = value_once

pub unique-button : (d : Drive) (r s : Moved) → r ≡ button d → s ≡ button d → r ≡ s
unique-button d r s = value_once

pub unique-lay : (d : Drive) (r s : Moved) → r ≡ lay d → s ≡ lay d → r ≡ s
unique-lay d r s = value_once

pub unique-lift : (d : Drive) (r s : Moved) → r ≡ lift d → s ≡ lift d → r ≡ s
unique-lift d r s = value_once

pub unique_move_on : (k : ℕ) (d : Drive) (r s : Moved) → r ≡ move_on k d → s ≡ move_on k d → r ≡ s
unique_move_on k d r s = value_once

-- ---- gate

pub unique_sense_of : (f : Fault) (r s : Sense) → r ≡ sense_of f → s ≡ sense_of f → r ≡ s
unique_sense_of f r s = value_once

pub unique-hold : (u : Unit) (a : Sense) (r s : Unit) → r ≡ hold a u → s ≡ hold a u → r ≡ s
unique-hold u a r s = value_once

pub unique-clear : (u r s : Unit) → r ≡ clear u → s ≡ clear u → r ≡ s
unique-clear u r s = value_once

pub unique-first-pending : (u : Unit) (r s : Option Pending) → r ≡ pending_of u → s ≡ pending_of u → r ≡ s
unique-first-pending u r s = value_once

pub unique-told : (u : Unit) (a : Option Pending) (r s : Unit) → r ≡ told a u → s ≡ told a u → r ≡ s
unique-told u a r s = value_once

pub unique_sense_of-pending : (a : Option Pending) (r s : Sense) → r ≡ attention_sense a → s ≡ attention_sense a → r ≡ s
unique_sense_of-pending a r s = value_once

pub unique-give : (u : Unit) (r s : Giving) → r ≡ give u → s ≡ give u → r ≡ s
unique-give u r s = value_once

pub unique_sense-bytes : (a : Sense) (r s : List ℕ) → r ≡ sense_bytes a → s ≡ sense_bytes a → r ≡ s
unique_sense-bytes a r s = value_once

-- ---- table

pub unique_is_track : (p : ℕ) (r s : Bool) → r ≡ is_track p → s ≡ is_track p → r ≡ s
unique_is_track p r s = value_once

pub unique_is-extra : (p : ℕ) (r s : Bool) → r ≡ is_extra p → s ≡ is_extra p → r ≡ s
unique_is-extra p r s = value_once

pub unique-byte-at : (d : List ℕ) (i r s : ℕ) → Byte (get_or d i 0) r → Byte (get_or d i 0) s → r ≡ s
unique-byte-at d i r s p q = value_once p.same q.same

pub unique-row_of : (b : List ℕ) (r s : Row) → r ≡ row_of b → s ≡ row_of b → r ≡ s
unique-row_of b r s = value_once

pub unique-frames_of : (e : Row) (r s : ℕ) → (r ≡ frames_of e) × (r ≤ 1166880) → (s ≡ frames_of e) × (s ≤ 1166880) → r ≡ s
unique-frames_of e r s p q = value_once p.0 q.0

pub unique-start_of : (e : Row) (r s : ℕ) → r ≡ start_of e → s ≡ start_of e → r ≡ s
unique-start_of e r s = value_once

pub unique-row_test : (n : ℕ) (e : Row) (r s : Bool) → r ≡ row_test n e → s ≡ row_test n e → r ≡ s
unique-row_test n e r s = value_once

pub unique-kept : (e : Row) (k p : ℕ) (r s : Bool) → r ≡ kept e k p → s ≡ kept e k p → r ≡ s
unique-kept e k p r s = value_once

pub unique_a0-kept : (e : Row) (k : ℕ) (r s : Bool) → r ≡ a0_kept e k → s ≡ a0_kept e k → r ≡ s
unique_a0-kept e k r s = value_once

pub unique_a1-kept : (e : Row) (k : ℕ) (r s : Bool) → r ≡ a1_kept e k → s ≡ a1_kept e k → r ≡ s
unique_a1-kept e k r s = value_once

pub unique-extra-kept : (e : Row) (k : ℕ) (r s : Bool) → r ≡ extra_kept e k → s ≡ extra_kept e k → r ≡ s
unique-extra-kept e k r s = value_once

pub unique-climbs : (e : Row) (low : ℕ) (r s : Bool) → r ≡ climbs e low → s ≡ climbs e low → r ≡ s
unique-climbs e low r s = value_once

pub unique-holds : (e : Row) (low : ℕ) (r s : Bool) → r ≡ holds e low → s ≡ holds e low → r ≡ s
unique-holds e low r s = value_once

-- ---- sessions

pub unique-session-bytes : (d : List ℕ) (r s : ℕ) → r ≡ size d → s ≡ size d → r ≡ s
unique-session-bytes d r s = value_once

pub unique-read-session : (d : List ℕ) (k : ℕ) (r s : Option Session) → r ≡ read_session k d → s ≡ read_session k d → r ≡ s
unique-read-session d k r s = value_once

pub unique-starts-after : (d : List ℕ) (n r s : ℕ) → r ≡ starts d n → s ≡ starts d n → r ≡ s
unique-starts-after d n r s = value_once

-- ---- disc

pub unique-fault : (t : List ℕ) (r s : ℕ) → r ≡ fault t → s ≡ fault t → r ≡ s
unique-fault t r s = value_once

-- the refusal, or that there is none, through the number and the rule
refusal_injective : (r s : Option Refusal) → refusal_meaning r ≡ refusal_meaning s → r ≡ s
refusal_injective None None e = refl
refusal_injective None (Some (refusal.Unfit v)) e = let z : ◌≡◌ {A = ℕ} 0 4 = ap (λ (x : Ruled). x.number) e in absurd (omega arith)
refusal_injective None (Some refusal.NoSession) e = let z : ◌≡◌ {A = ℕ} 0 10 = ap (λ (x : Ruled). x.number) e in absurd (omega arith)
refusal_injective (Some (refusal.Unfit u)) None e = let z : ◌≡◌ {A = ℕ} 4 0 = ap (λ (x : Ruled). x.number) e in absurd (omega arith)
refusal_injective (Some (refusal.Unfit u)) (Some (refusal.Unfit v)) e = ap (λ (n : ℕ). Some (refusal.Unfit (unfit_by n))) (ap (λ (x : Ruled). x.rule) e)
refusal_injective (Some (refusal.Unfit u)) (Some refusal.NoSession) e = let z : ◌≡◌ {A = ℕ} 4 10 = ap (λ (x : Ruled). x.number) e in absurd (omega arith)
refusal_injective (Some refusal.NoSession) None e = let z : ◌≡◌ {A = ℕ} 10 0 = ap (λ (x : Ruled). x.number) e in absurd (omega arith)
refusal_injective (Some refusal.NoSession) (Some (refusal.Unfit v)) e = let z : ◌≡◌ {A = ℕ} 10 4 = ap (λ (x : Ruled). x.number) e in absurd (omega arith)
refusal_injective (Some refusal.NoSession) (Some refusal.NoSession) e = refl

pub unique-session-refusal :
    (t : List ℕ) (k : ℕ) (r s : Option Refusal) → refusal_meaning r ≡ part_refused t k → refusal_meaning s ≡ part_refused t k → r ≡ s
unique-session-refusal t k r s p q = refusal_injective r s (value_once p q)

pub unique-number-and-rule : (o : Option Refusal) (r s : Ruled) → r ≡ refusal_meaning o → s ≡ refusal_meaning o → r ≡ s
unique-number-and-rule o r s = value_once

pub unique_session_part :
    (t r s : Bor (List ℕ)) (k : ℕ)
    → PartOf t r (part_start t.now k) (part_size t.now k) → PartOf t s (part_start t.now k) (part_size t.now k) → shr_slice_vals r ≡ shr_slice_vals s
unique_session_part t r s k = part_once

pub unique-read : (t : List ℕ) (r s : Result Disc Unfit) → r ≡ reading t → s ≡ reading t → r ≡ s
unique-read t r s = value_once

-- ---- tracks

pub unique_is_data : (flags : ℕ) (r s : Bool) → r ≡ is_data flags → s ≡ is_data flags → r ≡ s
unique_is_data flags r s = value_once

pub unique_track_of : (t : List ℕ) (b : ℕ) (r s : Track) → r ≡ track_of (descriptors t) b → s ≡ track_of (descriptors t) b → r ≡ s
unique_track_of t b r s = value_once

pub unique_track-numbered : (t : List ℕ) (n : ℕ) (r s : Track) → r ≡ track_numbered (descriptors t) n → s ≡ track_numbered (descriptors t) n → r ≡ s
unique_track-numbered t n r s = value_once

pub unique_run_is : (mode : Mode) (t : List ℕ) (a n : ℕ) (r s : Bool)
    → r ≡ run_is mode (descriptors t) a n → s ≡ run_is mode (descriptors t) a n → r ≡ s
unique_run_is mode t a n r s = value_once

-- ---- command

pub unique-decode : (c : ℕ) (r s : Command) → r ≡ decode c → s ≡ decode c → r ≡ s
unique-decode c r s = value_once

pub unique-kind_of : (c : Command) (r s : Kind) → r ≡ kind_of c → s ≡ kind_of c → r ≡ s
unique-kind_of c r s = value_once

pub unique-needs-disc : (c : Command) (b : ℕ) (r s : Bool) → r ≡ needing c b → s ≡ needing c b → r ≡ s
unique-needs-disc c b r s = value_once

pub unique-bit : (n b : ℕ) (r s : Bool) → r ≡ bit n b → s ≡ bit n b → r ≡ s
unique-bit n b r s = value_once

pub unique-bit0 : (b : ℕ) (r s : Bool) → r ≡ bit0 b → s ≡ bit0 b → r ≡ s
unique-bit0 b r s = value_once

pub unique-bit1 : (b : ℕ) (r s : Bool) → r ≡ bit1 b → s ≡ bit1 b → r ≡ s
unique-bit1 b r s = value_once

pub unique-bit6 : (b : ℕ) (r s : Bool) → r ≡ bit6 b → s ≡ bit6 b → r ≡ s
unique-bit6 b r s = value_once

pub unique-went_with : (m : Deck) (r s : Went) → r ≡ went_with m → s ≡ went_with m → r ≡ s
unique-went_with m r s = value_once

pub unique_done_with : (m : Deck) (r s : Done) → r ≡ done_of (done m) → s ≡ done_of (done m) → r ≡ s
unique_done_with m r s = value_once

pub unique-start_stop : (b : ℕ) (m : Deck) (r s : Done) → r ≡ done_of (start_stop b m) → s ≡ done_of (start_stop b m) → r ≡ s
unique-start_stop b m r s = value_once

pub unique-moving : (m : Shifted) (r s : Done) → r ≡ done_of (moving m) → s ≡ done_of (moving m) → r ≡ s
unique-moving m r s = value_once

pub unique-prevent : (b : ℕ) (m : Deck) (r s : Done) → r ≡ done_of (prevent b m) → s ≡ done_of (prevent b m) → r ≡ s
unique-prevent b m r s = value_once

pub unique_no_medium : (m : Deck) (r s : Fault) → r ≡ no_medium m → s ≡ no_medium m → r ≡ s
unique_no_medium m r s = value_once

pub unique-inquiry-bytes : (r s : List ℕ) → r ≡ inquiry_bytes → s ≡ inquiry_bytes → r ≡ s
unique-inquiry-bytes r s = value_once

-- ---- outcome

pub unique-with_state : {S T : Type 0} (o : Outcome S) (d : T) (r s : Outcome T) → r ≡ with_state o d → s ≡ with_state o d → r ≡ s
unique-with_state o d r s = value_once

pub unique-refuse : {S : Type 0} (n rule : ℕ) (d : S) (r s : Outcome S) → r ≡ refused n rule d → s ≡ refused n rule d → r ≡ s
unique-refuse n rule d r s = value_once

pub unique-check : (a : Sense) (u : Unit) (m : Deck) (r s : Outcome Drive) → r ≡ checked a u m → s ≡ checked a u m → r ≡ s
unique-check a u m r s = value_once

pub unique-good : (len start count : ℕ) (u : Unit) (m : Deck) (r s : Outcome Drive)
    → r ≡ granted len start count u m → s ≡ granted len start count u m → r ≡ s
unique-good len start count u m r s = value_once

pub unique_finish : (u v : Unit) (m : Deck) (d : Done) (r s : Outcome Drive) → r ≡ finished u v m d → s ≡ finished u v m d → r ≡ s
unique_finish u v m d r s = value_once

pub unique_tell : (a : Option Pending) (u : Unit) (m : Deck) (r s : Outcome Drive)
    → r ≡ checked (attention_sense a) (told a u) m → s ≡ checked (attention_sense a) (told a u) m → r ≡ s
unique_tell a u m r s = value_once

-- ---- toc

pub unique_toc_bad : (disc : Disc) (f n : ℕ) (r s : Bool) → r ≡ toc_bad disc f n → s ≡ toc_bad disc f n → r ≡ s
unique_toc_bad disc f n r s = value_once

pub unique_put_toc : (disc : Disc) (f : ℕ) (msf : Bool) (n room : ℕ) (d m m₁ m₂ : List ℕ) (r s : ℕ)
    → Laid m (take room (toc_bytes disc f msf n d)) r m₁ → Laid m (take room (toc_bytes disc f msf n d)) s m₂ → (r ≡ s) × (m₁ ≡ m₂)
unique_put_toc disc f msf n room d m m₁ m₂ r s = laying_once

-- ---- blocks

pub unique_in_range : (a n l : ℕ) (r s : Bool) → r ≡ in_range a n l → s ≡ in_range a n l → r ≡ s
unique_in_range a n l r s = value_once

pub unique-capacity-bytes : (l : ℕ) (r s : List ℕ) → r ≡ capacity l → s ≡ capacity l → r ≡ s
unique-capacity-bytes l r s = value_once

pub unique-seek : (a l : ℕ) (m : Deck) (r s : Done) → r ≡ done_of (seek a l m) → s ≡ done_of (seek a l m) → r ≡ s
unique-seek a l m r s = value_once

pub unique-read-blocks : (all : Bool) (a n l : ℕ) (m : Deck) (r s : Done)
    → r ≡ done_of (read all a n l m) → s ≡ done_of (read all a n l m) → r ≡ s
unique-read-blocks all a n l m r s = value_once

-- ---- audio

pub unique-play-blocks : (all : Bool) (a n l : ℕ) (m : Deck) (r s : Done)
    → r ≡ done_of (play all a n l m) → s ≡ done_of (play all a n l m) → r ≡ s
unique-play-blocks all a n l m r s = value_once

pub unique-pause-resume : (resume : Bool) (m : Deck) (r s : Done)
    → r ≡ done_of (pause_resume resume m) → s ≡ done_of (pause_resume resume m) → r ≡ s
unique-pause-resume resume m r s = value_once

pub unique-sub_ask : (a b c : ℕ) (r s : SubAsk) → r ≡ sub_ask a b c → s ≡ sub_ask a b c → r ≡ s
unique-sub_ask a b c r s = value_once

pub unique-sub_bad : (ask : SubAsk) (r s : Bool) → r ≡ sub_bad ask → s ≡ sub_bad ask → r ≡ s
unique-sub_bad ask r s = value_once

pub unique_position-bytes : (msf : Bool) (u : Track) (a : Play) (r s : List ℕ) → r ≡ position_bytes msf u a → s ≡ position_bytes msf u a → r ≡ s
unique_position-bytes msf u a r s = value_once

pub unique_status-bytes : (a : Play) (r s : List ℕ) → r ≡ status_bytes a → s ≡ status_bytes a → r ≡ s
unique_status-bytes a r s = value_once

pub unique-reported : (a r s : Play) → r ≡ reported a → s ≡ reported a → r ≡ s
unique-reported a r s = value_once

-- ---- mode

pub unique-page-shown : (b : ℕ) (a : Page) (r s : Result Page Fault) → r ≡ page_shown b a → s ≡ page_shown b a → r ≡ s
unique-page-shown b a r s = value_once

pub unique_mode-bytes : (a : Page) (r s : List ℕ) → r ≡ mode_bytes a → s ≡ mode_bytes a → r ≡ s
unique_mode-bytes a r s = value_once

pub unique_mode_select : (n : ℕ) (l : List ℕ) (m : Deck) (r s : Done)
    → r ≡ done_of (mode_select n l m) → s ≡ done_of (mode_select n l m) → r ≡ s
unique_mode_select n l m r s = value_once

-- ---- event

pub unique_class_for : (asked e r s : ℕ) → r ≡ class_for asked e → s ≡ class_for asked e → r ≡ s
unique_class_for asked e r s = value_once

pub unique_class-bytes : (class : ℕ) (m : Deck) (r s : List ℕ) → r ≡ class_bytes class m → s ≡ class_bytes class m → r ≡ s
unique_class-bytes class m r s = value_once

pub unique-none-bytes : (r s : List ℕ) → r ≡ none_bytes → s ≡ none_bytes → r ≡ s
unique-none-bytes r s = value_once

pub unique-cleared : (class limit : ℕ) (m r s : Deck)
    → r ≡ cleared class (min limit (length (event_bytes class m))) m → s ≡ cleared class (min limit (length (event_bytes class m))) m
    → r ≡ s
unique-cleared class limit m r s = value_once

-- ---- target

pub unique_packet : (d : Drive) (p t l m m₁ m₂ : List ℕ) (r s : Outcome Drive)
    → Answered (answer d p t l (length m)) m r m₁ → Answered (answer d p t l (length m)) m s m₂ → (r ≡ s) × (m₁ ≡ m₂)
unique_packet d p t l m m₁ m₂ r s = answer_once

-- ---- cue

-- the bytes written, or the refusal, through the number and the length
written_injective : (r s : Result ℕ NoSheet) → written_meaning r ≡ written_meaning s → r ≡ s
written_injective (Ok n) (Ok k) e = ap Ok (ap (λ (x : Written). x.len) e)
written_injective (Ok n) (Err sheet.NotWhole) e = let z : ◌≡◌ {A = ℕ} 0 12 = ap (λ (x : Written). x.number) e in absurd (omega arith)
written_injective (Ok n) (Err sheet.NoTable) e = let z : ◌≡◌ {A = ℕ} 0 13 = ap (λ (x : Written). x.number) e in absurd (omega arith)
written_injective (Ok n) (Err sheet.NoRoom) e = let z : ◌≡◌ {A = ℕ} 0 14 = ap (λ (x : Written). x.number) e in absurd (omega arith)
written_injective (Err sheet.NotWhole) (Ok k) e = let z : ◌≡◌ {A = ℕ} 12 0 = ap (λ (x : Written). x.number) e in absurd (omega arith)
written_injective (Err sheet.NotWhole) (Err sheet.NotWhole) e = refl
written_injective (Err sheet.NotWhole) (Err sheet.NoTable) e = let z : ◌≡◌ {A = ℕ} 12 13 = ap (λ (x : Written). x.number) e in absurd (omega arith)
written_injective (Err sheet.NotWhole) (Err sheet.NoRoom) e = let z : ◌≡◌ {A = ℕ} 12 14 = ap (λ (x : Written). x.number) e in absurd (omega arith)
written_injective (Err sheet.NoTable) (Ok k) e = let z : ◌≡◌ {A = ℕ} 13 0 = ap (λ (x : Written). x.number) e in absurd (omega arith)
written_injective (Err sheet.NoTable) (Err sheet.NotWhole) e = let z : ◌≡◌ {A = ℕ} 13 12 = ap (λ (x : Written). x.number) e in absurd (omega arith)
written_injective (Err sheet.NoTable) (Err sheet.NoTable) e = refl
written_injective (Err sheet.NoTable) (Err sheet.NoRoom) e = let z : ◌≡◌ {A = ℕ} 13 14 = ap (λ (x : Written). x.number) e in absurd (omega arith)
written_injective (Err sheet.NoRoom) (Ok k) e = let z : ◌≡◌ {A = ℕ} 14 0 = ap (λ (x : Written). x.number) e in absurd (omega arith)
written_injective (Err sheet.NoRoom) (Err sheet.NotWhole) e = let z : ◌≡◌ {A = ℕ} 14 12 = ap (λ (x : Written). x.number) e in absurd (omega arith)
written_injective (Err sheet.NoRoom) (Err sheet.NoTable) e = let z : ◌≡◌ {A = ℕ} 14 13 = ap (λ (x : Written). x.number) e in absurd (omega arith)
written_injective (Err sheet.NoRoom) (Err sheet.NoRoom) e = refl

pub unique_write_table : (s m m₁ m₂ : List ℕ) (r t : Result ℕ NoSheet)
    → Turned (answer_sheet s (length m)) m (written_meaning r) m₁ → Turned (answer_sheet s (length m)) m (written_meaning t) m₂
    → (r ≡ t) × (m₁ ≡ m₂)
unique_write_table s m m₁ m₂ r t a b = (written_injective r t (value_once a.outcome b.outcome), value_once a.memory b.memory)

pub unique-number-and-len : (w : Result ℕ NoSheet) (r s : Written) → r ≡ written_meaning w → s ≡ written_meaning w → r ≡ s
unique-number-and-len w r s = value_once

-- ---- shelf

pub unique-nothing : (r s : Totals) → r ≡ nothing → s ≡ nothing → r ≡ s
unique-nothing r s = value_once

pub unique-count : (a : Totals) (t : List ℕ) (r s : Result Totals TooLarge) → r ≡ bounded (sum a (of_table t)) → s ≡ bounded (sum a (of_table t)) → r ≡ s
unique-count a t r s = value_once

pub unique_numbers : (a : Totals) (r s : List ℕ) → r ≡ numbers_of a → s ≡ numbers_of a → r ≡ s
unique_numbers a r s = value_once

pub unique-count-all : (a : Totals) (t : List ℕ) (r s : Result Totals TooLarge) → r ≡ counted a t → s ≡ counted a t → r ≡ s
unique-count-all a t r s = value_once

pub unique_take_in : (a : Totals) (m m₁ m₂ : List ℕ) (end : ℕ) (r s : Result Taken TooLarge)
    → Took a (take end m) m r m₁ × (left_in r ≤ 65536) → Took a (take end m) m s m₂ × (left_in s ≤ 65536) → (r ≡ s) × (m₁ ≡ m₂)
unique_take_in a m m₁ m₂ end r s p q =
    (value_once p.0.outcome q.0.outcome, value_once p.0.memory q.0.memory)
