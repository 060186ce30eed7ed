-- No full answer passes the bound: READ TOC's are no longer than the table, and every other is short or empty.
use Rattle.std.specs.Prelude.{◌≡◌, refl, Bool, true, false, not, List, ℕ, zero, suc, ◌+◌, ◌≤◌, length, eqb, ltb, Option, Some, None}
use Rattle.std.proofs.Common.{sym, ap, ◌∙◌, true≢false, arith, length-append, length-drop, ltb-false}
use Rattle.std.proofs.lemmas.Bool.{not-true}
use Rattle.ground.specs.Tests.{◌and◌, ◌or◌, either, and_head, and_tail}
use Rattle.attention.specs.declared.Unit.{Unit}
use Rattle.deck.specs.declared.Deck.{Deck}
use Rattle.drive.specs.declared.state.Drive.{Drive}
use Rattle.deck.specs.Deck.{is_loaded}
use Rattle.drive.specs.State.{is_known_state}
use Rattle.table.specs.Layout.{bound, header, descriptors, last_session}
use Rattle.sessions.specs.Session.{session}
use Rattle.disc.specs.Rules.{is_fit}
use Rattle.disc.specs.RulesLaws.{is_fit_true, fit_sized, fit-numbered}
use Rattle.disc.specs.FitLaws.{session-none}
use Rattle.disc.specs.Disc.{disc_of}
use Rattle.gate.specs.declared.unit.Pending.{Pending}
use Rattle.gate.specs.declared.unit.Pending.TheVariants.{Power, Change}
use Rattle.gate.specs.Unit.{pending_of}
use Rattle.gate.specs.Gate.{Result, fails, goes, Reply, settle, pass, meet, gate}
use Rattle.command.specs.declared.decode.Command.{Command}
use Rattle.command.specs.declared.decode.Command.TheVariants.{TestUnitReady, RequestSense, Inquiry, StartStop, Prevent, ReadCapacity, Read10, Seek, ReadToc, Read12, PlayAudio, PauseResume, ReadSubChannel, ModeSense, ModeSelect, GetEvent, Unknown}
use Rattle.command.specs.declared.decode.Kind.{Kind}
use Rattle.command.specs.declared.decode.Kind.TheVariants.{Asks, Passes, Gates}
use Rattle.command.specs.Command.{byte, bit0, needs_disc, address_in, length_in, code_of, decode, kind_of}
use Rattle.toc.specs.Answer.{whole, format2}
use Rattle.toc.specs.AnswerLaws.{head_of, headed-one, whole_fit, toc_bytes-within}
use Rattle.command.specs.Done.{answering}
use Rattle.tracks.specs.Track.{track_of}
use Rattle.audio.specs.SubChannel.{sub_ask_in}
use Rattle.audio.specs.SubChannelLaws.{sub_bytes-length}
use Rattle.mode.specs.ModeSenseLaws.{mode_sense-ways}
use Rattle.event.specs.EventAnswerLaws.{get_event-ways}
use Rattle.target.specs.ReadToc.{format_in, msf_in, number_in}
use Rattle.target.specs.Perform.{L, work, perform}
use Rattle.target.specs.PerformLaws.{full_of, start_stop_quiet, seek_quiet, ranged_quiet, pause_resume_quiet, mode_select_quiet}
use Rattle.target.specs.Packet.{steps_by, refusal_of, answer as reply_to}
use Rattle.target.specs.PacketLaws.{steps_of}
use Rattle.claims.proofs.UnitLaws.{meets}
use Rattle.claims.proofs.PacketLaws.{kind, rule_of, steps_of-kind, reply-kind}
use Rattle.claims.proofs.RefusalLaws.{refusal-ordered}

-- ---- tests

-- the first does not hold without the second
pub second_holds : (a b : Bool) → a and not b ≡ false → a ≡ true → b ≡ true
unfolding ◌and◌
second_holds true true h e = refl
second_holds true false h e = sym h
second_holds false b h e = absurd (true≢false (sym e))

-- the table is fit, or the drive is not loaded
pub fit_where-loaded : (fit loaded : Bool) → fit or not loaded ≡ true → loaded ≡ true → fit ≡ true
unfolding ◌or◌
fit_where-loaded true loaded h l = refl
fit_where-loaded false loaded h l = sym (ap not l) ∙ h

-- ---- what each command comes to

-- the table is no longer than the bound
abbrev Short : List ℕ → Type 0
Short t = header + length (descriptors t) ≤ bound

-- the result's full answer is not either
abbrev Bounded : Result Deck → Type 0
Bounded r = length (full_of r) ≤ bound

answering-bounded : (bad : Bool) (next : Deck) (full : List ℕ) (limit : ℕ) → length full ≤ bound → Bounded (answering bad next full limit)
unfolding answering
answering-bounded bad next full limit h = either Bounded bad (λ b. omega arith) (λ b. h)

-- of a command that has what it needs
work-bounded : (c : Command) (p : List ℕ) (m : Deck) (t l : List ℕ) → (needs_disc c p ≡ true → Short t) → Bounded (work c p m t l)
work-bounded TestUnitReady p m t l s = omega arith
work-bounded RequestSense p m t l s = omega arith
work-bounded Inquiry p m t l s = answering-bounded _ m _ _ (omega arith)
work-bounded StartStop p m t l s = rw (start_stop_quiet (byte p 4) m) (omega arith)
work-bounded Prevent p m t l s = omega arith
work-bounded ReadCapacity p m t l s = answering-bounded _ m _ _ (omega arith)
work-bounded Read10 p m t l s = rw (ranged_quiet _ _ _ _ _ refl) (omega arith)
work-bounded Seek p m t l s = rw (seek_quiet (address_in p) (L t) m) (omega arith)
work-bounded ReadToc p m t l s =
    answering-bounded _ m _ _ (toc_bytes-within (disc_of t) (format_in p) (msf_in p) (number_in p) (descriptors t) (s refl))
work-bounded Read12 p m t l s = rw (ranged_quiet _ _ _ _ _ refl) (omega arith)
work-bounded PlayAudio p m t l s = rw (ranged_quiet _ _ _ _ _ refl) (omega arith)
work-bounded PauseResume p m t l s = rw (pause_resume_quiet (bit0 (byte p 8)) m) (omega arith)
work-bounded ReadSubChannel p m t l s =
    let e = sub_bytes-length (sub_ask_in p) (track_of (descriptors t) m.play.position) m.play in
    answering-bounded _ _ _ _ (omega arith)
work-bounded ModeSense p m t l s = mode_sense-ways Bounded (length_in p) m (byte p 2) (λ f. omega arith) (λ g. omega arith)
work-bounded ModeSelect p m t l s = rw (mode_select_quiet (length_in p) l m) (omega arith)
work-bounded GetEvent p m t l s =
    get_event-ways Bounded (length_in p) m (byte p 1) (byte p 4) (omega arith) (λ full h. let k = h in omega arith)
work-bounded Unknown p m t l s = omega arith

perform-bounded : (c : Command) (p : List ℕ) (m : Deck) (t l : List ℕ) → (is_loaded m ≡ true → Short t) → Bounded (perform c p m t l)
unfolding perform
perform-bounded c p m t l s =
    either Bounded (needs_disc c p and not (is_loaded m)) (λ h. omega arith) (λ h. work-bounded c p m t l (λ n. s (second_holds _ _ h n)))

-- ---- and what the steps make of it

settle-bounded : (u : Unit) (m : Deck) (r : Result Deck) → Bounded r → length (settle u m r).full ≤ bound
settle-bounded u m (fails f) h = omega arith
settle-bounded u m (goes next loading full limit start count) h = h

pass-bounded : (u : Unit) (m : Deck) (r : Result Deck) → Bounded r → length (pass u m r).full ≤ bound
pass-bounded u m (fails f) h = omega arith
pass-bounded u m (goes next loading full limit start count) h = h

meet-bounded : (a : Option Pending) (u : Unit) (m : Deck) (r : Result Deck) → Bounded r → length (meet a u m r).full ≤ bound
meet-bounded (Some Power) u m r h = omega arith
meet-bounded (Some Change) u m r h = omega arith
meet-bounded None u m r h = settle-bounded u m r h

steps_by-bounded : (k : Kind) (c : Command) (u : Unit) (m : Deck) (p t l : List ℕ) → Bounded (perform c p m t l)
    → length (steps_by k c u m p t l).full ≤ bound
unfolding gate
steps_by-bounded Asks c u m p t l h = omega arith
steps_by-bounded Passes c u m p t l h = pass-bounded u m (perform c p m t l) h
steps_by-bounded Gates c u m p t l h = meet-bounded (pending_of u) u m (perform c p m t l) h

-- a fit table is no longer than the bound
fit_short : (t : List ℕ) → is_fit t ≡ true → Short t
fit_short t h = let s = fit_sized (is_fit_true h) in let a = s.least in let b = s.most in let l = length-drop header t in omega arith

pub steps_of-bounded : (d : Drive) (p t l : List ℕ) → (is_loaded d.deck ≡ true → is_fit t ≡ true) → length (steps_of d p t l).full ≤ bound
steps_of-bounded d p t l f =
    let c = decode (code_of p) in
    steps_by-bounded (kind_of c) c d.unit d.deck p t l (perform-bounded c p d.deck t l (λ i. fit_short t (f i)))

-- ---- an answer is no longer than the memory that was lent

-- the answer passes neither the bound nor a memory of n bytes
abbrev pub Held : ℕ → Reply Deck → Type 0
Held n r = (length r.full ≤ bound) × (length r.full ≤ n)

-- one that is refused has no bytes, and any other has passed refusal 3
pub reply-held : (d : Drive) (p t l : List ℕ) (n : ℕ) → Held n (reply_to d p t l n)
reply-held d p t l n = rw (reply-kind d p t l n) (by_number (refusal_of d p t n) (refusal-ordered d p t n).zero)
  where
    by_number : (j : ℕ) → eqb j 0 ≡ eqb (length p) 12 and is_known_state d and not (ltb n bound) and not (is_loaded d.deck and not (is_fit t))
        → Held n (meets j (rule_of d p t n) (kind p d.deck t l) d.unit d.deck)
    by_number zero e =
        let h = and_tail _ _ (and_tail _ _ (sym e)) in
        let m = ltb-false n bound (not-true _ (and_head _ _ h)) in
        let b = steps_of-bounded d p t l (second_holds _ _ (not-true _ (and_tail _ _ h))) in
        let s = rw (steps_of-kind d p t l) at b in
        (s, omega arith)
    by_number (suc j) e = (omega arith, omega arith)

-- ---- READ TOC by format 2

-- from session 1 on it is as long as the table
pub format2-length : (t : List ℕ) → is_fit t ≡ true → length (format2 (disc_of t) 1 (descriptors t)) ≡ length t
unfolding format2
format2-length t h =
    let f = is_fit_true h in
    let d = descriptors t in
    let x = whole (session d 0) in
    let e = ap length (headed-one 1 (last_session t) x) in
    let a = length-append (head_of 1 (last_session t) (2 + length x)) x in
    let q = ap length (whole_fit f 0 (fit-numbered f).low ∙ session-none d) in
    let l = length-drop header t in
    let b = (fit_sized f).least in
    omega arith
