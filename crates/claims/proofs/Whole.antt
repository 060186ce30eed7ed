-- K9: "with a fit table no full answer passes K1's bound, so refusal 3 covers it": every answer comes whole.
use Rattle.std.specs.Prelude.{ℕ, ◌≤◌, min, ◌≡◌, refl, true, not, List, ◌++◌, length, take, drop}
use Rattle.std.proofs.Common.{ap, ◌∙◌, arith, length-take, le-ltb}
use Rattle.ground.specs.Tests.{◌and◌, ◌or◌, choose◌then◌else◌}
use Rattle.ground.specs.Memory.{fill_fits}
use Rattle.deck.specs.declared.Deck.{Deck}
use Rattle.drive.specs.declared.state.Drive.{Drive}
use Rattle.attention.specs.Sense.{sense_at}
use Rattle.attention.specs.SenseLaws.{is_known-at}
use Rattle.deck.specs.Deck.{is_loaded}
use Rattle.drive.specs.State.{is_known_state}
use Rattle.drive.specs.StateLaws.{known-is_known_state}
use Rattle.table.specs.Layout.{bound, last_session, descriptors}
use Rattle.disc.specs.Rules.{is_fit}
use Rattle.disc.specs.RulesLaws.{is_fit_true, fit-numbered}
use Rattle.disc.specs.Disc.{disc_of}
use Rattle.disc.specs.Longest.{longest, longest_fit, longest-length}
use Rattle.gate.specs.Unit.{pending_of}
use Rattle.gate.specs.Gate.{Reply, gate}
use Rattle.command.specs.Command.{code_of, decode}
use Rattle.toc.specs.Answer.{format2, toc_bytes, toc_bad}
use Rattle.command.specs.Done.{answering}
use Rattle.target.specs.Perform.{perform}
use Rattle.target.specs.Packet.{steps}
use Rattle.target.specs.PacketLaws.{steps_of, answer-steps}
use Rattle.claims.specs.Call.{Call, powering, pressing, laying, lifting, moving_on, packet, answer}
use Rattle.claims.specs.Marked.{loaded_e}
use Rattle.claims.proofs.KnownLaws.{restarted_known}
use Rattle.claims.proofs.WholeLaws.{fit_where-loaded, steps_of-bounded, reply-held, format2-length}
use Rattle.claims.specs.Whole.{whole_toc}

-- of a fit table, or of a drive that is not loaded: no full answer, before cutting, passes the bound, whatever the packet and the state
pub full-answers-bounded : (d : Drive) (p t l : List ℕ) → is_fit t or not (is_loaded d.deck) ≡ true
    → length (steps (decode (code_of p)) d.unit d.deck p t l).full ≤ bound
full-answers-bounded d p t l h = let b = steps_of-bounded d p t l (fit_where-loaded _ _ h) in omega arith

-- and so no call's does, of any table, list and memory: what is refused has no bytes
pub answers-bounded : (c : Call) (d : Drive) → length (answer c d).full ≤ bound
answers-bounded (powering f) d = omega arith
answers-bounded pressing d = omega arith
answers-bounded laying d = omega arith
answers-bounded lifting d = omega arith
answers-bounded (moving_on k) d = omega arith
answers-bounded (packet p t l m) d = (reply-held d p t l (length m)).0

-- a memory that passes refusal 3 holds every answer whole: none is longer than the memory that was lent, and a refused one is empty
pub memory-holds-answers : (d : Drive) (p t l m : List ℕ) → length (answer (packet p t l m) d).full ≤ length m
memory-holds-answers d p t l m = let b = (reply-held d p t l (length m)).1 in omega arith

-- so the allocation length alone cuts it: those bytes stand in front, and the rest of the memory is as it was
pub answers-whole : (d : Drive) (p t l m : List ℕ) →
    let a = answer (packet p t l m) d in
    a.memory ≡ take a.limit a.full ++ drop (min a.limit (length a.full)) m
answers-whole d p t l m =
    let a = answer (packet p t l m) d in
    let e = length-take a.limit a.full in
    let h = (reply-held d p t l (length m)).1 in
    fill_fits m (take a.limit a.full) (omega arith) ∙ ap (λ (n : ℕ). take a.limit a.full ++ drop n m) e

-- of a drive "Loaded, nothing pending" the steps answer it whole
steps_of-whole : (t l : List ℕ) → is_fit t ≡ true → (steps_of loaded_e whole_toc t l).full ≡ format2 (disc_of t) 1 (descriptors t)
unfolding decode choose◌then◌else◌ gate pending_of perform answering toc_bad toc_bytes ◌and◌
steps_of-whole t l f = rw (le-ltb (last_session t) 1 (fit-numbered (is_fit_true f)).low)

pub loaded_e_known : is_known_state loaded_e ≡ true
unfolding sense_at
loaded_e_known = known-is_known_state loaded_e (is_known-at 0) (restarted_known loaded_e.deck)

-- and so does the drive, into a memory that passes refusal 3: of any fit table the answer is as long as the table
pub format2_as_long : (t l m : List ℕ) → is_fit t ≡ true → bound ≤ length m → length (answer (packet whole_toc t l m) loaded_e).full ≡ length t
format2_as_long t l m f h =
    ap (λ (r : Reply Deck). length r.full) (answer-steps loaded_e whole_toc t l (length m) refl loaded_e_known h (λ i. f)) ∙ ap length (steps_of-whole t l f) ∙ format2-length t f

-- 99 sessions of one track with a B0h and a C0h each are 594 descriptors, and fit: their answer has 6,538 bytes
pub bound-reached : (l m : List ℕ) → bound ≤ length m → length (answer (packet whole_toc longest l m) loaded_e).full ≡ bound
bound-reached l m h = format2_as_long longest l m longest_fit h ∙ longest-length
