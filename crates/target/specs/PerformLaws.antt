-- How the code's answers meet a result: a failure writes nothing, and what went well was laid.
use Rattle.std.specs.Prelude.{◌≡◌, refl, Bool, true, false, not, List, [], ℕ, ◌+◌, ◌≤◌, min, length, take, Ok, Err}
use Rattle.std.proofs.Common.{sym, ap, ◌∙◌, arith, length-take, length-drop}
use Rattle.std.proofs.Math.Seq.{take-nil}
use Rattle.ground.specs.Tests.{when, unless, either, and_both, and_off, and_late}
use Rattle.disc.specs.declared.disc.Disc.{Disc}
use Rattle.table.specs.Layout.{bound, header, descriptors}
use Rattle.ground.specs.Memory.{Laid, fill, fill_none}
use Rattle.deck.specs.declared.Deck.{Deck}
use Rattle.deck.specs.Deck.{is_loaded}
use Rattle.gate.specs.declared.fault.Fault.{Fault}
use Rattle.gate.specs.declared.fault.Fault.TheVariants.{BadField}
use Rattle.gate.specs.Gate.{Result, fails, goes}
use Rattle.command.specs.declared.decode.Command.{Command}
use Rattle.command.specs.Command.{needs_disc}
use Rattle.command.specs.Tray.{eject, load, start_stop, no_medium}
use Rattle.command.specs.Done.{Done, done_of, answering, answering-fails, answering-goes}
use Rattle.blocks.specs.Range.{ranged}
use Rattle.blocks.specs.Blocks.{seek}
use Rattle.audio.specs.Audio.{pause_resume}
use Rattle.mode.specs.ModeSelect.{mode_select}
use Rattle.mode.specs.ModeSelectLaws.{mode_select_ways}
use Rattle.target.specs.FitFacts.{ReadOff}
use Rattle.target.specs.Perform.{written, Performed, L, work, perform}

-- ---- what the code has in hand

-- the memory is long enough, and a command that needs a disc has one read off a fit table
pub record Met (c : Command) (p t : List ℕ) (disc : Disc) (mem : List ℕ) : Type 0 where
  pub room : bound ≤ length mem
  pub ready : needs_disc c p ≡ true → ReadOff t disc

-- the same before the disc is asked for: a loaded drive's table was read
pub record Ready (m : Deck) (t : List ℕ) (disc : Disc) (mem : List ℕ) : Type 0 where
  pub room : bound ≤ length mem
  pub ready : is_loaded m ≡ true → ReadOff t disc

-- the lead-out that was read off is the table's
pub read_off_leads : {t : List ℕ} {disc : Disc} → ReadOff t disc → disc.lead_out ≡ L t
read_off_leads r = ap (λ (d : Disc). d.lead_out) r.same

-- its descriptors are what its header leaves of the bound
pub read_off-length : {t : List ℕ} {disc : Disc} → ReadOff t disc → header + length (descriptors t) ≤ bound
read_off-length {t} r = let l = length-drop header t in let a = r.fits.head in let b = r.fits.most in omega arith

-- ---- Performed

pub performed-fails : {r : Result Deck} {f : Fault} (m : List ℕ) → r ≡ fails f → Performed r m (Err f) m
performed-fails m e = record { outcome = ap done_of (sym e); memory = sym (fill_none m) ∙ ap (λ (x : Result Deck). fill m (written x)) (sym e) }

pub performed_goes :
    {r : Result Deck} {next : Deck} {loading : Bool} {limit start count n : ℕ} (full : List ℕ) {m m' : List ℕ}
    → r ≡ goes next loading full limit start count → length full ≤ length m → Laid m (take limit full) n m'
    → Performed r m (Ok (record { next = next; loading = loading; len = n; start = start; count = count })) m'
performed_goes {r} {next} {loading} {limit} {start} {count} {n} full {m} {m'} e h l =
    let k : n ≡ min limit (length full) = let a = l.count in let b = length-take limit full in omega arith in
    record {
      outcome = rw k (ap done_of (sym e));
      memory = l.bytes ∙ ap (λ (x : Result Deck). fill m (written x)) (sym e);
    }

-- a command with an answer: a bad field, or the answer laid
module _ (next : Deck) (full : List ℕ) (limit : ℕ) where
  pub performed-bad : {bad : Bool} (m : List ℕ) → bad ≡ true → Performed (answering bad next full limit) m (Err BadField) m
  performed-bad m h = performed-fails m (answering-fails next full limit h)

  pub performed-answer :
      {bad : Bool} {n : ℕ} {m m' : List ℕ} → bad ≡ false → length full ≤ length m → Laid m (take limit full) n m'
      → Performed (answering bad next full limit) m (Ok (record { next = next; loading = false; len = n; start = 0; count = 0 })) m'
  performed-answer h = performed_goes full (answering-goes next full limit h)

-- ---- commands that write nothing

-- a result's full answer
abbrev pub full_of : Result Deck → List ℕ
full_of (fails f) = []
full_of (goes next loading full limit start count) = full

abbrev pub Quiet : Result Deck → Type 0
Quiet r = full_of r ≡ []

written_quiet : (r : Result Deck) → Quiet r → written r ≡ []
written_quiet (fails f) q = refl
written_quiet (goes next loading full limit start count) q = ap (take limit) q ∙ take-nil limit

pub performed_quiet : {r : Result Deck} {o : Done} (m : List ℕ) → Quiet r → o ≡ done_of r → Performed r m o m
performed_quiet {r} m q e = record { outcome = e; memory = sym (fill_none m) ∙ ap (fill m) (sym (written_quiet r q)) }

pub start_stop_quiet : (b : ℕ) (m : Deck) → Quiet (start_stop b m)
unfolding start_stop load eject
start_stop_quiet b m =
    either Quiet _ (λ h. either Quiet _ (λ k. either Quiet _ (λ o. refl) (λ o. refl)) (λ k. either Quiet _ (λ o. refl) (λ o. either Quiet _ (λ l. refl) (λ l. refl)))) (λ h. refl)

pub seek_quiet : (a l : ℕ) (m : Deck) → Quiet (seek a l m)
unfolding seek
seek_quiet a l m = either Quiet _ (λ h. refl) (λ h. refl)

pub ranged_quiet : (all : Bool) (a n l : ℕ) (r : Result Deck) → Quiet r → Quiet (ranged all a n l r)
unfolding ranged
ranged_quiet all a n l r q = either Quiet _ (λ h. either Quiet _ (λ k. q) (λ k. refl)) (λ h. refl)

pub pause_resume_quiet : (resume : Bool) (m : Deck) → Quiet (pause_resume resume m)
unfolding pause_resume
pause_resume_quiet resume m = either Quiet _ (λ h. refl) (λ h. refl)

pub mode_select_quiet : (n : ℕ) (l : List ℕ) (m : Deck) → Quiet (mode_select n l m)
mode_select_quiet n l m = mode_select_ways Quiet n l m refl refl (λ h. refl) refl

-- ---- steps 3 and 4

pub perform_empty : (c : Command) (p : List ℕ) (m : Deck) (t l : List ℕ) → needs_disc c p ≡ true → is_loaded m ≡ false → perform c p m t l ≡ fails (no_medium m)
unfolding perform
perform_empty c p m t l h k = when _ _ _ (and_both _ _ h (ap not k))

pub perform-loaded : (c : Command) (p : List ℕ) (m : Deck) (t l : List ℕ) → is_loaded m ≡ true → perform c p m t l ≡ work c p m t l
unfolding perform
perform-loaded c p m t l k = unless _ _ _ (sym (and_late _ _ (sym (ap not k))))

pub perform-free : (c : Command) (p : List ℕ) (m : Deck) (t l : List ℕ) → needs_disc c p ≡ false → perform c p m t l ≡ work c p m t l
unfolding perform
perform-free c p m t l h = unless _ _ _ (sym (and_off _ _ h))
