-- What the code has in hand: a fit table, what was read off it, and what the commands count on.
use Rattle.std.specs.Prelude.{◌≡◌, Ok, List, ℕ, ◌≤◌, length}
use Rattle.table.specs.Layout.{bound, header, descriptors}
use Rattle.disc.specs.RulesLaws.{Fit, is_fit_true, fit_sized}
use Rattle.tracks.specs.declared.track.Mode.{Mode}
use Rattle.tracks.specs.Track.{all_in, run_is}
use Rattle.tracks.specs.SpreadLaws.{fit-run-agrees}
use Rattle.disc.specs.declared.disc.Disc.{Disc}
use Rattle.disc.specs.Disc.{disc_of, reading}
use Rattle.disc.specs.DiscLaws.{reading_fit}

-- a fit table's length, and how a run of blocks is tested
pub record FitFacts (t : List ℕ) : Type 0 where
  pub head : header ≤ length t
  pub most : length t ≤ bound
  pub runs : (mode : Mode) (a n : ℕ) → run_is mode (descriptors t) a n ≡ all_in mode (descriptors t) a n

-- a fit table and what was read off it
pub record ReadOff (t : List ℕ) (disc : Disc) : Type 0 where
  pub fits : FitFacts t
  pub same : disc ≡ disc_of t

fit_facts : {t : List ℕ} → Fit t → FitFacts t
fit_facts f =
    let s = fit_sized f in
    record {
      head = s.least;
      most = s.most;
      runs = fit-run-agrees f;
    }

-- what a reading of a loaded drive's table gives the steps
pub read_off : (t : List ℕ) (disc : Disc) → reading t ≡ Ok disc → ReadOff t disc
read_off t disc h = let r = reading_fit t disc h in record { fits = fit_facts (is_fit_true r.0); same = r.1 }
