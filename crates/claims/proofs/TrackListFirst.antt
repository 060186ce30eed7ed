-- The track list numbered from 1, of which the first track is never lower.
use Rattle.std.specs.Prelude.{◌≡◌, Bool, true, List, ℕ}
use Rattle.disc.specs.Rules.{is_fit}
use Rattle.disc.specs.RulesLaws.{is_fit_true}
use Rattle.disc.specs.FitLaws.{fit-span}
use Rattle.claims.specs.Contents.{list_with}
use Rattle.claims.proofs.TrackList.{list-numbered}

module _ (msf : Bool) (t : List ℕ) (f : is_fit t ≡ true) where
  -- so with N 1, of any fit table
  pub list-numbered-1 : list_with msf 1 t ≡ list_with msf 0 t
  list-numbered-1 = list-numbered msf t f 1 (fit-span (is_fit_true f)).low
