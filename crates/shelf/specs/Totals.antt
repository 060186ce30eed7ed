-- The thirteen totals: "prints, one a line: tables, fit ones, unfit ones by K6's rule, and over the fit ones tracks, data blocks, audio blocks,
-- blocks of no track".
use Rattle.std.specs.Prelude.{ℕ, ◌+◌, ◌≤◌, Bool, List, [], ◌∷◌, leb, eqb, Result, Ok, Err}
use Rattle.ground.specs.Tests.{◌and◌, choose◌then◌else◌}
use Rattle.disc.specs.Rules.{fault, is_fit}
use Rattle.tracks.specs.Track.{is_mode}
use Rattle.tracks.specs.declared.track.Mode.TheVariants.{Data, Audio}
use Rattle.shelf.specs.Count.{one_if}
use Rattle.shelf.specs.Content.{tracks_in, blocks_in, is_none}
use Rattle.shelf.specs.declared.totals.Totals.{Totals}
use Rattle.shelf.specs.declared.totals.TooLarge.{TooLarge}

-- of no table
abbrev pub nothing : Totals
nothing = record {
  tables = 0;
  fit = 0;
  rule1 = 0;
  rule2 = 0;
  rule3 = 0;
  rule4 = 0;
  rule5 = 0;
  rule6 = 0;
  rule7 = 0;
  tracks = 0;
  data_blocks = 0;
  audio_blocks = 0;
  trackless = 0;
}

-- of tables and then others: each total is the sum of both
abbrev pub sum : Totals → Totals → Totals
sum a b = record {
  tables = a.tables + b.tables;
  fit = a.fit + b.fit;
  rule1 = a.rule1 + b.rule1;
  rule2 = a.rule2 + b.rule2;
  rule3 = a.rule3 + b.rule3;
  rule4 = a.rule4 + b.rule4;
  rule5 = a.rule5 + b.rule5;
  rule6 = a.rule6 + b.rule6;
  rule7 = a.rule7 + b.rule7;
  tracks = a.tracks + b.tracks;
  data_blocks = a.data_blocks + b.data_blocks;
  audio_blocks = a.audio_blocks + b.audio_blocks;
  trackless = a.trackless + b.trackless;
}

-- a fit one adds that
unfoldable pub if_fit : List ℕ → ℕ → ℕ
if_fit t n = choose is_fit t then n else 0

-- of one table; "unfit ones by K6's rule": the first that is broken
unfoldable pub of_table : List ℕ → Totals
of_table t = record {
  tables = 1;
  fit = if_fit t 1;
  rule1 = one_if (eqb (fault t) 1);
  rule2 = one_if (eqb (fault t) 2);
  rule3 = one_if (eqb (fault t) 3);
  rule4 = one_if (eqb (fault t) 4);
  rule5 = one_if (eqb (fault t) 5);
  rule6 = one_if (eqb (fault t) 6);
  rule7 = one_if (eqb (fault t) 7);
  tracks = if_fit t (tracks_in t);
  data_blocks = if_fit t (blocks_in (is_mode Data) t);
  audio_blocks = if_fit t (blocks_in (is_mode Audio) t);
  trackless = if_fit t (blocks_in is_none t);
}

-- of tables
unfoldable pub totals_of : List (List ℕ) → Totals
totals_of [] = nothing
totals_of (t ∷ ts) = sum (of_table t) (totals_of ts)

-- "Totals are 64-bit"
abbrev pub most : ℕ
most = 18446744073709551615

-- each of the thirteen
pub record Within (a : Totals) : Type 0 where
  pub tables : a.tables ≤ most
  pub fit : a.fit ≤ most
  pub rule1 : a.rule1 ≤ most
  pub rule2 : a.rule2 ≤ most
  pub rule3 : a.rule3 ≤ most
  pub rule4 : a.rule4 ≤ most
  pub rule5 : a.rule5 ≤ most
  pub rule6 : a.rule6 ≤ most
  pub rule7 : a.rule7 ≤ most
  pub tracks : a.tracks ≤ most
  pub data_blocks_in : a.data_blocks ≤ most
  pub audio_blocks_in : a.audio_blocks ≤ most
  pub trackless : a.trackless ≤ most

-- the same as a test
unfoldable pub within : Totals → Bool
within a =
    leb a.tables most and leb a.fit most and leb a.rule1 most and leb a.rule2 most and leb a.rule3 most
    and leb a.rule4 most and leb a.rule5 most and leb a.rule6 most and leb a.rule7 most and leb a.tracks most
    and leb a.data_blocks most and leb a.audio_blocks most and leb a.trackless most

-- what is handed back in place of totals, which has one value
abbrev pub too_large : TooLarge
too_large = record {}

-- "past that it stops with "total too large""
unfoldable pub bounded : Totals → Result Totals TooLarge
bounded a = choose within a then Ok a else Err too_large

-- the totals in the order of their lines
abbrev pub numbers_of : Totals → List ℕ
numbers_of a =
    a.tables ∷ a.fit ∷ a.rule1 ∷ a.rule2 ∷ a.rule3 ∷ a.rule4 ∷ a.rule5 ∷ a.rule6 ∷ a.rule7 ∷ a.tracks ∷ a.data_blocks
    ∷ a.audio_blocks ∷ a.trackless ∷ []
