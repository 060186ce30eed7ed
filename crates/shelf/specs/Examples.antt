-- A shelf of Table E, a disc of two sessions with a gap between them, tables of data length 0 and 1, and one cut off: its totals, by computation,
-- block by block.
use Rattle.std.specs.Prelude.{◌≡◌, refl, List, ◌∷◌, ◌++◌, ℕ, take}
use Rattle.ground.specs.Tests.{◌and◌, ◌or◌, every, choose◌then◌else◌}
use Rattle.address.specs.Address.{is_msf}
use Rattle.table.specs.Layout.{is_track, is_extra}
use Rattle.table.specs.Row.{start_of, names, simple, free, plain, head_a0, head_a1, headed, addressed, row_test}
use Rattle.sessions.specs.Session.{one, size, listed, numbered, is_session, starts, before, follows, in_place, in_order}
use Rattle.disc.specs.Rules.{rule1, rule2, each_row, rises, out_before, begins_after, rising, rule7, first_broken, late_rules, row_rules, fault, is_fit}
use Rattle.disc.specs.Examples.{table_e, two}
use Rattle.tracks.specs.Track.{next_out, out_at, covers, wanted, next_found, found, track_of, is_mode}
use Rattle.shelf.specs.Count.{sum_below, one_if, count_below}
use Rattle.shelf.specs.Content.{tracks_in, blocks_in, is_none}
use Rattle.shelf.specs.Totals.{if_fit, of_table, totals_of}
use Rattle.shelf.specs.Stream.{wholes_in, rest_in, wholes, rest, cut_off, tables, shelf}
use Rattle.shelf.specs.declared.totals.Totals.{Totals}

-- Table E: blocks 0 to 149 data and 150 to 299 audio; `two 300`: audio from 0 to 149 and from 300 to 449
abbrev pub example_shelf : List ℕ
example_shelf = table_e ++ (two 300 ++ (0 ∷ 0 ∷ 0 ∷ 1 ∷ 9 ∷ take 40 table_e))

abbrev pub example_totals : Totals
example_totals = record {
  tables = 5;
  fit = 2;
  rule1 = 3;
  rule2 = 0;
  rule3 = 0;
  rule4 = 0;
  rule5 = 0;
  rule6 = 0;
  rule7 = 0;
  tracks = 4;
  data_blocks = 150;
  audio_blocks = 450;
  trackless = 150;
}

pub example-tested : shelf example_shelf ≡ example_totals
unfolding ◌and◌ ◌or◌ every choose◌then◌else◌ is_msf is_track is_extra start_of names simple free plain head_a0 head_a1 headed addressed row_test one size listed numbered is_session starts before follows in_place in_order rule1 rule2 each_row rises out_before begins_after rising rule7 first_broken late_rules row_rules fault is_fit next_out out_at covers wanted next_found found track_of is_mode sum_below one_if count_below tracks_in blocks_in is_none if_fit of_table totals_of wholes_in rest_in wholes rest cut_off tables shelf
example-tested = refl
