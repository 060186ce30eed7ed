-- "A block belongs to the track with the greatest start not above it, if it lies below that track's session's lead-out; else to no track."
use Rattle.std.specs.Prelude.{◌≡◌, true, List, ℕ, ◌+◌, ◌≤◌, ◌<◌}
use Rattle.std.proofs.Common.{arith}
use Rattle.ground.specs.Tests.{◌and◌, every}
use Rattle.table.specs.Layout.{last_session, descriptors, rows, point_at, is_track}
use Rattle.table.specs.Row.{address_at}
use Rattle.sessions.specs.Session.{tracks, session}
use Rattle.sessions.specs.SessionLaws.{rows_before}
use Rattle.disc.specs.Rules.{session_lead_out}
use Rattle.disc.specs.RulesLaws.{Fit}
use Rattle.tracks.specs.declared.track.Track.{Track}
use Rattle.tracks.specs.Track.{flagged, out_at, no_track, track_at, track_of, is_mode, in_mode, all_in, run_is}
use Rattle.tracks.specs.declared.track.Mode.{Mode}
use Rattle.tracks.specs.TrackLaws.{Greatest, track_of_of, track_of_no, only_greatest}
use Rattle.tracks.specs.SpreadLaws.{fit-spread, fit-out, fit-run-agrees}

-- among the descriptors d, i is the track with the greatest start not above block b
pub record NotAbove (d : List ℕ) (b i : ℕ) : Type 0 where
  pub listed : i < rows d
  pub track : is_track (point_at d i) ≡ true
  pub start : address_at d i ≤ b
  pub greatest : (j : ℕ) → j < rows d → is_track (point_at d j) ≡ true → address_at d j ≤ b → address_at d j ≤ address_at d i

module _ {t : List ℕ} (f : Fit t) where
  alone : {b i : ℕ} → NotAbove (descriptors t) b i → Greatest (descriptors t) b (rows (descriptors t)) i
  alone {b} {i} g = record {
    listed = g.listed;
    reaches = record { track = g.track; start = g.start };
    greatest = λ j h r. g.greatest j h r.track r.start;
    last = λ j h r e. let s = (fit-spread f).distinct j i h g.listed r.track g.track e in omega arith;
  }

  -- it belongs to that track if it lies below its session's lead-out
  pub block-belongs : (b i : ℕ) → NotAbove (descriptors t) b i → b < out_at (descriptors t) i → track_of (descriptors t) b ≡ track_at (descriptors t) i
  block-belongs b i g h = track_of_of (descriptors t) b i (alone g) h

  -- else to no track
  pub block-past : (b i : ℕ) → NotAbove (descriptors t) b i → out_at (descriptors t) i ≤ b → track_of (descriptors t) b ≡ no_track
  block-past b i g h = track_of_no (descriptors t) b (λ j k. rw (only_greatest k (alone g)) h)

  -- nor does a block before every track
  pub block-before :
      (b : ℕ) → ((j : ℕ) → j < rows (descriptors t) → is_track (point_at (descriptors t) j) ≡ true → b < address_at (descriptors t) j)
      → track_of (descriptors t) b ≡ no_track
  block-before b h =
      track_of_no (descriptors t) b (λ j k. let l = h j k.listed k.reaches.track in let s = k.reaches.start in absurd (omega arith))

  -- "that track's session's lead-out": of the descriptor after a session's heads and m tracks it is the address of that session's A2
  pub block-lead-out :
      {k m : ℕ} → k < last_session t → m < tracks (session (descriptors t) k)
      → out_at (descriptors t) (rows_before (descriptors t) k + (3 + m)) ≡ session_lead_out (session (descriptors t) k)
  block-lead-out {k} {m} h l = fit-out f h m (omega arith)

  -- the run test, which never goes from block to block, is that every block belongs to a track, and to one of the mode
  pub block_runs : (mode : Mode) (a n : ℕ) →
      let u : ℕ → Track = λ i. track_of (descriptors t) (a + i) in
      run_is mode (descriptors t) a n ≡ every n (λ i. is_track (u i).number and flagged mode (u i).flags)
  unfolding all_in in_mode is_mode
  block_runs mode a n = fit-run-agrees f mode a n
