-- What commands need of a fit table.
use Rattle.std.specs.Prelude.{ℕ, ◌-◌, List, Result, Ok, Err}
use Rattle.ground.specs.Tests.{choose◌then◌else◌}
use Rattle.table.specs.Layout.{last_session, descriptors, flags_at, point_at}
use Rattle.table.specs.Row.{address_at}
use Rattle.sessions.specs.Session.{first, last, session}
use Rattle.disc.specs.Rules.{session_lead_out, fault, is_fit}
use Rattle.disc.specs.declared.disc.Disc.{Disc}
use Rattle.disc.specs.declared.disc.Unfit.{Unfit}

-- the last session, from its A0 descriptor on
abbrev pub last_part : List ℕ → List ℕ
last_part t = session (descriptors t) (last_session t - 1)

-- of the descriptors of n sessions: the first and the last track of the disc, S, "L is the last session's lead-out" with its ADR/control, and
-- "the last session's first track": the descriptor after A0, A1 and A2
abbrev pub disc_from : ℕ → List ℕ → Disc
disc_from n d = record {
  first = first d;
  last = last (session d (n - 1));
  sessions = n;
  lead_out = session_lead_out (session d (n - 1));
  lead_flags = flags_at (session d (n - 1)) 2;
  last_first = point_at (session d (n - 1)) 3;
  last_first_flags = flags_at (session d (n - 1)) 3;
  last_first_start = address_at (session d (n - 1)) 3;
}

-- of a table
abbrev pub disc_of : List ℕ → Disc
disc_of t = disc_from (last_session t) (descriptors t)

-- a table that is not fit, by the number of the first broken rule
abbrev pub unfit_by : ℕ → Unfit
unfit_by rule = record { rule = rule }

-- a lent table is read: the disc of a fit one, else the number of the first broken rule
unfoldable pub reading : List ℕ → Result Disc Unfit
reading t = choose is_fit t then Ok (disc_of t) else Err (unfit_by (fault t))
