-- What the one walk over the table asks of a descriptor where it stands.
use Rattle.std.specs.Prelude.{ℕ, Bool, true, leb, eqb}
use Rattle.ground.specs.Tests.{◌and◌, choose◌then◌else◌}
use Rattle.table.specs.Layout.{A0, A1}
use Rattle.table.specs.Row.{frames_of, names, simple, free, head_a0, head_a1}
use Rattle.table.specs.declared.row.Row.{Row}

-- it is of session k, has POINT p, and has ADR 1, TNO 0 and ZERO 0
unfoldable pub kept : Row → ℕ → ℕ → Bool
kept r k p = names r k p and simple r

-- all that is asked of session k's A0 beside its track, and of its A1
unfoldable pub a0_kept : Row → ℕ → Bool
a0_kept r k = kept r k A0 and head_a0 r

unfoldable pub a1_kept : Row → ℕ → Bool
a1_kept r k = kept r k A1 and head_a1 r

-- all that is asked of a B0h or C0h of session k
unfoldable pub extra_kept : Row → ℕ → Bool
extra_kept r k = eqb r.session k and free r

-- it is passed where a descriptor with POINT p may stand: one with that POINT is kept, and any other is none
unfoldable pub extra_passed : Row → ℕ → ℕ → Bool
extra_passed r k p = choose eqb r.point p then extra_kept r k else true

-- it holds an address that is `low` or later, with seconds to 59 and frames to 74
unfoldable pub climbs : Row → ℕ → Bool
climbs r low = leb r.psec 59 and leb r.pframe 74 and leb low (frames_of r)

-- and minutes to 99: an address of rule 6, where `low` is 00:02:00 or later itself
unfoldable pub holds : Row → ℕ → Bool
holds r low = leb r.pmin 99 and climbs r low
