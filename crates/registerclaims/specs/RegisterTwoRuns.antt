-- No access but one that completes a packet with nothing pending looks at the lent table, so up to such a one two runs agree.
use Rattle.std.specs.Prelude.{Bool, true}
use mathlib.Core.List.{List}
use Rattle.claims.specs.Call as drives
use Rattle.claims.specs.Call.{is_attending, is_cause, is_packet}
use Rattle.registerclaims.specs.RegisterCall.{have_packet}

-- ---- an access that is not free does not look at the table

abbrev pub any_packet : List drives.Call → Bool
any_packet = have_packet (λ p. true)
