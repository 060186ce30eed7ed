-- `sessions::session::one_at` meets its contract: the byte tested is the POINT of a descriptor that begins there.
use Rattle.std.proofs.Common.{◌∙◌, get_or-drop}
use Rattle.sessions.specs.SessionLaws.{one-counts}
use Rattle.sessions.proofs.session.one_at.Goals as goal

pub returns-clause-same : goal.returns-clause-same
returns-clause-same c =
    rw get_or-drop
    (c.from.ensures ∙ rw (c.byte_at.ensures.same, c.wide.ensures.same) (one-counts _ _))
