-- `cue::sheet::with_track` meets its contract: the first track begins the span, a later one is its last.
use Rattle.std.proofs.Common.{Option, sym, ap}
use Rattle.cue.specs.declared.sheet.Span.{Span}
use Rattle.cue.specs.SpanLaws.{with_track}
use Rattle.cue.proofs.sheet.with_track.Goals as goal

pub returns-in-Some : goal.returns-in-Some
unfolding with_track
returns-in-Some c = rw c.is_next.ensures (ap (λ (p : Option Span). with_track p c.args.t) (sym c.in-Some.is))

pub returns-in-None : goal.returns-in-None
unfolding with_track
returns-in-None c = ap (λ (p : Option Span). with_track p c.args.t) (sym c.in-None.is)
