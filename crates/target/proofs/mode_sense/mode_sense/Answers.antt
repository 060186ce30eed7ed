-- `target::mode_sense::mode_sense` meets its contract: byte 2 decides, and the values that it asks for are laid, cut to the allocation length.
use mathlib.Core.Path.{sym, ap}
use Rattle.std.proofs.lemmas.Result.{err_from_is_err_and}
use Rattle.std.specs.Prelude.{Result}
use Rattle.page.specs.declared.Page.{Page}
use Rattle.gate.specs.declared.fault.Fault.{Fault}
use Rattle.command.specs.Command.{length_in}
use Rattle.mode.specs.ModeSense.{gives}
use Rattle.target.specs.PerformLaws.{performed-fails}
use Rattle.target.proofs.mode_sense.mode_sense.Goals as goal

pub returns-in_err-g : goal.returns-in_err-g
returns-in_err-g c = let x = c.args in
    let t = err_from_is_err_and c.from_residual.result c.from_residual.ensures.1 in
    rw (t.1, t.2)
    (performed-fails _ (ap (λ (s : Result Page Fault). gives s (length_in x.p.now) x.m) (sym c.in_err-g.ensures)))

pub returns : goal.returns
returns c =
    rw (sym c.in_ok-g.ensures) (rw (c.mode_bytes.ensures, c.word16.ensures) at c.answer.ensures)
