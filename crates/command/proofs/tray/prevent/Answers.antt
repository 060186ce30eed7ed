-- `command::tray::prevent` meets its contract: the lock that is set is the byte's bit 0.
use mathlib.Core.Path.{ap, ◌∙◌}
use Rattle.deck.specs.declared.Deck.{Deck}
use Rattle.deck.specs.Deck.{with_lock}
use Rattle.command.specs.Done.{done, done_of}
use Rattle.command.proofs.tray.prevent.Goals as goal

pub returns : goal.returns
returns c = let l = c.with_lock.ensures ∙ ap (with_lock c.args.m) c.bit.ensures in
    c.done_with.ensures ∙ ap (λ (k : Deck). done_of (done k)) l
