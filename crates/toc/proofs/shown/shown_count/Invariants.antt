-- `toc::shown::shown_count` meets its contract: after j descriptors it has counted those of them that are shown.
use mathlib.Core.Path.{◌≡◌}
use Rattle.toc.specs.ShownLaws.{shown_count}
use Rattle.toc.proofs.shown.shown_count.Given as goal

abbrev pub invariant-loop-j : goal.invariant-loop-j
invariant-loop-j l = l.k ≡ shown_count l.n l.d l.j
