-- `shelf::totals::of_fit` meets its contract: what the disc tells and what is held are what a fit table adds (`fit_adds`).
use native.Mathlib.Omega.{arith}
use Rattle.disc.specs.RulesLaws.{is_fit_true}
use Rattle.shelf.specs.TotalsLaws.{fit_adds}
use Rattle.shelf.proofs.totals.of_fit.Goals as goal

pub held_by-h-requires : goal.held_by-h-requires
held_by-h-requires c = is_fit_true c.requires.0

pub overflow_sub-result : goal.overflow_sub-result
overflow_sub-result c =
    let a = fit_adds _ c.requires.0 c.requires.1 c.held_by-h.ensures in
    let o = a.order in
    let l = c.wide.ensures.same in
    let f = c.wide-2.ensures.same in
    omega arith

pub overflow_sub-result-2 : goal.overflow_sub-result-2
overflow_sub-result-2 c = (fit_adds _ c.requires.0 c.requires.1 c.held_by-h.ensures).data_most

pub overflow_sub-result-3 : goal.overflow_sub-result-3
overflow_sub-result-3 c = (fit_adds _ c.requires.0 c.requires.1 c.held_by-h.ensures).none_most

pub returns : goal.returns
returns c =
    rw (c.nothing.ensures, c.wide.ensures.same, c.wide-2.ensures.same)
    (fit_adds _ c.requires.0 c.requires.1 c.held_by-h.ensures).same
