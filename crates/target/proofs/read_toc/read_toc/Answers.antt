-- `target::read_toc::read_toc` meets its contract: the field checks decide, and what they let pass is laid, cut to the allocation length.
use mathlib.Core.Path.{◌≡◌, sym, ap, ◌∙◌}
use native.Mathlib.Omega.{arith}
use Rattle.ground.specs.Memory.{rest_all}
use Rattle.disc.specs.declared.disc.Disc.{Disc}
use Rattle.table.specs.Layout.{descriptors}
use Rattle.disc.specs.Disc.{disc_of}
use Rattle.toc.specs.declared.answer.TocAsk.{TocAsk}
use Rattle.toc.specs.Answer.{toc_bad}
use Rattle.toc.specs.AnswerLaws.{toc_bytes-within}
use Rattle.target.specs.ReadToc.{format_in, msf_in, number_in}
use Rattle.target.specs.PerformLaws.{performed-bad, performed-answer, read_off-length}
use borrow.Author.Rules.{rules}
use Rattle.target.proofs.read_toc.read_toc.Goals as goal
use Rattle.target.proofs.read_toc.read_toc.Goals.{After-toc_bad}

-- what the field checks say
told :
    (c : After-toc_bad)
    → c.toc_bad.result ≡ toc_bad (disc_of c.args.t.now) (format_in c.args.p.now) (number_in c.args.p.now)
told c =
    let x = c.args in
    c.toc_bad.ensures
    ∙ ap (λ (a : TocAsk). toc_bad x.disc a.format a.number) c.toc_ask-ask.ensures
    ∙ ap (λ (d : Disc). toc_bad d (format_in x.p.now) (number_in x.p.now)) c.requires.0.same

pub returns-then-toc_bad : goal.returns-then-toc_bad
returns-then-toc_bad c = performed-bad _ _ _ _ (sym (told (goal.at.returns-then-toc_bad c).After-toc_bad) ∙ c.if-toc_bad.true)

pub slice_bounds-put_toc-start : goal.slice_bounds-put_toc-start
slice_bounds-put_toc-start c = let h = c.requires.0.fits.head in search rules

pub returns : goal.returns
returns c = let x = c.args in
    let q = c.requires in
    let w = toc_bytes-within (disc_of x.t.now) (format_in x.p.now) (msf_in x.p.now) (number_in x.p.now) (descriptors x.t.now) (read_off-length q.0) in
    rw c.went_with.ensures (performed-answer _ _ _ (sym (told (goal.at.returns c).After-toc_bad) ∙ c.if-toc_bad.false) (let b = q.1 in omega arith)
    (rw (c.toc_ask-ask.ensures, c.word16.ensures, q.0.same, rest_all 4 x.t.now) at c.put_toc-len.ensures))
