-- `toc::answer::put_format2` meets its contract: the header and the descriptors from the session on are laid one after the other.
use Rattle.ground.specs.Memory.{laid_more}
use Rattle.toc.specs.AnswerLaws.{format2_laid}
use Rattle.toc.proofs.answer.put_format2.Goals as goal

pub returns : goal.returns
returns c = let x = c.args in
    let e = c.sessions_from-s.ensures in
    rw (format2_laid x.disc x.n x.d.now) (laid_more (rw e at c.put_head-at.ensures) (rw e at c.put_all-at.ensures))
