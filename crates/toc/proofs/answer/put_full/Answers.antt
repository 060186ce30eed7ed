-- `toc::answer::put_full` meets its contract: each format's writer lays that format's bytes.
use borrow.Author.Rules.{rules}
use Rattle.toc.specs.AnswerLaws.{toc_bytes_0, toc_bytes_1, toc_bytes_2}
use Rattle.toc.proofs.answer.put_full.Goals as goal

pub returns-in-0 : goal.returns-in-0
returns-in-0 c = rw (toc_bytes_0 _ _ _ _ _ c.in-0.is) c.put_format0.ensures

pub returns-in-1 : goal.returns-in-1
returns-in-1 c = rw (toc_bytes_1 _ _ _ _ c.args.d.now c.in-1.is) c.put_format1.ensures

pub returns-in_default : goal.returns-in_default
returns-in_default c = let x = c.args in
    rw (toc_bytes_2 x.disc x.ask.format x.ask.msf x.ask.number x.d.now (search rules) (search rules)) c.put_format2.ensures
