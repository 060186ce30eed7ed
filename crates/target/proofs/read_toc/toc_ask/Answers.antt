-- `target::read_toc::toc_ask` meets its contract: each field is the packet's byte.
use Rattle.target.proofs.read_toc.toc_ask.Goals as goal

pub returns : goal.returns
returns c = rw (c.wide.ensures.same, c.bit.ensures)
