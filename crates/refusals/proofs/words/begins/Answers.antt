-- `refusals::words::begins` meets its contract. Assumes nothing.
use borrow.Author.Tests.{eq-eqb, ne_eqb}
use Rattle.matching.specs.Extents.{nowhere}
use Rattle.refusals.specs.Words.{begins}
use Rattle.refusals.proofs.words.begins.Goals as goal

pub returns-then-extent-offset : goal.returns-then-extent-offset
unfolding begins nowhere
returns-then-extent-offset c = rw (eq-eqb _ _ c.if-extent-offset.true)

pub returns-else-extent-offset : goal.returns-else-extent-offset
unfolding begins nowhere
returns-else-extent-offset c = rw (ne_eqb _ _ c.if-extent-offset.false)
