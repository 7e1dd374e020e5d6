-- `refusals::marks::covers` meets its contract. Assumes nothing.
use borrow.Author.Tests.{le-leb, lt-leb}
use Rattle.refusals.specs.Marks.{covers}
use Rattle.refusals.proofs.marks.covers.Goals as goal

pub returns-then-extent-offset : goal.returns-then-extent-offset
unfolding covers
returns-then-extent-offset c = rw (le-leb _ _ c.if-extent-offset.true)

pub returns-else-extent-offset : goal.returns-else-extent-offset
unfolding covers
returns-else-extent-offset c = rw (lt-leb _ _ c.if-extent-offset.false)
