-- `refusals::words::begins_from` meets its contract. Assumes nothing.
use borrow.Author.Tests.{le-leb, lt-leb}
use Rattle.refusals.specs.Words.{begins_from}
use Rattle.refusals.proofs.words.begins_from.Goals as goal

pub returns-then-offset-extent : goal.returns-then-offset-extent
unfolding begins_from
returns-then-offset-extent c = rw (le-leb _ _ c.if-offset-extent.true)

pub returns-else-offset-extent : goal.returns-else-offset-extent
unfolding begins_from
returns-else-offset-extent c = rw (lt-leb _ _ c.if-offset-extent.false)
