-- `refusals::sentences::put_mismatch` meets its contract. Assumes nothing.
use borrow.Author.Tests.{lt-ltb, le-ltb}
use Rattle.laws.specs.Bytes.{bytes}
use Rattle.refusals.specs.Sentences.{mismatch}
use Rattle.refusals.proofs.sentences.put_mismatch.Goals as goal

pub returns-then-place-text : goal.returns-then-place-text
unfolding mismatch bytes
returns-then-place-text c = rw (lt-ltb _ _ c.if-place-text.true) c.bytes.ensures

pub returns-else-place-text : goal.returns-else-place-text
unfolding mismatch bytes
returns-else-place-text c = rw (le-ltb _ _ c.if-place-text.false) c.bytes-else-place-text.ensures
