-- `converted::measuring::places_by` meets its contract: the definition makes the same test.
use borrow.Author.Tests.{eq-eqb, ne_eqb}
use Rattle.converted.specs.Converted.{places_by}
use Rattle.converted.proofs.measuring.places_by.Goals as goal

pub returns-then-style-eq45 : goal.returns-then-style-eq45
unfolding places_by
returns-then-style-eq45 c = rw (eq-eqb _ 45 c.if-style-eq45.true)

pub returns : goal.returns
unfolding places_by
returns c = rw (ne_eqb _ 45 c.if-style-eq45.false) c.max.ensures
