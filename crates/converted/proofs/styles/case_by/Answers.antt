-- `converted::styles::case_by` meets its contract: the definition makes the same test.
use borrow.Author.Tests.{eq-eqb, ne_eqb}
use Rattle.converted.specs.Converted.{case_by}
use Rattle.converted.proofs.styles.case_by.Goals as goal

pub returns-then-flag-eq94 : goal.returns-then-flag-eq94
unfolding case_by
returns-then-flag-eq94 c = rw (eq-eqb _ 94 c.if-flag-eq94.true)

pub returns : goal.returns
unfolding case_by
returns c = rw (ne_eqb _ 94 c.if-flag-eq94.false)
