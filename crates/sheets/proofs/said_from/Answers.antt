-- `sheets::said_from` meets its contract. Assumes nothing.
use Rattle.sheets.specs.Sheets.{said_from}
use borrow.Author.Tests.{eq-eqb, ne_eqb}
use Rattle.sheets.proofs.said_from.Goals as goal

pub returns-then-flag-eq0 : goal.returns-then-flag-eq0
unfolding said_from
returns-then-flag-eq0 c = rw (eq-eqb _ 0 c.if-flag-eq0.true)

pub returns : goal.returns
unfolding said_from
returns c = rw (ne_eqb _ 0 c.if-flag-eq0.false)
