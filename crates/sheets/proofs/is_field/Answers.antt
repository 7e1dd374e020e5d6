-- `sheets::is_field` meets its contract. Assumes nothing.
use Rattle.sheets.specs.Private.{is_field}
use borrow.Author.Tests.{eq-eqb, ne_eqb, lt-leb, le-leb}
use Rattle.sheets.proofs.is_field.Goals as goal

pub returns-then-field-eq0 : goal.returns-then-field-eq0
unfolding is_field
returns-then-field-eq0 c = rw (eq-eqb _ 0 c.if-field-eq0.true)

pub returns-then-size-field : goal.returns-then-size-field
unfolding is_field
returns-then-size-field c = rw (ne_eqb _ 0 c.if-field-eq0.false, le-leb _ _ c.if-size-field.true)

pub returns-else-size-field : goal.returns-else-size-field
unfolding is_field
returns-else-size-field c = rw (ne_eqb _ 0 c.if-field-eq0.false, lt-leb _ _ c.if-size-field.false)
