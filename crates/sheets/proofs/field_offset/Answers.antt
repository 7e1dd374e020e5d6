-- `sheets::field_offset` meets its contract. Assumes nothing.
use Rattle.sheets.specs.Sheets.{field_offset}
use native.Mathlib.Numerals.{add-one}
use borrow.Author.Tests.{eq-eqb, ne_eqb}
use Rattle.sheets.proofs.field_offset.Goals as goal

pub returns-then-flag-eq0 : goal.returns-then-flag-eq0
unfolding field_offset
returns-then-flag-eq0 c = rw (eq-eqb _ 0 c.if-flag-eq0.true)

pub returns : goal.returns
unfolding field_offset
returns c = rw (ne_eqb _ 0 c.if-flag-eq0.false, ← add-one) c.offset_of.ensures
