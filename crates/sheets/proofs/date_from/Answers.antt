-- `sheets::date_from` meets its contract. Assumes nothing.
use Rattle.sheets.specs.Sheets.{date_from}
use borrow.Author.Tests.{eq-eqb, ne_eqb}
use Rattle.sheets.proofs.date_from.Goals.{
  else-year-eq0-via-then-year-eq0+then-month-eq0+else-day-eq0,
  else-year-eq0-via-then-year-eq0+else-month-eq0,
  else-year-eq0-via-else-year-eq0,
}
use Rattle.sheets.proofs.date_from.Goals as goal

pub returns-then-day-eq0 : goal.returns-then-day-eq0
unfolding date_from
returns-then-day-eq0 c = rw (eq-eqb _ 0 c.if-year-eq0.true, eq-eqb _ 0 c.if-month-eq0.true, eq-eqb _ 0 c.if-day-eq0.true)

pub returns : goal.returns
unfolding date_from
returns c =
    elim c.else-year-eq0.branch [
      | else-year-eq0-via-then-year-eq0+then-month-eq0+else-day-eq0 w ↦
          rw (eq-eqb _ 0 w.if-year-eq0.true, eq-eqb _ 0 w.if-month-eq0.true, ne_eqb _ 0 w.if-day-eq0.false)
      | else-year-eq0-via-then-year-eq0+else-month-eq0 w ↦ rw (eq-eqb _ 0 w.if-year-eq0.true, ne_eqb _ 0 w.if-month-eq0.false)
      | else-year-eq0-via-else-year-eq0 w ↦ rw (ne_eqb _ 0 w.if-year-eq0.false)
    ]
