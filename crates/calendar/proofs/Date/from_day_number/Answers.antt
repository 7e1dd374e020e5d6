-- `calendar::Date::from_day_number` meets its contract. Assumes nothing.
use native.Mathlib.Omega.{arith}
use borrow.Author.Tests.{le-leb}
use Rattle.calendar.specs.Calendar.{days, date_of, date_in}
use Rattle.calendar.specs.Dates.{from_day_number}
use Rattle.calendar.proofs.Dates.{parts}
use Rattle.calendar.proofs.Years.{days_is}
use Rattle.calendar.proofs.Date.from_day_number.Goals as goal

pub returns-then-k-lt1 : goal.returns-then-k-lt1
unfolding from_day_number
returns-then-k-lt1 c = grind (arith, days_is, c.then-k-lt1.either)

pub days_before-requires : goal.days_before-requires
days_before-requires c =
    let p = parts c.args.k (omega arith) (omega (arith, days_is)) in
    omega (arith, c.year_of-year.ensures.0, p.year_high)

pub overflow_sub-n : goal.overflow_sub-n
overflow_sub-n c =
    let p = parts c.args.k (omega arith) (omega (arith, days_is)) in
    omega (arith, rw c.year_of-year.ensures.0 at c.days_before.ensures.0, p.start)

pub month_of-month-requires : goal.month_of-month-requires
month_of-month-requires c =
    let p = parts c.args.k (omega arith) (omega (arith, days_is)) in
    rw (c.days_before.ensures.0, c.year_of-year.ensures.0) (omega (arith, p.start), p.end)

pub overflow_cast-result : goal.overflow_cast-result
overflow_cast-result c =
    let p = parts c.args.k (omega arith) (omega (arith, days_is)) in
    omega (arith, c.year_of-year.ensures.0, p.year_high)

pub overflow_cast-result-2 : goal.overflow_cast-result-2
overflow_cast-result-2 c =
    let p = parts c.args.k (omega arith) (omega (arith, days_is)) in
    let d = c in
    omega (arith, rw (d.days_before.ensures.0, d.year_of-year.ensures.0) at c.month_of-month.ensures, p.month_high)

pub overflow_sub-result : goal.overflow_sub-result
overflow_sub-result c =
    let d = c in
    let p = parts d.args.k (omega arith) (omega (arith, days_is)) in
    rw (c.days_before_month.ensures, c.month_of-month.ensures, d.days_before.ensures.0, d.year_of-year.ensures.0)
    p.month_start_lem

pub overflow_cast-result-3 : goal.overflow_cast-result-3
overflow_cast-result-3 c =
    let d = c in
    let p = parts d.args.k (omega arith) (omega (arith, days_is)) in
    rw (c.days_before_month.ensures, c.month_of-month.ensures, d.days_before.ensures.0, d.year_of-year.ensures.0)
    (omega (arith, p.day_high))

pub returns : goal.returns
unfolding from_day_number date_of date_in
returns c =
    let d = c in
    let k = d.args.k in
    rw (le-leb 1 k (omega arith), le-leb k days (omega (arith, days_is)), c.days_before_month.ensures, c.month_of-month.ensures)
    (rw (d.days_before.ensures.0, d.year_of-year.ensures.0))
