-- `judge::spans::month_start` meets its contract. Assumes nothing.
use Prim.Native.Nat.{◌+◌, ◌-◌}
use mathlib.Core.Path.{◌≡◌, ap, ◌∙◌}
use native.Mathlib.Omega.{arith}
use Rattle.calendar.specs.Calendar.{sum, month_length, day_of_year}
use Rattle.calendar.specs.declared.Date.{Date}
use Rattle.calendar.proofs.Months.{months_small}
use Rattle.judge.proofs.spans.month_start.Goals as goal
use Rattle.judge.proofs.spans.month_start.Goals.{After-day_of_year}

-- the first of the month comes after all months before it
first_of : (c : After-day_of_year)
    → c.day_of_year.result ≡ sum (month_length c.args.year) (c.args.month - 1) + 1
unfolding day_of_year
first_of c = c.day_of_year.ensures ∙ ap (λ (t : Date). day_of_year t.year t.month t.day) c.date_at.ensures

pub overflow_sub-result : goal.overflow_sub-result
overflow_sub-result c = omega (arith, first_of c)

pub overflow_add-result : goal.overflow_add-result
overflow_add-result c = omega (arith, first_of c, months_small c.args.year (c.args.month - 1))

pub returns : goal.returns
returns c = omega (arith, first_of c)
