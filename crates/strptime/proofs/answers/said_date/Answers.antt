-- `strptime::answers::said_date` meets its contract. Assumes nothing.
use Prim.Native.Nat.{◌≤◌, ◌<◌}
use mathlib.Core.Path.{◌≡◌}
use native.Mathlib.Omega.{arith}
use Rattle.calendar.specs.Calendar.{days}
use Rattle.agreement.specs.Agreement.{said}
use Rattle.agreement.specs.Demand.{DayAgrees}
use Rattle.agreement.specs.declared.Facts.{Facts}
use Rattle.kinds.specs.Kinds as kinds
use Rattle.strptime.proofs.Days.{year_said, month_said, day_said, as_said}
use Rattle.strptime.proofs.answers.said_date.Goals as goal
use Rattle.strptime.proofs.answers.said_date.Goals.{Else-day-eq0}

-- year, month and day were said
module _ (c : Else-day-eq0) where
  abbrev f : Facts
  f = c.args.facts

  day : (0 < c.args.number) × (c.args.number ≤ days)
  day = c.requires.number_nonzero

  agrees-with : DayAgrees f c.args.number
  agrees-with = c.requires.day_agrees

  some_year : said f kinds.year ≡ 0 → ⊥
  some_year = c.if-year-eq0.false

  some_month : said f kinds.month ≡ 0 → ⊥
  some_month = c.if-month-eq0.false

  some_day : said f kinds.day ≡ 0 → ⊥
  some_day = c.if-day-eq0.false

pub overflow_cast-result : goal.overflow_cast-result
overflow_cast-result c = omega (arith, (year_said (f c) c.args.number (day c).0 (day c).1 (agrees-with c) (some_year c)).1)

pub overflow_sub-result-2 : goal.overflow_sub-result-2
overflow_sub-result-2 c = omega (arith, some_month c)

pub overflow_cast-result-2 : goal.overflow_cast-result-2
overflow_cast-result-2 c = omega (arith, (month_said (f c) c.args.number (day c).0 (day c).1 (agrees-with c) (some_month c)).1)

pub overflow_sub-result-3 : goal.overflow_sub-result-3
overflow_sub-result-3 c = omega (arith, some_day c)

pub overflow_cast-result-3 : goal.overflow_cast-result-3
overflow_cast-result-3 c = omega (arith, (day_said (f c) c.args.number (day c).0 (day c).1 (agrees-with c) (some_day c)).1)

pub returns : goal.returns
returns c = as_said (f c) c.args.number (day c).0 (day c).1 (agrees-with c) (some_year c) (some_month c) (some_day c)
