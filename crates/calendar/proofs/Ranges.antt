-- The ranges of what is read off a valid date: day of the year, weekday, weeks, ISO year and week.
-- Assumes nothing.
use Prim.Native.Nat.{ℕ, ◌+◌, ◌≤◌, ◌<◌}
use native.Mathlib.Omega.{arith}
use Rattle.calendar.specs.Calendar.{last_year, day_of_year, days_before, days, weekday, count_of, thursday, iso_year, iso_week}
use Rattle.calendar.proofs.Dates.{Valid, within_year, parts}
use Rattle.calendar.proofs.Months.{year_length_most}
use Rattle.calendar.proofs.Weeks.{count_is, iso_week_is}
use Rattle.calendar.proofs.Years.{days_is, year_located}

-- %j
pub day_of_year_range : (y m d : ℕ) → Valid y m d → (1 ≤ day_of_year y m d) × (day_of_year y m d ≤ 366)
day_of_year_range y m d v = let w = within_year y m d v in (w.0, omega (arith, w.1, year_length_most y))

-- %u, of any number
pub weekday_range : (k : ℕ) → (1 ≤ weekday k) × (weekday k ≤ 7)
weekday_range k = (omega arith, omega arith)

-- %U and %W: a weekday comes at most 53 times in a year
pub week_most : (w y m d : ℕ) → 0 < w → w ≤ 7 → Valid y m d → count_of w y (day_of_year y m d) ≤ 53
week_most w y m d p q v = omega (arith, count_is w y (day_of_year y m d) p q, day_of_year_range y m d v)

-- the Thursday of a day's week is a day of the calendar too: day 1 is a Monday, and the last day a Friday
pub thursday_within : (k : ℕ) → 0 < k → k ≤ days → (0 < thursday k) × (thursday k ≤ days)
unfolding thursday
thursday_within k p h = (omega arith, omega (arith, days_is))

-- %G
pub iso_year_range : (k : ℕ) → 0 < k → k ≤ days → (1 ≤ iso_year k) × (iso_year k ≤ last_year)
unfolding iso_year
iso_year_range k p h =
    let t = thursday_within k p h in
    (omega (arith, (year_located (thursday k) t.0).1), (parts (thursday k) t.0 t.1).year_high)

-- %V
pub iso_week_range : (k : ℕ) → 0 < k → k ≤ days → (1 ≤ iso_week k) × (iso_week k ≤ 53)
unfolding iso_year thursday
iso_week_range k p h =
    let t = thursday_within k p h in
    let b = parts (thursday k) t.0 t.1 in
    let n : thursday k ≤ days_before (iso_year k) + 366 = omega (arith, b.end, year_length_most (iso_year k)) in
    (omega (arith, iso_week_is k, b.start), omega (arith, iso_week_is k, n))
