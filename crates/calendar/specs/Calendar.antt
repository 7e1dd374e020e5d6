-- The calendar (RULES 2): Gregorian in all its years, from 0001-01-01, day 1, a Monday, to 9999-12-31.
-- Days are counted by their day number, years and months from 1. Everything here is defined for all numbers; the rules speak of
-- valid dates.
use Rattle.std.specs.Prelude.{ℕ, zero, suc, ◌+◌, ◌-◌, ◌%◌, Bool, cond, not, ◌&&◌, ◌||◌, List, [], ◌∷◌, eqb, leb, get_or}
use Rattle.calendar.specs.declared.Date.{Date}

-- the date with these fields
abbrev pub date : ℕ → ℕ → ℕ → Date
date y m d = record { year = y; month = m; day = d }

-- f 1 + f 2 + .. + f n
unfoldable pub sum : (ℕ → ℕ) → ℕ → ℕ
sum f zero = 0
sum f (suc n) = sum f n + f (suc n)

-- 4 divides a leap year, and 100 does not unless 400 does
abbrev pub leap : ℕ → Bool
leap y = eqb (y % 4) 0 && (not (eqb (y % 100) 0) || eqb (y % 400) 0)

unfoldable pub year_length : ℕ → ℕ
year_length y = cond (leap y) 366 365

-- the lengths of months 1 to 12 in a year that is not leap; there is no month 0
unfoldable pub month_lengths : List ℕ
month_lengths = 0 ∷ 31 ∷ 28 ∷ 31 ∷ 30 ∷ 31 ∷ 30 ∷ 31 ∷ 31 ∷ 30 ∷ 31 ∷ 30 ∷ 31 ∷ []

unfoldable pub month_length : ℕ → ℕ → ℕ
month_length y m = cond (eqb m 2 && leap y) 29 (get_or month_lengths m 0)

-- a number lies from a to b, both included
abbrev pub within : ℕ → ℕ → ℕ → Bool
within a b n = leb a n && leb n b

-- the last year of the calendar; the first is 1
abbrev pub last_year : ℕ
last_year = 9999

-- the first bad field of a date: 1 year, 2 month, 3 day; 0 where the date is valid
unfoldable pub date_fault : ℕ → ℕ → ℕ → ℕ
date_fault y m d =
    cond (within 1 last_year y) (cond (within 1 12 m) (cond (within 1 (month_length y m) d) 0 3) 2) 1

unfoldable pub day_of_year : ℕ → ℕ → ℕ → ℕ
day_of_year y m d = sum (month_length y) (m - 1) + d

-- the lengths of all years before y
unfoldable pub days_before : ℕ → ℕ
days_before y = sum year_length (y - 1)

-- the day number of a date: the days of all earlier years, and its day of the year
unfoldable pub day_number : ℕ → ℕ → ℕ → ℕ
day_number y m d = days_before y + day_of_year y m d

-- how many days the calendar has
unfoldable pub days : ℕ
days = sum year_length last_year

-- the weekday of day k, Monday 1 to Sunday 7: day 1 is a Monday
abbrev pub weekday : ℕ → ℕ
weekday k = (k + 6) % 7 + 1

-- Counting off: r days from the start of period i, where period i has size i days, period i + 1 has size (i + 1), and so on.
-- The period that they end in; at most n periods are counted off.
unfoldable pub period_of : (ℕ → ℕ) → ℕ → ℕ → ℕ → ℕ
period_of size zero i r = i
period_of size (suc n) i r = let later = period_of size n (suc i) (r - size i) in cond (leb r (size i)) i later

-- the year that day k falls in: years are counted off from year 1
unfoldable pub year_of : ℕ → ℕ
year_of k = period_of year_length k 1 k

-- the month that day n of year y falls in: months are counted off from January
unfoldable pub month_of : ℕ → ℕ → ℕ
month_of y n = period_of (month_length y) 11 1 n

-- the date of day n of year y, and the date whose day number is k
unfoldable pub date_in : ℕ → ℕ → Date
date_in y n = date y (month_of y n) (n - sum (month_length y) (month_of y n - 1))

unfoldable pub date_of : ℕ → Date
date_of k = date_in (year_of k) (k - days_before (year_of k))

-- how many of the n days after day k fall on weekday w
unfoldable pub count_after : ℕ → ℕ → ℕ → ℕ
count_after w k n = sum (λ i. cond (eqb (weekday (k + i)) w) 1 0) n

-- how many of the first n days of year y fall on weekday w
unfoldable pub count_of : ℕ → ℕ → ℕ → ℕ
count_of w y n = let before = days_before y in count_after w before n

-- %U counts the Sundays of the year up to the date, the date included; %W the Mondays
unfoldable pub sunday_week : ℕ → ℕ → ℕ → ℕ
sunday_week y m d = count_of 7 y (day_of_year y m d)

unfoldable pub monday_week : ℕ → ℕ → ℕ → ℕ
monday_week y m d = count_of 1 y (day_of_year y m d)

-- the Thursday of the week, Monday to Sunday, of day k
unfoldable pub thursday : ℕ → ℕ
thursday k = k + 4 - weekday k

-- %G: the year of this Thursday
unfoldable pub iso_year : ℕ → ℕ
iso_year k = year_of (thursday k)

-- %V: its count among the Thursdays of that year
unfoldable pub iso_week : ℕ → ℕ
iso_week k = count_of 4 (iso_year k) (thursday k - days_before (iso_year k))

-- everything here, for proofs that compute
unfoldable pub computes : Unit {0}
unfolding sum year_length month_lengths month_length date_fault day_of_year days_before day_number days
    period_of year_of month_of date_in date_of count_after count_of sunday_week monday_week thursday iso_year iso_week
computes = tt
