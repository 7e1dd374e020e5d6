-- What the engines work with: what each gives where a fact bears on the day, what facts leave of years, months and days, what repeats,
-- and the count.
use Rattle.std.specs.Prelude.{ℕ, ◌+◌, ◌-◌, ◌*◌, ◌/◌, ◌%◌, min, max, Bool, true, cond, not, ◌&&◌, List, [], ◌∷◌, Option, Some, None, eqb}
use Rattle.std.specs.Prelude.{leb}
use Rattle.calendar.specs.Calendar.{sum, leap, year_length, month_length}
use Rattle.agreement.specs.Agreement.{said, none_said, agrees}
use Rattle.agreement.specs.Verdicts.{verdict_of, days_found}
use Rattle.agreement.specs.declared.Facts.{Facts}
use Rattle.agreement.specs.declared.Found.{Found}
use Rattle.agreement.specs.declared.Found.TheVariants.{Nothing, One, Two}
use Rattle.judge.specs.Engines.{plain_count, skipping_count}
use Rattle.judge.specs.declared.plain.Scan.{Scan}
use Rattle.judge.specs.declared.spans.Span.{Span}
use Rattle.kinds.specs.Kinds as kinds
use Rattle.std.specs.Prelude.{Err, Ok, Result}
use Rattle.judge.specs.Engines.{judged_by, over_by}
use Rattle.judge.specs.declared.Judged.{Judged}
use Rattle.judge.specs.declared.OverBudget.{OverBudget}

-- ---- what each engine gives where a fact bears on the day

abbrev pub scan : Found → ℕ → Scan
scan h n = record { found = h; examined = n }

unfoldable pub scanned : ℕ → Facts → Option Scan
scanned budget f = cond (leb (plain_count f) budget) (Some (scan (days_found f) (plain_count f))) None

unfoldable pub plainly : ℕ → Facts → Result Judged OverBudget
plainly budget f =
    let enough = Ok (judged_by (verdict_of (days_found f)) (plain_count f)) in
    cond (leb (plain_count f) budget) enough (Err (over_by budget))

unfoldable pub skipping_judged : Facts → Judged
skipping_judged f = judged_by (verdict_of (days_found f)) (skipping_count f)

-- ---- the kinds that a day's test takes last, and only where one of them was said

unfoldable pub iso_kinds : List ℕ
iso_kinds = kinds.iso_year ∷ kinds.iso_year_in_century ∷ kinds.iso_week ∷ []

-- ---- spans of numbers

abbrev pub span : ℕ → ℕ → Span
span a b = record { first = a; last = b }

-- what is left of a span where something was said: the numbers from a to b
unfoldable pub narrowed : Span → ℕ → ℕ → ℕ → Span
narrowed x s a b = cond (eqb s 0) x (span (max x.first a) (min x.last b))

-- the number that was said, cut to a most
abbrev pub number_of : ℕ → ℕ → ℕ
number_of s most = min (s - 1) most

-- the years up to a horizon that agree with what was said of the year and of the century
unfoldable pub said_years : Facts → ℕ → Span
said_years f horizon =
    let y = number_of (said f kinds.year) 10000 in
    let c = number_of (said f kinds.century) 100 * 100 in
    narrowed (narrowed (span 1 horizon) (said f kinds.year) y y) (said f kinds.century) c (c + 99)

-- those of them that can agree with what was said of the ISO year
unfoldable pub year_span : Facts → ℕ → Span
year_span f horizon =
    let g = number_of (said f kinds.iso_year) 20000 in
    narrowed (said_years f horizon) (said f kinds.iso_year) (max g 1 - 1) (g + 1)

-- from a year to the next with the same year in the century, where one was said
unfoldable pub year_step : Facts → ℕ
year_step f = cond (eqb (said f kinds.year_in_century) 0) 1 100

unfoldable pub first_year : Facts → ℕ → ℕ
first_year f first =
    let s = said f kinds.year_in_century in
    cond (eqb s 0) first (first + ((s - 1) % 100 + 100 - first % 100) % 100)

-- how many years the year after y lies past the last that ends in what was said
abbrev pub iso_back : ℕ → ℕ → ℕ
iso_back s y = (y + 101 - (s - 1) % 100) % 100

-- the ISO year of a day of year y is y, or the one before or after it
unfoldable pub iso_can : Facts → ℕ → Bool
iso_can f y =
    let s = said f kinds.iso_year_in_century in
    cond (eqb s 0) true (leb (iso_back s y) 2)

unfoldable pub month_span : Facts → ℕ → Span
month_span f y =
    let m = number_of (said f kinds.month) 13 in
    cond (iso_can f y) (narrowed (span 1 12) (said f kinds.month) m m) (span 1 0)

-- the days of a year by their day numbers, of which `before` stand before the year, by what was said of its day, of %U and of %W
unfoldable pub year_days : Facts → ℕ → ℕ → Span
year_days f before length =
    let j = before + number_of (said f kinds.day_of_year) 400 in
    let u = (before / 7 + number_of (said f kinds.sunday_week) 60) * 7 in
    let w = ((before + 6) / 7 + number_of (said f kinds.monday_week) 60) * 7 in
    narrowed (narrowed (narrowed (span (before + 1) (before + length)) (said f kinds.day_of_year) j j) (said f kinds.sunday_week) u (u + 6))
    (said f kinds.monday_week) (max w 6 - 6) w

-- how many days stand before month m
abbrev pub month_start : ℕ → ℕ → ℕ → ℕ
month_start before y m = before + sum (month_length y) (m - 1)

-- the days of a month among those of a span, by what was said of the day
unfoldable pub month_day_span : Facts → Span → ℕ → ℕ → Span
month_day_span f x start length =
    let d = start + number_of (said f kinds.day) 40 in
    narrowed (span (max x.first (start + 1)) (min x.last (start + length))) (said f kinds.day) d d

-- ---- the whole date

-- year, month and day were said
unfoldable pub date_said : Facts → Bool
date_said f = not (eqb (said f kinds.year) 0) && (not (eqb (said f kinds.month) 0) && not (eqb (said f kinds.day) 0))

-- ---- what repeats

-- something was said that names years
unfoldable pub named : Facts → Bool
named f = not (none_said f (kinds.year ∷ kinds.century ∷ kinds.iso_year ∷ []))

-- the days after which all else repeats: those of 400 years, whole weeks
abbrev pub cycle : ℕ
cycle = 146097

-- the first day that was found, 0 for none
unfoldable pub first_of : Found → ℕ
first_of Nothing = 0
first_of (One a) = a
first_of (Two a b) = a

-- what is found in all years, from what is found in the first cycle
unfoldable pub repeated_found : Found → Found
repeated_found Nothing = Nothing
repeated_found (One a) = Two a (a + cycle)
repeated_found (Two a b) = Two a b

-- ---- the count

-- the sum of h over those of the numbers 1 to n that pass a test, and how many do
abbrev pub sum_where : (ℕ → Bool) → (ℕ → ℕ) → ℕ → ℕ
sum_where p h n = sum (λ i. cond (p i) (h i) 0) n

abbrev pub count_where : (ℕ → Bool) → ℕ → ℕ
count_where p n = sum_where p (λ i. 1) n

-- the days of year y in the month that was said, all of them where none was
unfoldable pub said_days : ℕ → ℕ → ℕ
said_days s y = cond (eqb s 0) (year_length y) (month_length y (s - 1))

-- of the years 1 to n, those that end in what was said, and the leap ones among them
unfoldable pub ending_years : ℕ → ℕ → ℕ
ending_years s n = count_where (λ y. agrees s (y % 100)) n

unfoldable pub leap_ending_years : ℕ → ℕ → ℕ
leap_ending_years s n = count_where (λ y. agrees s (y % 100) && leap y) n

-- their days in the month that was said
unfoldable pub ending_days : Facts → ℕ → ℕ
ending_days f n = sum_where (λ y. agrees (said f kinds.year_in_century) (y % 100)) (said_days (said f kinds.month)) n

-- a year agrees with all that was said of kinds 1 to 3
unfoldable pub year_agrees : Facts → ℕ → Bool
year_agrees f y =
    agrees (said f kinds.year) y && (agrees (said f kinds.century) (y / 100) && agrees (said f kinds.year_in_century) (y % 100))

-- the days of the years 1 to n in months that agree
unfoldable pub whole_years : Facts → ℕ → ℕ
whole_years f n = sum_where (year_agrees f) (said_days (said f kinds.month)) n

-- the days of year y in such months, through day d of month m
unfoldable pub in_year : ℕ → ℕ → ℕ → ℕ → ℕ
in_year s y m d = sum_where (agrees s) (month_length y) (m - 1) + cond (agrees s m) d 0
