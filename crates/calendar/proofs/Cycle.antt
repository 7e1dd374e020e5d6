-- What repeats after 400 years, and after their 146,097 days, which are whole weeks.
-- Assumes nothing.
use Prim.Native.Nat.{ℕ, suc, ◌+◌, ◌-◌, ◌*◌, ◌/◌, ◌%◌, ◌≤◌, ◌<◌}
use mathlib.Core.Bool.{Bool, cond, ◌&&◌}
use mathlib.Core.Path.{◌≡◌, sym, ap, ◌∙◌}
use native.Mathlib.Omega.{arith}
use lib.Dec.{eqb}
use lib.ListN.{get_or}
use Rattle.calendar.specs.Calendar.{date, sum, leap, year_length, month_lengths, month_length, day_of_year, days_before, day_number}
use Rattle.calendar.specs.Calendar.{year_of, month_of, date_in, date_of, count_of, thursday, iso_year, iso_week}
use Rattle.calendar.proofs.Weeks.{count_is, iso_week_is}
use Rattle.calendar.proofs.Years.{years_closed, year_is, year_located, year_starts}

-- ---- years and months

pub leap_again : (y : ℕ) → leap (y + 400) ≡ leap y
leap_again y =
    let four : (y + 400) % 4 ≡ y % 4 = omega arith in
    let hundred : (y + 400) % 100 ≡ y % 100 = omega arith in
    let all : (y + 400) % 400 ≡ y % 400 = omega arith in
    rw (four, hundred, all)

-- all months at once
pub months_again : (y : ℕ) → month_length (y + 400) ≡ month_length y
unfolding month_length
months_again y =
    let lengths : Bool → ℕ → ℕ = λ b m. cond (eqb m 2 && b) 29 (get_or month_lengths m 0) in
    ap lengths (leap_again y)

pub years_again : (p : ℕ) → sum year_length (p + 400) ≡ sum year_length p + 146097
years_again p =
    let four : (p + 400) / 4 ≡ p / 4 + 100 = omega arith in
    let hundred : (p + 400) / 100 ≡ p / 100 + 4 = omega arith in
    let all : (p + 400) / 400 ≡ p / 400 + 1 = omega arith in
    sums (p / 4) (p / 100) (p / 400) (sum year_length p) (sum year_length (p + 400)) (years_closed p)
    (rw (four, hundred, all) at (years_closed (p + 400)))
  where
    sums : (a b c s t : ℕ) → s + b ≡ 365 * p + a + c → t + (b + 4) ≡ 365 * (p + 400) + (a + 100) + (c + 1) → t ≡ s + 146097
    sums a b c s t e g = omega arith

-- the first 400 years
pub cycle_days : sum year_length 400 ≡ 146097
cycle_days = omega (arith, years_closed 400)

pub days_before_again : (y : ℕ) → 0 < y → days_before (y + 400) ≡ days_before y + 146097
unfolding days_before
days_before_again y h = let e : y + 400 - 1 ≡ y - 1 + 400 = omega arith in rw e (years_again (y - 1))

-- ---- a date and the one of the same day 400 years later

pub day_of_year_again : (y m d : ℕ) → day_of_year (y + 400) m d ≡ day_of_year y m d
unfolding day_of_year
day_of_year_again y m d = ap (λ (f : ℕ → ℕ). sum f (m - 1) + d) (months_again y)

pub day_number_again : (y m d : ℕ) → 0 < y → day_number (y + 400) m d ≡ day_number y m d + 146097
unfolding day_number
day_number_again y m d h = omega (arith, days_before_again y h, day_of_year_again y m d)

pub count_again : (w y n : ℕ) → 0 < w → w ≤ 7 → 0 < y → count_of w (y + 400) n ≡ count_of w y n
count_again w y n p q h = omega (arith, count_is w y n p q, count_is w (y + 400) n p q, days_before_again y h)

-- ---- a day and the one 146,097 days later

pub year_again : (k : ℕ) → 0 < k → year_of (k + 146097) ≡ year_of k + 400
year_again k h =
    let l = year_located k h in
    let p = l.0.past in
    let one : suc (p + 400) ≡ suc p + 400 = omega arith in
    year_is (p + 400) (k + 146097)
    (omega (arith, years_again p, l.0.after))
    (omega (arith, ap (sum year_length) one, years_again (suc p), l.0.upto))
    ∙ one ∙ sym (ap (λ (y : ℕ). y + 400) l.1)

pub month_again : (y n : ℕ) → month_of (y + 400) n ≡ month_of y n
unfolding month_of
month_again y n = rw (months_again y)

year_low : (k : ℕ) → 0 < k → 0 < year_of k
year_low k h = omega (arith, (year_located k h).1)

pub date_again : (k : ℕ) → 0 < k → date_of (k + 146097) ≡ date ((date_of k).year + 400) (date_of k).month (date_of k).day
unfolding date_of date_in
date_again k h =
    let y = year_of k in
    let left : k + 146097 - days_before (y + 400) ≡ k - days_before y = omega (arith, days_before_again y (year_low k h)) in
    rw (year_again k h, left, month_again y (k - days_before y), months_again y)

-- the date of any day but 0 has its year and its day number past 0
pub date_year_low : (k : ℕ) → 0 < k → 0 < (date_of k).year
unfolding date_of date_in
date_year_low k h = year_low k h

pub date_number_low : (k : ℕ) → 0 < k → 0 < day_number (date_of k).year (date_of k).month (date_of k).day
unfolding date_of date_in day_number day_of_year
date_number_low k h = omega (arith, year_starts k)

thursday_low : (k : ℕ) → 0 < k → 0 < thursday k
unfolding thursday
thursday_low k h = omega arith

pub thursday_again : (k : ℕ) → 0 < k → thursday (k + 146097) ≡ thursday k + 146097
unfolding thursday
thursday_again k h = omega arith

pub iso_year_again : (k : ℕ) → 0 < k → iso_year (k + 146097) ≡ iso_year k + 400
unfolding iso_year
iso_year_again k h = ap year_of (thursday_again k h) ∙ year_again (thursday k) (thursday_low k h)

pub iso_week_again : (k : ℕ) → 0 < k → iso_week (k + 146097) ≡ iso_week k
iso_week_again k h =
    let before : days_before (iso_year (k + 146097)) ≡ days_before (iso_year k) + 146097
    = ap days_before (iso_year_again k h) ∙ days_before_again (iso_year k) (unfold iso_year in year_low (thursday k) (thursday_low k h)) in
    omega (arith, iso_week_is k, iso_week_is (k + 146097), thursday_again k h)
