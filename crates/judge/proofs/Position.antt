-- Where the day search stands: at a year, at a month of it, at a day of that. Each move of its loops, over plain numbers.
-- Assumes nothing.
use Prim.Native.Nat.{ℕ, ◌+◌, ◌-◌, ◌≤◌, ◌<◌}
use mathlib.Core.Bool.{Bool, true, false, cond}
use mathlib.Core.Path.{◌≡◌, refl}
use native.Mathlib.Omega.{arith}
use Rattle.calendar.specs.Calendar.{sum, month_length, days_before, day_of_year, day_number, days}
use Rattle.agreement.specs.Search.{hit, first_two}
use Rattle.agreement.specs.declared.Found.{Found}
use Rattle.agreement.specs.declared.Found.TheVariants.{Nothing}
use Rattle.calendar.proofs.Dates.{Valid, number_within}
use Rattle.calendar.proofs.Months.{year_months}
use Rattle.calendar.proofs.Sum.{sum_last}
use Rattle.calendar.proofs.Years.{days_before_next}
use Rattle.agreement.proofs.SoFar.{SoFar, so_far_none, so_far_next, so_far_end}

-- at the start of a year
pub record AtYear (p : ℕ → Bool) (year number : ℕ) (found : Found) : Type 0 where
  pub year_low : 0 < year
  pub year_high : year ≤ 10000
  pub at : number ≡ days_before year + 1
  pub so_far : SoFar p 1 days number found

-- at the start of a month
pub record AtMonth (p : ℕ → Bool) (year month number : ℕ) (found : Found) : Type 0 where
  pub year_low : 0 < year
  pub year_high : year ≤ 9999
  pub month_low : 0 < month
  pub month_high : month ≤ 13
  pub at : number ≡ days_before year + sum (month_length year) (month - 1) + 1
  pub so_far : SoFar p 1 days number found

-- at a day
pub record AtDay (p : ℕ → Bool) (year month day number : ℕ) (found : Found) : Type 0 where
  pub year_low : 0 < year
  pub year_high : year ≤ 9999
  pub month_low : 0 < month
  pub month_high : month ≤ 12
  pub day_low : 0 < day
  pub day_high : day ≤ month_length year month + 1
  pub at : number ≡ day_number year month day
  pub so_far : SoFar p 1 days number found

module _ (p : ℕ → Bool) where
  pub first_year_lem : AtYear p 1 1 Nothing
  unfolding days_before sum
  first_year_lem = record { year_low = omega arith; year_high = omega arith; at = refl; so_far = so_far_none p 1 days }

  pub first_month : (y k : ℕ) (h : Found) → AtYear p y k h → y ≤ 9999 → AtMonth p y 1 k h
  unfolding sum
  first_month y k h a l =
      record {
        year_low = a.year_low;
        year_high = l;
        month_low = omega arith;
        month_high = omega arith;
        at = omega (arith, a.at);
        so_far = a.so_far;
      }

  pub first_day : (y m k : ℕ) (h : Found) → AtMonth p y m k h → m ≤ 12 → AtDay p y m 1 k h
  unfolding day_number day_of_year
  first_day y m k h a l =
      record {
        year_low = a.year_low;
        year_high = a.year_high;
        month_low = a.month_low;
        month_high = l;
        day_low = omega arith;
        day_high = omega arith;
        at = omega (arith, a.at);
        so_far = a.so_far;
      }

  pub valid_here : (y m d k : ℕ) (h : Found) → AtDay p y m d k h → d ≤ month_length y m → Valid y m d
  valid_here y m d k h a l =
      record {
        year_low = a.year_low;
        year_high = a.year_high;
        month_low = a.month_low;
        month_high = a.month_high;
        day_low = a.day_low;
        day_high = l;
      }

  next-day : (y m d k : ℕ) (h : Found) → AtDay p y m d k h → d ≤ month_length y m → AtDay p y m (d + 1) (k + 1) (cond (p k) (hit k h) h)
  unfolding day_number day_of_year
  next-day y m d k h a l =
      record {
        year_low = a.year_low;
        year_high = a.year_high;
        month_low = a.month_low;
        month_high = a.month_high;
        day_low = omega arith;
        day_high = omega arith;
        at = omega (arith, a.at);
        so_far = so_far_next p 1 days k h a.so_far (omega (arith, a.at, number_within y m d (valid_here y m d k h a l)));
      }

  pub next_day_hit : (y m d k : ℕ) (h : Found) → AtDay p y m d k h → d ≤ month_length y m → p k ≡ true
      → AtDay p y m (d + 1) (k + 1) (hit k h)
  next_day_hit y m d k h a l e = rw e at (next-day y m d k h a l)

  pub next_day_miss : (y m d k : ℕ) (h : Found) → AtDay p y m d k h → d ≤ month_length y m → p k ≡ false → AtDay p y m (d + 1) (k + 1) h
  next_day_miss y m d k h a l e = rw e at (next-day y m d k h a l)

  pub next_month : (y m d k : ℕ) (h : Found) → AtDay p y m d k h → month_length y m < d → AtMonth p y (m + 1) k h
  unfolding day_number day_of_year
  next_month y m d k h a l =
      let e : m + 1 - 1 ≡ m = omega arith in
      record {
        year_low = a.year_low;
        year_high = a.year_high;
        month_low = omega arith;
        month_high = omega (arith, a.month_high);
        at = rw e (omega (arith, a.at, sum_last (month_length y) m a.month_low));
        so_far = a.so_far;
      }

  pub next_year : (y m k : ℕ) (h : Found) → AtMonth p y m k h → 12 < m → AtYear p (y + 1) k h
  next_year y m k h a l =
      let e : m - 1 ≡ 12 = omega (arith, a.month_high) in
      record {
        year_low = omega arith;
        year_high = omega (arith, a.year_high);
        at = omega (arith, rw e at a.at, year_months y, days_before_next y a.year_low);
        so_far = a.so_far;
      }

  pub years_over : (y k : ℕ) (h : Found) → AtYear p y k h → 9999 < y → k ≡ days + 1
  unfolding days_before days
  years_over y k h a l =
      let e : y ≡ 10000 = omega (arith, a.year_high) in
      rw e at a.at

  pub no_more_years : (y k : ℕ) (h : Found) → AtYear p y k h → 9999 < y → h ≡ first_two p 1 days
  no_more_years y k h a l = so_far_end p 1 days k h a.so_far (omega (arith, years_over y k h a l))
