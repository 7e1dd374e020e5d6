-- Dates and day numbers are each other's inverse over the whole calendar, and day numbers follow the order of dates.
-- Assumes nothing.
use Prim.Native.Nat.{ℕ, zero, suc, ◌+◌, ◌-◌, ◌≤◌, ◌<◌}
use mathlib.Core.Bool.{Bool, true, false, cond, ◌&&◌, false≢true}
use mathlib.Core.Logic.{◌⊎◌, inl, inr, ⊎_elim}
use mathlib.Core.Path.{◌≡◌, refl, sym, ap, ap₂, ◌∙◌}
use native.Mathlib.Decide.{dec_le}
use native.Mathlib.Nat.{eq-or-lt_of_le}
use native.Mathlib.Omega.{arith}
use borrow.Author.Tests.{le-leb, leb-true}
use lib.Dec.{eqb, leb}
use Rattle.calendar.specs.Calendar.{date, sum, year_length, month_lengths, month_length, within, last_year, date_fault, day_of_year}
use Rattle.calendar.specs.Calendar.{days_before, day_number, days, weekday, year_of, month_of, date_in, date_of}
use Rattle.std.specs.Prelude.{Err, Ok, Some}
use Rattle.laws.proofs.Cases.{clash}
use Rattle.calendar.specs.Dates.{date_field, from_fields, from_day_number}
use Rattle.calendar.specs.declared.DateField.{DateField}
use Rattle.calendar.specs.declared.Date.{Date}
use Rattle.calendar.proofs.Months.{month_is, month_most, year_months}
use Rattle.calendar.proofs.Sum.{sum_suc, sum_last, sum_mono, locate}
use Rattle.calendar.proofs.Years.{year_is, years_closed, days_before_is, days_is}

-- the fields of a valid date
pub record Valid (y m d : ℕ) : Type 0 where
  pub year_low : 0 < y
  pub year_high : y ≤ last_year
  pub month_low : 0 < m
  pub month_high : m ≤ 12
  pub day_low : 0 < d
  pub day_high : d ≤ month_length y m

-- a valid date has no bad field
pub valid_no_fault : (y m d : ℕ) → Valid y m d → date_fault y m d ≡ 0
unfolding date_fault
valid_no_fault y m d v =
    simp (
      le-leb 1 y v.year_low,
      le-leb y last_year v.year_high,
      le-leb 1 m v.month_low,
      le-leb m 12 v.month_high,
      le-leb 1 d v.day_low,
      le-leb d (month_length y m) v.day_high,
    )

-- and a date without a bad field is valid
no_fault : (b : Bool) (x f : ℕ) → cond b x (suc f) ≡ 0 → (b ≡ true) × (x ≡ 0)
no_fault true x f e = (refl, e)
no_fault false x f e = absurd (omega (arith, e))

from_within : (a b n : ℕ) → within a b n ≡ true → (a ≤ n) × (n ≤ b)
from_within a b n e = let p = and-true (leb a n) e in (leb-true a n p.0, leb-true n b p.1)
  where
    and-true : (x : Bool) {z : Bool} → (x && z) ≡ true → (x ≡ true) × (z ≡ true)
    and-true true e = (refl, e)
    and-true false e = absurd (false≢true e)

pub no_fault_valid : (y m d : ℕ) → date_fault y m d ≡ 0 → Valid y m d
unfolding date_fault
no_fault_valid y m d e =
    let p = no_fault (within 1 last_year y) _ 0 e in
    let q = no_fault (within 1 12 m) _ 1 p.1 in
    let r = no_fault (within 1 (month_length y m) d) _ 2 q.1 in
    let years = from_within 1 last_year y p.0 in
    let months = from_within 1 12 m q.0 in
    let days = from_within 1 (month_length y m) d r.0 in
    record {
      year_low = years.0;
      year_high = years.1;
      month_low = months.0;
      month_high = months.1;
      day_low = days.0;
      day_high = days.1;
    }

day_of_year_is : (y q d : ℕ) → day_of_year y (suc q) d ≡ sum (month_length y) q + d
unfolding day_of_year
day_of_year_is y q d = let e : suc q - 1 ≡ q = omega arith in rw e

-- a day of a month lies within its year
pub within_year : (y m d : ℕ) → Valid y m d → (0 < day_of_year y m d) × (day_of_year y m d ≤ year_length y)
within_year y zero d v = absurd (omega (arith, v.month_low))
within_year y (suc q) d v =
    rw (day_of_year_is y q d) (
      omega (arith, v.day_low),
      omega
          (arith, v.day_high, sum_suc (month_length y) q, sum_mono (month_length y) (suc q) 12 v.month_high, year_months y),
    )

-- a valid date's day number is one of the calendar's
pub number_within : (y m d : ℕ) → Valid y m d → (0 < day_number y m d) × (day_number y m d ≤ days)
unfolding day_number days_before days
number_within y m d v =
    omega
    (arith, within_year y m d v, sum_last year_length y v.year_low, sum_mono year_length y last_year v.year_high)

-- every valid date is the date of its day number
pub date_of_number : (y m d : ℕ) → Valid y m d → date_of (day_number y m d) ≡ date y m d
unfolding date_of date_in day_number
date_of_number zero m d v = absurd (omega (arith, v.year_low))
date_of_number (suc p) zero d v = absurd (omega (arith, v.month_low))
date_of_number (suc p) (suc q) d v =
    let n = day_of_year (suc p) (suc q) d in
    let w = within_year (suc p) (suc q) d v in
    let b = days_before_is (suc p) p refl in
    let year : year_of (days_before (suc p) + n) ≡ suc p
    = year_is p (days_before (suc p) + n) (omega (arith, b, w)) (omega (arith, b, w, sum_suc year_length p)) in
    let left : days_before (suc p) + n - days_before (suc p) ≡ n = omega arith in
    let f = month_length (suc p) in
    let e = day_of_year_is (suc p) q d in
    let month : month_of (suc p) n ≡ suc q
    = month_is (suc p) q n (omega (arith, v.month_high)) (omega (arith, e, v.day_low)) (omega (arith, e, v.day_high, sum_suc f q)) in
    let start : suc q - 1 ≡ q = omega arith in
    rw (year, left, month) (ap (date (suc p) (suc q)) (omega (arith, e, ap (sum f) start)))

-- every day number of the calendar is the number of its date, which is valid
pub record Found (k : ℕ) (t : Date) : Type 0 where
  pub valid : Valid t.year t.month t.day
  pub number : day_number t.year t.month t.day ≡ k

-- from where a day falls, its date
found : (k p q d : ℕ) → day_number (suc p) (suc q) d ≡ k → Valid (suc p) (suc q) d → Found k (date_of k)
found k p q d e v =
    let t : date_of k ≡ date (suc p) (suc q) d = ap date_of (sym e) ∙ date_of_number (suc p) (suc q) d v in
    rw t (record { valid = v; number = e })

pub number_of_date : (k : ℕ) → 0 < k → k ≤ days → Found k (date_of k)
unfolding day_number days
number_of_date k h l =
    let y = locate year_length last_year k h l in
    let p = y.0.past in
    let n = k - sum year_length p in
    let low : 0 < n = omega (arith, y.0.after) in
    let high : n ≤ sum (month_length (suc p)) 12 = omega (arith, y.0.upto, sum_suc year_length p, year_months (suc p)) in
    let m = locate (month_length (suc p)) 12 n low high in
    let q = m.0.past in
    let d = n - sum (month_length (suc p)) q in
    found k p q d
    (omega (arith, days_before_is (suc p) p refl, day_of_year_is (suc p) q d, m.0.after, y.0.after))
    (record {
      year_low = omega arith;
      year_high = y.1;
      month_low = omega arith;
      month_high = m.1;
      day_low = omega (arith, m.0.after);
      day_high = omega (arith, m.0.upto, sum_suc (month_length (suc p)) q);
    })

-- the same, part by part, as the code works the date out
pub record Parts (k y n m : ℕ) : Type 0 where
  pub year_high : y ≤ last_year
  pub start : days_before y < k
  pub end : n ≤ year_length y
  pub month_high : m ≤ 12
  pub month_start_lem : sum (month_length y) (m - 1) ≤ n
  pub day_high : n - sum (month_length y) (m - 1) ≤ 31

pub parts : (k : ℕ) → 0 < k → k ≤ days → Parts k (year_of k) (k - days_before (year_of k))
    (month_of (year_of k) (k - days_before (year_of k)))
unfolding day_number date_of date_in
parts k h l =
    let f = number_of_date k h l in
    let y = year_of k in
    let m = month_of y (k - days_before y) in
    let w = within_year y m (k - days_before y - sum (month_length y) (m - 1)) f.valid in
    record {
      year_high = f.valid.year_high;
      start = omega (arith, f.number, w);
      end = omega (arith, f.number, w);
      month_high = f.valid.month_high;
      month_start_lem = omega (arith, f.valid.day_low);
      day_high = omega (arith, f.valid.day_high, month_most y m);
    }

-- the calendar's ends (RULES 2): 0001-01-01 is day 1, a Monday, and 9999-12-31 is day 3,652,059, a Friday
pub first_day : (day_number 1 1 1 ≡ 1) × (weekday 1 ≡ 1)
unfolding day_number day_of_year days_before sum
first_day = (refl, refl)

december : day_of_year 9999 12 31 ≡ 365
unfolding day_of_year sum month_length month_lengths
december = refl

pub last_day : (days ≡ 3652059) × (day_number 9999 12 31 ≡ 3652059) × (weekday 3652059 ≡ 5)
unfolding day_number days_before
last_day = (days_is, omega (arith, years_closed 9998, december), refl)

pub first_date : date_of 1 ≡ date 1 1 1
unfolding date_fault month_length month_lengths
first_date = ap date_of (sym first_day.0) ∙ date_of_number 1 1 1 (no_fault_valid 1 1 1 refl)

pub last_date : date_of days ≡ date 9999 12 31
unfolding date_fault month_length month_lengths
last_date = ap date_of (last_day.0 ∙ sym last_day.1) ∙ date_of_number 9999 12 31 (no_fault_valid 9999 12 31 refl)

-- the calendar's ends, for the code, which has them as constants
pub ruleset ends_are = (first_date, last_date, days_is)

-- a date comes before another
unfoldable pub Before : (y m d y' m' d' : ℕ) → Type 0
Before y m d y' m' d' = (y < y') ⊎ ((y ≡ y') × ((m < m') ⊎ ((m ≡ m') × (d < d'))))

-- day numbers follow the order of dates
month_order : (y m d m' d' : ℕ) → Valid y m d → 0 < d' → m < m' → day_of_year y m d < day_of_year y m' d'
unfolding day_of_year
month_order y zero d m' d' v p h = absurd (omega (arith, v.month_low))
month_order y (suc q) d m' d' v p h =
    omega (
      arith,
      v.day_high,
      sum_suc (month_length y) q,
      sum_mono (month_length y) (suc q) (m' - 1) (omega arith),
      ap
          (sum (month_length y)) start,
    )
  where
    start : suc q - 1 ≡ q
    start = omega arith

year_order : (y m d y' m' d' : ℕ) → Valid y m d → Valid y' m' d' → y < y' → day_number y m d < day_number y' m' d'
unfolding day_number days_before
year_order zero m d y' m' d' v w h = absurd (omega (arith, v.year_low))
year_order (suc p) m d y' m' d' v w h =
    let more = sum_mono year_length (suc p) (y' - 1) (omega arith) in
    omega (arith, within_year (suc p) m d v, within_year y' m' d' w, sum_suc year_length p, more, ap (sum year_length) start)
  where
    start : suc p - 1 ≡ p
    start = omega arith

same_year : (y m d m' d' : ℕ) → Valid y m d → Valid y m' d' → (m < m') ⊎ ((m ≡ m') × (d < d')) → day_of_year y m d < day_of_year y m' d'
same_year y m d m' d' v w b =
    ⊎_elim
    (λ (h : m < m'). month_order y m d m' d' v w.day_low h)
    (λ (t : (m ≡ m') × (d < d')). unfold day_of_year in rw t.0 (omega (arith, t.1)))
    b

pub before_number : (y m d y' m' d' : ℕ) → Valid y m d → Valid y' m' d' → Before y m d y' m' d' → day_number y m d < day_number y' m' d'
unfolding Before
before_number y m d y' m' d' v w b =
    ⊎_elim
    (λ (h : y < y'). year_order y m d y' m' d' v w h)
    (λ (t : (y ≡ y') × ((m < m') ⊎ ((m ≡ m') × (d < d')))).
    unfold day_number in
    let u : Valid y' m d = rw t.0 at v in
    let e : day_of_year y m d ≡ day_of_year y' m d = ap (λ (x : ℕ). day_of_year x m d) t.0 in
    let f : days_before y ≡ days_before y' = ap days_before t.0 in
    omega (arith, same_year y' m d m' d' u w t.1))
    b

pub number_before : (y m d y' m' d' : ℕ) → Valid y m d → Valid y' m' d' → day_number y m d < day_number y' m' d' → Before y m d y' m' d'
unfolding Before
number_before y m d y' m' d' v w h = year (dec_le (suc y) y')
  where
    back : Before y' m' d' y m d → ⊥
    back b = omega (arith, before_number y' m' d' y m d w v b)

    day : y ≡ y' → m ≡ m' → d < d'
    day e f =
        elim (dec_le (suc d) d') [
          | yes l ↦ l
          | no l ↦ ⊎_elim
              (λ (g : d' ≡ d). absurd (omega (arith, ap₂ (λ (a b : ℕ). day_number a b d) e f, ap (day_number y' m') g)))
              (λ (g : d' < d). absurd (back (inr (sym e, inr (sym f, g)))))
              (eq-or-lt_of_le (omega (arith, l)))
        ]

    month : y ≡ y' → (m < m') ⊎ ((m ≡ m') × (d < d'))
    month e =
        elim (dec_le (suc m) m') [
          | yes l ↦ inl l
          | no l ↦ ⊎_elim
              (λ (g : m' ≡ m). inr (sym g, day e (sym g)))
              (λ (g : m' < m). absurd (back (inr (sym e, inl g))))
              (eq-or-lt_of_le (omega (arith, l)))
        ]

    year : Dec (y < y') → (y < y') ⊎ ((y ≡ y') × ((m < m') ⊎ ((m ≡ m') × (d < d'))))
    year (yes l) = inl l
    year (no l) =
        ⊎_elim
        (λ (g : y' ≡ y). inr (sym g, month (sym g)))
        (λ (g : y' < y). absurd (back (inl g)))
        (eq-or-lt_of_le (omega (arith, l)))

-- what the constructor's answer tells of the fields
bad_of : (b : Bool) (f g : DateField) (t : Date) → cond b (Ok t) (Err f) ≡ Err g → (b ≡ false) × (f ≡ g)
bad_of true f g t e = clash (cc)
bad_of false f g t e = (refl, cc)

valid_of : (b : Bool) (f : DateField) (t u : Date) → cond b (Ok t) (Err f) ≡ Ok u → (b ≡ true) × (t ≡ u)
valid_of true f t u e = (refl, cc)
valid_of false f t u e = clash (cc)

pub fields_bad : (y m d : ℕ) (f : DateField) → from_fields y m d ≡ Err f
    → (eqb (date_fault y m d) 0 ≡ false) × (date_field (date_fault y m d) ≡ f)
unfolding from_fields
fields_bad y m d f e = bad_of (eqb (date_fault y m d) 0) (date_field (date_fault y m d)) f (date y m d) e

pub fields_valid : (y m d : ℕ) (t : Date) → from_fields y m d ≡ Ok t → (eqb (date_fault y m d) 0 ≡ true) × (date y m d ≡ t)
unfolding from_fields
fields_valid y m d t e = valid_of (eqb (date_fault y m d) 0) (date_field (date_fault y m d)) (date y m d) t e

-- the constructor from a day number answers the day's date for each day of the calendar
pub number_day : (k : ℕ) → 0 < k → k ≤ days → from_day_number k ≡ Some (date_of k)
unfolding from_day_number
number_day k h l = rw (le-leb 1 k h, le-leb k days l)
