-- The date of a day number that the search found, and of a day that agrees.
-- Assumes nothing.
use Prim.Native.Nat.{ℕ, ◌-◌, ◌≤◌, ◌<◌}
use mathlib.Core.List.{Memᴰ as Member}
use mathlib.Core.Path.{◌≡◌, refl}
use native.Mathlib.Omega.{arith}
use Rattle.laws.proofs.Cases.{clash}
use Rattle.calendar.specs.Calendar.{date, days, date_of}
use Rattle.calendar.specs.Dates.{from_day_number}
use Rattle.calendar.specs.declared.Date.{Date}
use Rattle.agreement.specs.Agreement.{said}
use Rattle.agreement.specs.Demand.{DayAgrees}
use Rattle.agreement.specs.declared.Facts.{Facts}
use Rattle.kinds.specs.Kinds as kinds
use Rattle.kinds.specs.Kinds.{day_kinds}
use Rattle.values.specs.Values.{date_value, date_values}
use Rattle.calendar.proofs.Dates.{Valid, number_day, number_of_date}
use Rattle.calendar.proofs.Months.{month_most}
use Rattle.std.specs.Prelude.{None, Option, Some}

module _ (k : ℕ) (h : 0 < k) (l : k ≤ days) {r : Option Date} (e : r ≡ from_day_number k) where
  pub day_is : {x : Date} → r ≡ Some x → x ≡ date_of k
  day_is f = let n = number_day k h l in cc

  pub never_outside : {A : Type 0} → r ≡ None → A
  never_outside f = let n = number_day k h l in clash (cc)

-- the date of a day that agrees is as it was said
module _ (f : Facts) (k : ℕ) (h : 0 < k) (l : k ≤ days) (a : DayAgrees f k) where
  value-is : (j : ℕ) → Member j day_kinds → (said f j ≡ 0 → ⊥) → date_value j (date_of k) ≡ said f j - 1
  value-is j m n = a j (said f j - 1) m (omega (arith, n))

  valid : Valid (date_of k).year (date_of k).month (date_of k).day
  valid = (number_of_date k h l).valid

  pub year_said : (said f kinds.year ≡ 0 → ⊥) → ((date_of k).year ≡ said f kinds.year - 1) × (said f kinds.year - 1 ≤ 9999)
  unfolding day_kinds date_value date_values
  year_said n = let e = value-is kinds.year (Member.head refl) n in (e, omega (arith, e, valid.year_high))

  pub month_said : (said f kinds.month ≡ 0 → ⊥) → ((date_of k).month ≡ said f kinds.month - 1) × (said f kinds.month - 1 ≤ 12)
  unfolding day_kinds date_value date_values
  month_said n =
      let e = value-is kinds.month (Member.tail (Member.tail (Member.tail (Member.head refl)))) n in
      (e, omega (arith, e, valid.month_high))

  pub day_said : (said f kinds.day ≡ 0 → ⊥) → ((date_of k).day ≡ said f kinds.day - 1) × (said f kinds.day - 1 ≤ 31)
  unfolding day_kinds date_value date_values
  day_said n =
      let e = value-is kinds.day (Member.tail (Member.tail (Member.tail (Member.tail (Member.head refl))))) n in
      (e, omega (arith, e, valid.day_high, month_most (date_of k).year (date_of k).month))

  pub as_said : (said f kinds.year ≡ 0 → ⊥) → (said f kinds.month ≡ 0 → ⊥) → (said f kinds.day ≡ 0 → ⊥)
      → date (said f kinds.year - 1) (said f kinds.month - 1) (said f kinds.day - 1) ≡ date_of k
  as_said y m d = rw (← (year_said y).0, ← (month_said m).0, ← (day_said d).0)
