-- The days of the months that agree, by whole years, whole months and days.
-- Assumes nothing.
use Prim.Native.Nat.{ℕ, zero, suc, ◌+◌, ◌-◌, ◌/◌, ◌%◌, ◌≤◌, ◌<◌}
use mathlib.Core.Bool.{Bool, true, false, cond, ◌&&◌, and-true}
use mathlib.Core.Path.{◌≡◌, refl, sym, ap, ap₂, ◌∙◌}
use native.Mathlib.Omega.{arith}
use Rattle.calendar.specs.Calendar.{sum, year_length, month_length, last_year, day_of_year, days_before, day_number, days}
use Rattle.calendar.specs.declared.Date.{Date}
use Rattle.calendar.proofs.Dates.{Valid, date_of_number}
use Rattle.calendar.proofs.Months.{year_months}
use Rattle.calendar.proofs.Sum.{sum_add, sum_periods}
use Rattle.agreement.specs.Agreement.{said, agrees, all_agree}
use Rattle.agreement.specs.declared.Facts.{Facts}
use Rattle.judge.specs.Engines.{month_kinds, month_agrees, month_days}
use Rattle.judge.specs.Private.{sum_where, said_days, year_agrees}
use Rattle.judge.specs.Private.{whole_years, in_year}
use Rattle.kinds.specs.Kinds as kinds
use Rattle.laws.specs.Lists.{every, range}
use Rattle.values.specs.Values.{date_value, date_values}
use Rattle.judge.proofs.Counts.{sum_none, count_all, where_most, said_year}

regrouped : (a b c d : Bool) → (a && (b && (c && (d && true)))) ≡ ((a && (b && c)) && d)
regrouped true true true true = refl
regrouped true true true false = refl
regrouped true true false d = refl
regrouped true false c d = refl
regrouped false b c d = refl

pulled : (b : Bool) (p : ℕ → Bool) (h : ℕ → ℕ) (n : ℕ) → sum (λ m. cond (b && p m) (h m) 0) n ≡ cond b (sum_where p h n) 0
pulled true p h n = refl
pulled false p h n = sum_none n

together : (b c : Bool) (x d : ℕ) → cond b x 0 + cond (b && c) d 0 ≡ cond b (x + cond c d 0) 0
together true c x d = refl
together false c x d = refl

module _ (f : Facts) where
  abbrev month : ℕ
  month = said f kinds.month

  agrees_at : (y m d : ℕ) → Valid y m d → month_agrees f (day_number y m d) ≡ (year_agrees f y && agrees month m)
  unfolding month_agrees month_kinds every date_value date_values year_agrees
  agrees_at y m d v =
      rw (date_of_number y m d v)
      (regrouped (agrees (said f kinds.year) y) (agrees (said f kinds.century) (y / 100)) (agrees (said f kinds.year_in_century) (y % 100))
      (agrees month m))

  -- in the year after p years
  module _ (p : ℕ) (h : p < last_year) where
    abbrev day : ℕ → ℕ
    day k = cond (month_agrees f (sum year_length p + k)) 1 0

    number_is : (q k : ℕ) → day_number (suc p) (suc q) k ≡ sum year_length p + (sum (month_length (suc p)) q + k)
    unfolding day_number day_of_year days_before
    number_is q k =
        let e : suc q - 1 ≡ q = omega arith in
        let g : suc p - 1 ≡ p = omega arith in
        rw (e, g)

    in_month : (q d : ℕ) → q < 12 → d ≤ month_length (suc p) (suc q)
        → sum (λ k. day (sum (month_length (suc p)) q + k)) d ≡ cond (year_agrees f (suc p) && agrees month (suc q)) d 0
    in_month q d l m =
        count_all (λ k. month_agrees f (sum year_length p + (sum (month_length (suc p)) q + k)))
        (year_agrees f (suc p) && agrees month (suc q)) d
        (λ k a b. ap (month_agrees f) (sym (number_is q k)) ∙ agrees_at (suc p) (suc q) k
        (record {
          year_low = omega arith;
          year_high = h;
          month_low = omega arith;
          month_high = l;
          day_low = a;
          day_high = omega arith;
        }))

    in_months : (q : ℕ) → q ≤ 12
        → sum day (sum (month_length (suc p)) q) ≡ cond (year_agrees f (suc p)) (sum_where (agrees month) (month_length (suc p)) q) 0
    in_months q l =
        sum_periods day (month_length (suc p)) (λ m. cond (year_agrees f (suc p) && agrees month m) (month_length (suc p) m) 0) q
        (λ i m. in_month i (month_length (suc p) (suc i)) (omega arith) (omega arith))
        ∙ pulled (year_agrees f (suc p)) (agrees month) (month_length (suc p)) q

    in_whole : sum day (year_length (suc p)) ≡ cond (year_agrees f (suc p)) (said_days month (suc p)) 0
    in_whole =
        ap (sum day) (sym (year_months (suc p)))
        ∙ in_months 12 (omega arith)
        ∙ ap (λ (x : ℕ). cond (year_agrees f (suc p)) x 0) (said_year month (suc p))

    in-part : (q d : ℕ) → q < 12 → d ≤ month_length (suc p) (suc q)
        → sum day (sum (month_length (suc p)) q + d) ≡ cond (year_agrees f (suc p)) (in_year month (suc p) (suc q) d) 0
    unfolding in_year
    in-part q d l m =
        let e : suc q - 1 ≡ q = omega arith in
        rw e
        (sum_add day (sum (month_length (suc p)) q) d
        ∙ ap₂ ◌+◌ (in_months q (omega arith)) (in_month q d l m)
        ∙ together (year_agrees f (suc p)) (agrees month (suc q)) (sum_where (agrees month) (month_length (suc p)) q) d)

  years-through : (n : ℕ) → n ≤ last_year → month_days f (sum year_length n) ≡ whole_years f n
  unfolding month_days whole_years
  years-through n l =
      sum_periods (λ k. cond (month_agrees f k) 1 0) year_length (λ y. cond (year_agrees f y) (said_days month y) 0) n
      (λ i m. in_whole i (omega arith))

  pub all_through : month_days f days ≡ whole_years f last_year
  unfolding days
  all_through = years-through last_year (omega arith)

  pub date_through : (y m d : ℕ) → Valid y m d
      → month_days f (day_number y m d) ≡ whole_years f (y - 1) + cond (year_agrees f y) (in_year month y m d) 0
  unfolding month_days
  date_through zero m d v = absurd (omega (arith, v.year_low))
  date_through (suc p) zero d v = absurd (omega (arith, v.month_low))
  date_through (suc p) (suc q) d v =
      let e : suc p - 1 ≡ p = omega arith in
      rw (e, number_is p v.year_high q d)
      (sum_add (λ k. cond (month_agrees f k) 1 0) (sum year_length p) (sum (month_length (suc p)) q + d)
      ∙ ap₂ ◌+◌ (years-through p (omega (arith, v.year_high))) (in-part p v.year_high q d v.month_high v.day_high))

  -- no more than all days
  pub month_days_most : (n : ℕ) → month_days f n ≤ n
  unfolding month_days
  month_days_most n = omega (arith, where_most (month_agrees f) (λ k. 1) 1 (λ k. omega arith) n)

-- kinds 1 to 3, as the code compares them
pub year_kinds : (f : Facts) (t : Date) → all_agree f (range kinds.year 3) (λ k. date_value k t) ≡ year_agrees f t.year
unfolding every range date_value date_values year_agrees
year_kinds f t =
    ap (λ (x : Bool). agrees (said f kinds.year) t.year && (agrees (said f kinds.century) (t.year / 100) && x))
    (and-true (agrees (said f kinds.year_in_century) (t.year % 100)))
