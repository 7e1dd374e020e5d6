-- All but the year, the century and the ISO year repeats after 400 years: the days of the first of them that agree tell all that do.
-- Assumes nothing.
use Prim.Native.Nat.{ℕ, zero, suc, ◌+◌, ◌-◌, ◌*◌, ◌/◌, ◌%◌, ◌≤◌, ◌<◌}
use mathlib.Core.Bool.{Bool, true, false}
use mathlib.Core.List.{List, [], ◌∷◌, map, Memᴰ as Member}
use mathlib.Core.Path.{◌≡◌, refl, sym, ap, ◌∙◌}
use native.Mathlib.Decide.{dec_le}
use native.Mathlib.Omega.{arith}
use borrow.Author.Tests.{not-false}
use lib.Dec.{lit<, lit≤}
use Rattle.calendar.specs.Calendar.{date, sum, year_length, days, day_of_year, day_number, date_of, sunday_week, monday_week, iso_year}
use Rattle.calendar.specs.declared.Date.{Date}
use Rattle.calendar.proofs.Cycle.{cycle_days, day_of_year_again, day_number_again, count_again, date_again, date_year_low, date_number_low}
use Rattle.calendar.proofs.Cycle.{iso_year_again, iso_week_again}
use Rattle.calendar.proofs.Years.{days_is}
use Rattle.agreement.specs.Agreement.{said, agrees, all_agree, date_agrees, day_agrees}
use Rattle.agreement.specs.Search.{first_two}
use Rattle.agreement.specs.Verdicts.{days_found}
use Rattle.agreement.specs.declared.Facts.{Facts}
use Rattle.agreement.specs.declared.Found.{Found}
use Rattle.agreement.specs.declared.Found.TheVariants.{Nothing, One, Two}
use Rattle.judge.specs.Private.{named, cycle, first_of, repeated_found}
use Rattle.kinds.specs.Kinds as kinds
use Rattle.kinds.specs.Kinds.{day_kinds}
use Rattle.laws.specs.Lists.{every}
use Rattle.laws.proofs.Lists.{every_member}
use Rattle.values.specs.Values.{date_value, date_values}
use Rattle.agreement.proofs.Every.{every_alike, map_member}
use Rattle.agreement.proofs.Tells.{Tells, none, single, double, tells, tells_same}
use Rattle.judge.proofs.DayValues.{unsaid_agree}

-- ---- the values of a day

-- the kinds that bear on the day and repeat, and those that do not
unfoldable repeating_kinds : List ℕ
repeating_kinds =
    kinds.year_in_century
    ∷ kinds.month
    ∷ kinds.day
    ∷ kinds.day_of_year
    ∷ kinds.weekday
    ∷ kinds.sunday_week
    ∷ kinds.monday_week
    ∷ kinds.iso_year_in_century
    ∷ kinds.iso_week
    ∷ []

abbrev naming_kinds : List ℕ
naming_kinds = kinds.year ∷ kinds.century ∷ kinds.iso_year ∷ []

in_century_again : (y : ℕ) → (y + 400) % 100 ≡ y % 100
in_century_again y = omega arith

weekday_again : (k : ℕ) → (k + 146097 + 6) % 7 ≡ (k + 6) % 7
weekday_again k = omega arith

date_values_again : (y m d : ℕ) → 0 < y → 0 < day_number y m d
    → map (λ j. date_value j (date (y + 400) m d)) repeating_kinds ≡ map (λ j. date_value j (date y m d)) repeating_kinds
unfolding repeating_kinds date_value date_values sunday_week monday_week
date_values_again y m d p q =
    let n = day_of_year y m d in
    rw (
      day_number_again y m d p,
      day_of_year_again y m d,
      count_again 7 y n (lit< tt) (lit≤ tt) p,
      count_again 1 y n (lit< tt) (lit≤ tt) p,
      iso_year_again (day_number y m d) q,
      iso_week_again (day_number y m d) q,
      in_century_again y,
      in_century_again (iso_year (day_number y m d)),
      weekday_again (day_number y m d),
    )

values_again : (k j : ℕ) → 0 < k → Member j repeating_kinds → date_value j (date_of (k + cycle)) ≡ date_value j (date_of k)
values_again k j h m =
    let t = date_of k in
    let later = date (t.year + 400) t.month t.day in
    ap (date_value j) (date_again k h)
    ∙ map_member (λ i. date_value i later) (λ i. date_value i t) repeating_kinds
    (date_values_again t.year t.month t.day (date_year_low k h) (date_number_low k h)) j m

-- ---- agreement, where nothing was said that names years

module _ (f : Facts) (u : named f ≡ false) where
  only-repeating : (t : Date) → date_agrees f t ≡ all_agree f repeating_kinds (λ j. date_value j t)
  unfolding date_agrees day_kinds repeating_kinds every named
  only-repeating t =
      let passes : (j : ℕ) → Member j naming_kinds → agrees (said f j) (date_value j t) ≡ true
      = every_member (λ j. agrees (said f j) (date_value j t)) naming_kinds
      (unsaid_agree f naming_kinds (λ j. date_value j t) (not-false _ u)) in
      rw (
        passes kinds.year (Member.head refl),
        passes kinds.century (Member.tail (Member.head refl)),
        passes kinds.iso_year (Member.tail (Member.tail (Member.head refl))),
      )

  agrees-again : (k : ℕ) → 0 < k → day_agrees f (k + cycle) ≡ day_agrees f k
  unfolding day_agrees
  agrees-again k h =
      only-repeating (date_of (k + cycle))
      ∙ every_alike _ _ repeating_kinds (λ j m. ap (agrees (said f j)) (values_again k j h m))
      ∙ sym (only-repeating (date_of k))

-- ---- the first two of all days, from those of the first cycle

module _ (p : ℕ → Bool) where
  first-within : (h : Found) → Tells p 1 (1 + cycle) h → first_of h ≤ cycle
  unfolding first_of
  first-within Nothing (none f) = lit≤ tt
  first-within (One a) (single l m q f) = omega arith
  first-within (Two a b) (double l m n q r f) = omega arith

  module _ (again : (k : ℕ) → 0 < k → p (k + cycle) ≡ p k) where
    cycles-again : (n k : ℕ) → 0 < k → p (k + n * cycle) ≡ p k
    cycles-again zero k h = let e : k + 0 * cycle ≡ k = omega arith in ap p e
    cycles-again (suc n) k h =
        let e : k + suc n * cycle ≡ k + n * cycle + cycle = omega arith in
        ap p e ∙ again (k + n * cycle) (omega arith) ∙ cycles-again n k h

    -- the day of the first cycle that day k repeats
    abbrev repeatedDay : ℕ → ℕ
    repeatedDay k = (k - 1) % cycle + 1

    as-repeated : (k : ℕ) → 0 < k → p k ≡ p (repeatedDay k)
    as-repeated k h =
        let e : k ≡ repeatedDay k + (k - 1) / cycle * cycle = omega arith in
        ap p e ∙ cycles-again ((k - 1) / cycle) (repeatedDay k) (omega arith)

    -- one day of the first cycle comes again first of all in the second
    next_is : (a : ℕ) → a < 1 + cycle → ((k : ℕ) → 1 ≤ k → k < 1 + cycle → p k ≡ true → k ≡ a)
        → (k : ℕ) → 1 ≤ k → k < a + cycle → p k ≡ true → k ≡ a
    next_is a s f k l m q =
        elim (dec_le k cycle) [
          | yes n ↦ f k l (omega (arith, n)) q
          | no n ↦
              (let e : k ≡ k - cycle + cycle = omega (arith, n) in
              let x : k - cycle ≡ a
              = f (k - cycle) (omega (arith, n)) (omega arith) (sym (again (k - cycle) (omega (arith, n))) ∙ sym (ap p e) ∙ q) in
              absurd (omega arith))
        ]

    all_tell : (h : Found) → Tells p 1 (1 + cycle) h → Tells p 1 (1 + days) (repeated_found h)
    unfolding repeated_found
    all_tell Nothing (none f) = none (λ k l _. as-repeated k l ∙ f (repeatedDay k) (omega arith) (omega arith))
    all_tell (One a) (single l m q f) =
        let later : a < a + cycle = omega arith in
        let within : a + cycle < 1 + days = omega (arith, days_is) in
        double l later within q (again a l ∙ q) (next_is a m f)
    all_tell (Two a b) (double l m n q r f) = let within : b < 1 + days = omega (arith, days_is) in double l m within q r f

cycle_tells : (f : Facts) → Tells (day_agrees f) 1 (1 + cycle) (first_two (day_agrees f) 1 (sum year_length 400))
cycle_tells f = rw cycle_days (tells (day_agrees f) 1 cycle)

pub first_small : (f : Facts) → first_of (first_two (day_agrees f) 1 (sum year_length 400)) ≤ cycle
first_small f = first-within (day_agrees f) _ (cycle_tells f)

pub repeats : (f : Facts) → named f ≡ false → repeated_found (first_two (day_agrees f) 1 (sum year_length 400)) ≡ days_found f
unfolding days_found
repeats f u =
    tells_same (day_agrees f) 1 _ _ (all_tell (day_agrees f) (agrees-again f u) _ (cycle_tells f)) (tells (day_agrees f) 1 days)
