-- Counts of a weekday by whole-number division; the Thursday of a week.
-- Assumes nothing.
use Prim.Native.Nat.{ℕ, zero, suc, ◌+◌, ◌-◌, ◌/◌, ◌%◌, ◌^◌, ◌≤◌, ◌<◌}
use mathlib.Core.Bool.{cond}
use mathlib.Core.Path.{◌≡◌, ap, ◌∙◌}
use native.Mathlib.Decide.{ℕ_discrete}
use native.Mathlib.Nat.{add-suc}
use native.Mathlib.Omega.{arith}
use borrow.Author.Tests.{eq-eqb, ne_eqb}
use lib.Dec.{eqb, lit<, lit≤}
use Rattle.calendar.specs.Calendar.{sum, weekday, day_of_year, days_before, day_number, year_of}
use Rattle.calendar.specs.Calendar.{count_after, count_of, thursday, iso_year, iso_week}
use Rattle.calendar.proofs.Months.{months_small}
use Rattle.calendar.proofs.Years.{year_starts, days_before_small}

-- day k is a weekday w or it is not: how the count of weeks that end on it grows
one_more : (w k : ℕ) → 0 < w → w ≤ 7 → (suc k + 7 - w) / 7 ≡ (k + 7 - w) / 7 + cond (eqb (weekday (suc k)) w) 1 0
one_more w k a b = go (ℕ_discrete (weekday (suc k)) w)
  where
    go : Dec (weekday (suc k) ≡ w) → (suc k + 7 - w) / 7 ≡ (k + 7 - w) / 7 + cond (eqb (weekday (suc k)) w) 1 0
    go (yes e) = rw (eq-eqb (weekday (suc k)) w e) (omega arith)
    go (no n) = rw (ne_eqb (weekday (suc k)) w n) (omega arith)

-- among days b + 1 to b + n
pub count_closed : (w b n : ℕ) → 0 < w → w ≤ 7 → count_after w b n + (b + 7 - w) / 7 ≡ (b + n + 7 - w) / 7
unfolding count_after sum
count_closed w b zero p q = omega arith
count_closed w b (suc n) p q = rw (add-suc b n) (omega (arith, count_closed w b n p q, one_more w (b + n) p q))

-- the same by the days that have gone by since the last day on that weekday
past_is : (w b : ℕ) → 0 < w → w ≤ 7 → (b % 7 + 7 - w) % 7 ≡ (b + 7 - w) % 7
past_is w b p q = omega arith

weeks_more : (x n : ℕ) → (x + n) / 7 ≡ (x % 7 + n) / 7 + x / 7
weeks_more x n = omega arith

alike : (a b x : ℕ) → a + x ≡ b + x → b ≡ a
alike a b x e = omega arith

pub count_by_past : (w b n : ℕ) → 0 < w → w ≤ 7 → ((b % 7 + 7 - w) % 7 + n) / 7 ≡ count_after w b n
count_by_past w b n p q =
    let x = b + 7 - w in
    let all : b + n + 7 - w ≡ x + n = omega arith in
    let e = count_closed w b n p q ∙ ap (λ (k : ℕ). k / 7) all ∙ weeks_more x n in
    rw (past_is w b p q) (alike (count_after w b n) ((x % 7 + n) / 7) (x / 7) e)

pub count_is : (w y n : ℕ) → 0 < w → w ≤ 7 → count_of w y n + (days_before y + 7 - w) / 7 ≡ (days_before y + n + 7 - w) / 7
unfolding count_of
count_is w y n p q = count_closed w (days_before y) n p q

-- the day number of any fields that a `Date` can hold
pub number_small : (y m d : ℕ) → y < 2 ^ 16 → d < 2 ^ 8 → day_number y m d < 2 ^ 25 - 8
unfolding day_number day_of_year
number_small y m d p q = omega (arith, days_before_small y p, months_small y (m - 1))

-- for the code, which adds the three parts up
pub ruleset small_numbers = (months_small, number_small)

pub iso_week_is : (k : ℕ) → iso_week k + (days_before (iso_year k) + 3) / 7 ≡ (thursday k + 3) / 7
unfolding iso_week iso_year
iso_week_is k =
    omega (
      arith,
      count_is 4 (year_of (thursday k)) (thursday k - days_before (year_of (thursday k))) (lit< tt) (lit≤ tt),
      year_starts
          (thursday k),
    )
