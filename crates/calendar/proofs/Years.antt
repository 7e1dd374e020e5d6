-- The lengths of all years before a year, by whole-number division; what bounds and orders them.
-- Assumes nothing.
use Prim.Native.Nat.{ℕ, zero, suc, ◌+◌, ◌-◌, ◌*◌, ◌/◌, ◌%◌, ◌^◌, ◌≤◌, ◌<◌}
use mathlib.Core.Bool.{Bool, true, false, cond, not, ◌&&◌, ◌||◌}
use mathlib.Core.Logic.{⊎_elim}
use mathlib.Core.Path.{◌≡◌, refl, sym, ap, subst, ◌∙◌}
use native.Mathlib.Nat.{eq-or-lt_of_le, div-add-mod', mod-lt, add-mul, add-zero}
use native.Mathlib.Omega.{arith}
use borrow.Author.Tests.{eq-eqb, ne_eqb}
use lib.Arith.{digits_div, digits_mod}
use lib.Dec.{T, eqb, eqb→eq, lit<}
use Rattle.calendar.specs.Calendar.{sum, leap, year_length, days_before, days, period_of, year_of}
use Rattle.calendar.proofs.Sum.{Located, sum_suc, sum_last, period_is, locate}

-- one more: a quotient grows exactly where the remainder turns to 0
pub grows : (d p : ℕ) → 0 < d → suc p / d ≡ p / d + cond (eqb (suc p % d) 0) 1 0
grows d p h =
    let parts : p / d * d + p % d ≡ p = div-add-mod' p d in
    let below : p % d < d = mod-lt p h in
    ⊎_elim
    (λ (e : suc (p % d) ≡ d).
    let whole : suc p ≡ (p / d + 1) * d + 0 = omega (arith, add-mul (p / d) 1 d) in
    rw (eq-eqb (suc p % d) 0 (ap (λ (x : ℕ). x % d) whole ∙ digits_mod (p / d + 1) h))
    (ap (λ (x : ℕ). x / d) whole ∙ digits_div (p / d + 1) h))
    (λ (l : suc (p % d) < d).
    let part : suc p ≡ p / d * d + suc (p % d) = omega arith in
    let left : suc p % d ≡ suc (p % d) = ap (λ (x : ℕ). x % d) part ∙ digits_mod (p / d) l in
    rw (ne_eqb (suc p % d) 0 (λ (z : suc p % d ≡ 0). omega arith), add-zero)
    (ap (λ (x : ℕ). x / d) part ∙ digits_div (p / d) l))
    (eq-or-lt_of_le below)

-- a leap year has one day more: the three tests as numbers
leap_day : (a b c : Bool) → (T b → T a) → (T c → T b) → cond (a && (not b || c)) 366 365 + cond b 1 0 ≡ 365 + cond a 1 0 + cond c 1 0
leap_day true true true f g = refl
leap_day true true false f g = refl
leap_day true false true f g = absurd (g tt)
leap_day true false false f g = refl
leap_day false true c f g = absurd (f tt)
leap_day false false true f g = absurd (g tt)
leap_day false false false f g = refl

year_length_is : (y : ℕ) → year_length y + cond (eqb (y % 100) 0) 1 0 ≡ 365 + cond (eqb (y % 4) 0) 1 0 + cond (eqb (y % 400) 0) 1 0
unfolding year_length
year_length_is y =
    leap_day (eqb (y % 4) 0) (eqb (y % 100) 0) (eqb (y % 400) 0)
    (λ t. let z : y % 100 ≡ 0 = eqb→eq (y % 100) 0 t in subst T (sym (eq-eqb (y % 4) 0 (omega arith))) tt)
    (λ t. let z : y % 400 ≡ 0 = eqb→eq (y % 400) 0 t in subst T (sym (eq-eqb (y % 100) 0 (omega arith))) tt)

-- the lengths of years 1 to p
pub years_closed : (p : ℕ) → sum year_length p + p / 100 ≡ 365 * p + p / 4 + p / 400
unfolding sum
years_closed zero = refl
years_closed (suc p) =
    rw (grows 4 p (lit< tt), grows 100 p (lit< tt), grows 400 p (lit< tt))
    (omega (arith, years_closed p, year_length_is (suc p)))

-- the leap years of years 1 to p
pub leap_years : (p : ℕ) → sum (λ y. cond (leap y) 1 0) p + p / 100 ≡ p / 4 + p / 400
unfolding sum year_length
leap_years p = omega (arith, years_closed p, lengths p)
  where
    one_more : (b : Bool) → cond b 366 365 ≡ 365 + cond b 1 0
    one_more true = refl
    one_more false = refl

    lengths : (p : ℕ) → sum year_length p ≡ 365 * p + sum (λ y. cond (leap y) 1 0) p
    lengths zero = refl
    lengths (suc p) = omega (arith, lengths p, one_more (leap (suc p)))

-- bounds of that sum, without a division
pub years_above : (p : ℕ) → 146097 * p ≤ 400 * sum year_length p + 699
years_above p = omega (arith, years_closed p)

pub years_below : (p : ℕ) → 400 * sum year_length p ≤ 146097 * p + 396
years_below p = omega (arith, years_closed p)

-- the year of a day: after all the days of p years, and within one year more
pub year_is : (p k : ℕ) → sum year_length p < k → k ≤ sum year_length (suc p) → year_of k ≡ suc p
unfolding year_of sum
year_is p k h l =
    period_is year_length k 0 p (k - sum year_length p) k (omega arith) (omega (arith, years_above p)) (omega arith)
    (omega (arith, sum_suc year_length p)) (omega arith)

-- every day falls in a year
pub year_located : (k : ℕ) → 0 < k → (l : Located year_length k) × (year_of k ≡ suc l.past)
year_located k h =
    let l = (locate year_length k k h (omega (arith, years_above k))).0 in
    (l, year_is l.past k l.after l.upto)

-- the estimate of a year from a day number is right, or one year short
abbrev passed : ℕ → ℕ
passed k = (k - 1) * 400 / 146097

pub guess_right : (k : ℕ) → k ≤ sum year_length (suc (passed k)) → year_of k ≡ suc (passed k)
unfolding year_of period_of
guess_right zero l = refl
guess_right (suc j) l = year_is (passed (suc j)) (suc j) (omega (arith, years_below (passed (suc j)))) l

pub guess_short : (k : ℕ) → sum year_length (suc (passed k)) < k → year_of k ≡ suc (suc (passed k))
guess_short k l = year_is (suc (passed k)) k l (omega (arith, years_above (suc (suc (passed k)))))

pub days_before_is : (y p : ℕ) → y ≡ suc p → days_before y ≡ sum year_length p
unfolding days_before
days_before_is y p e = ap (sum year_length) (omega arith)

pub year_least : (y : ℕ) → 365 ≤ year_length y
unfolding year_length
year_least y = least (leap y)
  where
    least : (b : Bool) → 365 ≤ cond b 366 365
    least true = omega arith
    least false = omega arith

-- the year of a day within 365 days of the year's start
pub year_within : (y k : ℕ) → 0 < y → days_before y < k → k ≤ days_before y + 365 → year_of k ≡ y
year_within zero k h a b = elim h [ ]
year_within (suc p) k h a b =
    let e = days_before_is (suc p) p refl in
    year_is p k (omega (arith, e)) (omega (arith, e, sum_suc year_length p, year_least (suc p)))

-- a day lies past all the years before its own
pub year_starts : (k : ℕ) → days_before (year_of k) ≤ k
unfolding year_of period_of days_before sum
year_starts zero = omega arith
year_starts (suc k) =
    let l = year_located (suc k) (omega arith) in
    rw l.1 (omega (arith, l.0.after, days_before_is (suc l.0.past) l.0.past refl))

pub days_before_small : (y : ℕ) → y < 2 ^ 16 → days_before y < 24000000
unfolding days_before
days_before_small y h = omega (arith, years_below (y - 1))

-- how many days the calendar has
pub days_is : days ≡ 3652059
unfolding days
days_is = omega (arith, years_closed 9999)

pub days_before_next : (y : ℕ) → 0 < y → days_before (y + 1) ≡ days_before y + year_length y
unfolding days_before
days_before_next y h = let e : y + 1 - 1 ≡ y = omega arith in rw e (sum_last year_length y h)
