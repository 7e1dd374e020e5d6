-- The days of a year before each month, against the tables; the month of a day of the year.
-- Assumes nothing.
use Prim.Native.Nat.{ℕ, zero, suc, ◌+◌, ◌-◌, ◌*◌, ◌/◌, ◌≤◌, ◌<◌}
use mathlib.Core.Bool.{Bool, true, false, cond, ◌&&◌}
use mathlib.Core.Logic.{⊎_elim}
use mathlib.Core.Path.{◌≡◌, refl, sym, ap, ◌∙◌}
use native.Mathlib.Decide.{dec_le}
use native.Mathlib.Nat.{eq-or-lt_of_le, lt_of_not-le}
use native.Mathlib.Omega.{arith}
use borrow.Author.Tests.{ne_eqb, le-leb, lt-leb}
use lib.Dec.{T, eqb, leb, eqb→eq, leb→le, lit≤}
use lib.ListN.{get_or, get_or-eq_default}
use Rattle.calendar.specs.Calendar.{sum, leap, year_length, month_length, month_lengths, month_of}
use Rattle.calendar.proofs.Sum.{sum_suc, sum_mono, period_is}
use Rattle.laws.proofs.Table.{both, all, at}

-- a month's length by whether the year is leap
months : Bool → ℕ → ℕ
months b m = cond (eqb m 2 && b) 29 (get_or month_lengths m 0)

-- the code's sum is right for a month: past February it runs a day ahead in a leap year, and two in others
lacks : Bool → ℕ → ℕ
lacks b m = cond (leb 3 m) (cond b 1 2) 0

right : Bool → ℕ → Bool
right b m = cond (eqb m 0) true (eqb (sum (months b) (m - 1) + lacks b m) ((367 * m - 362) / 12))

all_right : (b : Bool) → T (all (right b) 13)
unfolding right lacks sum months month_lengths
all_right true = tt
all_right false = tt

pub month_start_lem : (y m : ℕ) → 0 < m → m ≤ 12 → sum (month_length y) (m - 1) + cond (leb 3 m) (cond (leap y) 1 2) 0
    ≡ (367 * m - 362) / 12
unfolding month_length months right lacks
month_start_lem y m p h =
    let t = at (right (leap y)) 13 (all_right (leap y)) m (omega arith) in
    eqb→eq _ _ (rw (ne_eqb m 0 (λ (e : m ≡ 0). omega arith)) at t)

-- there is no month past 12
pub no_month : (y m : ℕ) → 12 < m → month_length y m ≡ 0
unfolding month_length month_lengths
no_month y m h = rw (ne_eqb m 2 (λ (e : m ≡ 2). omega arith)) (get_or-eq_default month_lengths 0 h)

all_most : (b : Bool) → T (all (λ q. leb (months b q) 31) 13)
unfolding months month_lengths
all_most true = tt
all_most false = tt

pub month_most : (y m : ℕ) → month_length y m ≤ 31
unfolding month_length months
month_most y m =
    elim (dec_le 13 m) [
      | yes l ↦ omega (arith, no_month y m l)
      | no l ↦ leb→le (months (leap y) m) 31 (at (λ q. leb (months (leap y) q) 31) 13 (all_most (leap y)) m (lt_of_not-le l))
    ]

pub month_sum_past : (y n : ℕ) → 12 ≤ n → sum (month_length y) n ≡ sum (month_length y) 12
month_sum_past y zero h = absurd (omega arith)
month_sum_past y (suc n) h =
    ⊎_elim
    (λ (e : 12 ≡ suc n). ap (sum (month_length y)) (sym e))
    (λ (l : 12 < suc n). omega (arith, sum_suc (month_length y) n, no_month y (suc n) l, month_sum_past y n (omega arith)))
    (eq-or-lt_of_le h)

year_by : (b : Bool) → sum (months b) 12 ≡ cond b 366 365
unfolding sum months month_lengths
year_by true = refl
year_by false = refl

pub year_months : (y : ℕ) → sum (month_length y) 12 ≡ year_length y
unfolding year_length month_length months
year_months y = year_by (leap y)

-- the days of a year before a month, by the month and by whether the year is leap
module _ (y m : ℕ) where
  pub early : 0 < m → m ≤ 2 → sum (month_length y) (m - 1) ≡ (367 * m - 362) / 12
  early p h = omega (arith, rw (lt-leb 3 m (omega arith)) at (month_start_lem y m p (omega arith)))

  module _ (p : 3 ≤ m) (h : m ≤ 12) where
    pub in_leap : leap y ≡ true → sum (month_length y) (m - 1) + 1 ≡ (367 * m - 362) / 12
    in_leap e = rw (le-leb 3 m p, e) at (month_start_lem y m (omega arith) h)

    pub in_other : leap y ≡ false → sum (month_length y) (m - 1) + 2 ≡ (367 * m - 362) / 12
    in_other e = rw (le-leb 3 m p, e) at (month_start_lem y m (omega arith) h)

  pub past_all : 12 < m → sum (month_length y) (m - 1) ≡ year_length y
  past_all h = month_sum_past y (m - 1) (omega arith) ∙ year_months y

-- for the code, which tells these apart
pub ruleset starts = (early, in_leap, in_other, past_all)

pub year_length_most : (y : ℕ) → year_length y ≤ 366
unfolding year_length
year_length_most y = most (leap y)
  where
    most : (b : Bool) → cond b 366 365 ≤ 366
    most true = lit≤ tt
    most false = lit≤ tt

-- months have up to 31 days, and at most 7 are wanting
bounded : Bool → ℕ → Bool
bounded b q = leb (sum (months b) q) (31 * q) && leb (31 * q) (sum (months b) q + 7)

all_bounded : (b : Bool) → T (all (bounded b) 13)
unfolding bounded sum months month_lengths
all_bounded true = tt
all_bounded false = tt

pub months_bounds : (y q : ℕ) → q < 13 → (sum (month_length y) q ≤ 31 * q) × (31 * q ≤ sum (month_length y) q + 7)
unfolding month_length months bounded
months_bounds y q h =
    let s = sum (months (leap y)) q in
    let t = both (leb s (31 * q)) (leb (31 * q) (s + 7)) (at (bounded (leap y)) 13 (all_bounded (leap y)) q h) in
    (leb→le _ _ t.0, leb→le _ _ t.1)

-- the month of a day of the year: after all the days of q months, and within one month more
pub month_is : (y q n : ℕ) → q ≤ 11 → sum (month_length y) q < n → n ≤ sum (month_length y) (suc q) → month_of y n ≡ suc q
unfolding month_of sum
month_is y q n a h l =
    period_is (month_length y) 11 0 q (n - sum (month_length y) q) n (omega arith) (omega arith) (omega arith)
    (omega (arith, sum_suc (month_length y) q)) (omega arith)

-- the estimate of a month from a day of the year is right, or one month short
module _ (y n : ℕ) (p : 0 < n) (h : n ≤ year_length y) where
  abbrev passed : ℕ
  passed = (n - 1) / 31

  few : passed ≤ 11
  few = omega (arith, year_length_most y)

  fewer : sum (month_length y) (suc passed) < n → passed ≤ 10
  fewer l =
      elim (dec_le passed 10) [
        | yes a ↦ a
        | no a ↦ (let e : passed ≡ 11 = omega (arith, a, few) in
            absurd (omega (arith, ap (λ (i : ℕ). sum (month_length y) (suc i)) e, year_months y)))
      ]

  pub month_right : n ≤ sum (month_length y) (suc passed) → month_of y n ≡ suc passed
  month_right l = month_is y passed n few (omega (arith, months_bounds y passed (omega (arith, few)))) l

  pub month_short : sum (month_length y) (suc passed) < n → month_of y n ≡ suc (suc passed)
  month_short l =
      month_is y (suc passed) n (omega (arith, fewer l)) l
      (omega (arith, months_bounds y (suc (suc passed)) (omega (arith, fewer l))))

pub months_small : (y n : ℕ) → sum (month_length y) n ≤ 366
months_small y n =
    elim (dec_le 12 n) [
      | yes l ↦ omega (arith, month_sum_past y n l, year_months y, year_length_most y)
      | no l ↦ omega (arith, sum_mono (month_length y) n 12 (omega (arith, l)), year_months y, year_length_most y)
    ]
