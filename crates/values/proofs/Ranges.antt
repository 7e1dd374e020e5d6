-- The value of each kind of fact lies in its range (RULES 4), for a valid date, an hour of the day and a valid moment.
-- Assumes nothing.
use Prim.Native.Nat.{ℕ, zero, suc, ◌+◌, ◌%◌, ◌≤◌, ◌<◌}
use mathlib.Core.Bool.{Bool, true, false, cond}
use mathlib.Core.List.{List, [], ◌∷◌}
use mathlib.Core.Logic.{⊎_elim}
use mathlib.Core.Path.{◌≡◌, refl}
use native.Mathlib.Decide.{dec_le, ℕ_discrete}
use native.Mathlib.Nat.{eq-or-lt_of_le, lt_of_not-le, pos_of_ne-zero}
use native.Mathlib.Omega.{arith}
use borrow.Author.Tests.{le-leb, lt-leb, eq-eqb, ne_eqb, leb-true, eqb-true, eqb-false}
use lib.Dec.{eqb, leb, lit<, lit≤}
use lib.ListN.{get_or}
use Rattle.calendar.specs.Calendar.{date_fault, sunday_week, monday_week}
use Rattle.calendar.specs.declared.Date.{Date}
use Rattle.calendar.proofs.Dates.{Valid, no_fault_valid, number_within}
use Rattle.calendar.proofs.Months.{month_most}
use Rattle.calendar.proofs.Ranges.{day_of_year_range, weekday_range, week_most, iso_year_range, iso_week_range}
use Rattle.values.specs.Moments.{moment_fault}
use Rattle.values.specs.Offsets.{is_offset}
use Rattle.values.specs.Values.{day_number_of, date_value, date_values, hour_of_twelve, half_of_day, hour_value, value}
use Rattle.values.specs.declared.Moment.{Moment}

-- the lowest value of each kind, by its number: Y C y m d j u U W G g V, H I p, M S, z; there is no kind 0
unfoldable pub lowest : List ℕ
lowest =
    0 ∷ 1 ∷ 0 ∷ 0 ∷ 1 ∷ 1 ∷ 1 ∷ 1 ∷ 0 ∷ 0 ∷ 1 ∷ 0 ∷ 1 ∷ 0 ∷ 1 ∷ 0 ∷ 0 ∷ 0 ∷ 0 ∷ []

-- the highest, in the same order
unfoldable pub highest : List ℕ
highest =
    0 ∷ 9999 ∷ 99 ∷ 99 ∷ 12 ∷ 31 ∷ 366 ∷ 7 ∷ 53 ∷ 53 ∷ 9999 ∷ 99 ∷ 53 ∷ 23 ∷ 12 ∷ 1 ∷ 59 ∷ 60 ∷ 2878 ∷ []

-- v lies in the range of kind k
abbrev pub Ranged : ℕ → ℕ → Type 0
Ranged k v = (get_or lowest k 0 ≤ v) × (v ≤ get_or highest k 0)

-- what holds of k, k + 1, .., k + n - 1
infixr 67 ◌▸◌
data Each (P : ℕ → Type 0) : ℕ → ℕ → Type 0 where
  end : {k : ℕ} → Each P k zero
  ◌▸◌ : {k n : ℕ} → P k → Each P (suc k) n → Each P k (suc n)

each_at : (P : ℕ → Type 0) (from n : ℕ) → Each P from n → (k : ℕ) → from ≤ k → k < from + n → P k
each_at P from zero end k p q = absurd (omega arith)
each_at P from (suc n) (a ▸ e) k p q =
    ⊎_elim
    (λ (s : from ≡ k). rw s at a)
    (λ (l : from < k). each_at P (suc from) n e k l (omega arith))
    (eq-or-lt_of_le p)

-- kinds 1 to 12, of a valid date
pub date_ranged : (t : Date) → Valid t.year t.month t.day → (k : ℕ) → k ≤ 12 → Ranged k (date_value k t)
unfolding lowest highest date_value date_values sunday_week monday_week
date_ranged t v k h =
    let y = t.year in
    let m = t.month in
    let d = t.day in
    let n = number_within y m d v in
    each_at (λ i. Ranged i (date_value i t)) 0 13
    ((omega arith, omega arith)
    ▸ (v.year_low, v.year_high)
    ▸ (omega arith, omega (arith, v.year_high))
    ▸ (omega arith, omega arith)
    ▸ (v.month_low, v.month_high)
    ▸ (v.day_low, omega (arith, v.day_high, month_most y m))
    ▸ day_of_year_range y m d v
    ▸ weekday_range (day_number_of t)
    ▸ (omega arith, week_most 7 y m d (lit< tt) (lit≤ tt) v)
    ▸ (omega arith, week_most 1 y m d (lit< tt) (lit≤ tt) v)
    ▸ iso_year_range (day_number_of t) n.0 n.1
    ▸ (omega arith, omega arith)
    ▸ iso_week_range (day_number_of t) n.0 n.1
    ▸ end)
    k (omega arith) (omega arith)

twelve_range : (h : ℕ) → (1 ≤ hour_of_twelve h) × (hour_of_twelve h ≤ 12)
unfolding hour_of_twelve
twelve_range h = go (ℕ_discrete (h % 12) 0)
  where
    go : Dec (h % 12 ≡ 0) → (1 ≤ cond (eqb (h % 12) 0) 12 (h % 12)) × (cond (eqb (h % 12) 0) 12 (h % 12) ≤ 12)
    go (yes e) = rw (eq-eqb (h % 12) 0 e) (omega arith, omega arith)
    go (no n) = rw (ne_eqb (h % 12) 0 n) (omega (arith, pos_of_ne-zero n), omega arith)

half_range : (h : ℕ) → half_of_day h ≤ 1
unfolding half_of_day
half_range h = go (leb 12 h)
  where
    go : (b : Bool) → cond b 1 0 ≤ 1
    go true = omega arith
    go false = omega arith

-- kinds 13 to 15, of an hour of the day
pub hour_ranged : (h : ℕ) → h ≤ 23 → (k : ℕ) → 13 ≤ k → k ≤ 15 → Ranged k (hour_value k h)
unfolding lowest highest hour_value
hour_ranged h l k p q =
    each_at (λ i. Ranged i (hour_value i h)) 13 3
    ((omega arith, l) ▸ twelve_range h ▸ (omega arith, half_range h) ▸ end)
    k p (omega arith)

-- a valid moment
pub record ValidMoment (m : Moment) : Type 0 where
  pub date : Valid m.date.year m.date.month m.date.day
  pub hour : m.hour ≤ 23
  pub minute : m.minute ≤ 59
  pub second : m.second ≤ 60
  pub offset : is_offset m.offset ≡ true

no_fault : (b : Bool) (x f : ℕ) → (b ≡ false → 0 < f) → cond b x f ≡ 0 → (b ≡ true) × (x ≡ 0)
no_fault true x f p e = (refl, e)
no_fault false x f p e = absurd (omega (arith, p refl, e))

-- a moment without a bad field is valid
pub no_fault_moment : (m : Moment)
    → moment_fault m.date.year m.date.month m.date.day m.hour m.minute m.second m.offset ≡ 0
    → ValidMoment m
unfolding moment_fault
no_fault_moment m e =
    let a = no_fault (eqb (date_fault m.date.year m.date.month m.date.day) 0) _ _ (λ z. pos_of_ne-zero (eqb-false _ _ z)) e in
    let b = no_fault (leb m.hour 23) _ 4 (λ _. omega arith) a.1 in
    let c = no_fault (leb m.minute 59) _ 5 (λ _. omega arith) b.1 in
    let f = no_fault (leb m.second 60) _ 6 (λ _. omega arith) c.1 in
    let g = no_fault (is_offset m.offset) 0 7 (λ _. omega arith) f.1 in
    record {
      date = no_fault_valid m.date.year m.date.month m.date.day (eqb-true _ _ a.0);
      hour = leb-true m.hour 23 b.0;
      minute = leb-true m.minute 59 c.0;
      second = leb-true m.second 60 f.0;
      offset = g.0;
    }

-- kinds 16 to 18: the zone offset has no value, but is written and read by itself
neither_ranged : (m : Moment) → ValidMoment m → (k : ℕ) → 16 ≤ k → k ≤ 18 → Ranged k (value k m)
unfolding lowest highest value
neither_ranged m v k p q =
    each_at (λ i. Ranged i (value i m)) 16 3
    ((omega arith, v.minute) ▸ (omega arith, v.second) ▸ (omega arith, omega arith) ▸ end)
    k p (omega arith)

-- every kind, of a valid moment
pub value_ranged : (m : Moment) → ValidMoment m → (k : ℕ) → k ≤ 18 → Ranged k (value k m)
unfolding value
value_ranged m v k h = day (dec_le k 12)
  where
    hour : 12 < k → Dec (k ≤ 15) → Ranged k (value k m)
    hour l (yes p) = rw (lt-leb k 12 l, le-leb k 15 p) (hour_ranged m.hour v.hour k l p)
    hour l (no p) = neither_ranged m v k (lt_of_not-le p) h

    day : Dec (k ≤ 12) → Ranged k (value k m)
    day (yes p) = rw (le-leb k 12 p) (date_ranged m.date v.date k p)
    day (no p) = hour (lt_of_not-le p) (dec_le k 15)
