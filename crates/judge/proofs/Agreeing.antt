-- What a day that agrees says of its own year, month and day, in the numbers that the engines work with.
-- Assumes nothing.
use Prim.Native.Nat.{ℕ, ◌+◌, ◌-◌, ◌/◌, ◌%◌, ◌≤◌, ◌<◌}
use mathlib.Core.Bool.{true}
use mathlib.Core.Path.{◌≡◌, refl, sym}
use native.Mathlib.Decide.{dec_le}
use native.Mathlib.Omega.{arith}
use lib.Dec.{lit<}
use lib.ListN.{get_or}
use Rattle.calendar.specs.Calendar.{year_length, days_before, day_of_year, day_number, days, date_of, month_of, thursday, iso_year}
use Rattle.calendar.specs.declared.Date.{Date}
use Rattle.kinds.specs.Kinds as kinds
use Rattle.kinds.specs.Kinds.{day_kinds}
use Rattle.values.specs.Values.{date_value, date_values}
use Rattle.agreement.specs.Agreement.{said, agrees, date_agrees, day_agrees}
use Rattle.agreement.specs.declared.Facts.{Facts}
use Rattle.judge.specs.Private.{month_start}
use Rattle.calendar.proofs.Dates.{Valid, Found, Parts, parts, number_of_date, within_year, number_within, date_of_number}
use Rattle.calendar.proofs.Ranges.{thursday_within, iso_year_range}
use Rattle.calendar.proofs.Sum.{sum_mono}
use Rattle.calendar.proofs.Years.{year_least, days_before_next}
use Rattle.judge.proofs.DayValues.{day_of_year_is, sunday_week_is, monday_week_is}
use Rattle.laws.proofs.Lists.{each}

-- day k is day d of month m of year y, and g is its ISO year
pub record Agreeing (f : Facts) (k y m d g : ℕ) : Type 0 where
  pub valid : Valid y m d
  pub at : k ≡ month_start (days_before y) y m + d
  pub year : agrees (said f kinds.year) y ≡ true
  pub century : agrees (said f kinds.century) (y / 100) ≡ true
  pub year_in_century_lem : agrees (said f kinds.year_in_century) (y % 100) ≡ true
  pub month : agrees (said f kinds.month) m ≡ true
  pub day : agrees (said f kinds.day) d ≡ true
  pub day_of_year_lem : agrees (said f kinds.day_of_year) (k - days_before y) ≡ true
  pub sunday_week_lem : agrees (said f kinds.sunday_week) (k / 7 - days_before y / 7) ≡ true
  pub monday_week_lem : agrees (said f kinds.monday_week) ((k + 6) / 7 - (days_before y + 6) / 7) ≡ true
  pub iso_year_lem : agrees (said f kinds.iso_year) g ≡ true
  pub iso_year_in_century_lem : agrees (said f kinds.iso_year_in_century) (g % 100) ≡ true
  pub not_before : y ≤ g + 1
  pub not_after : g ≤ y + 1

-- days before two years
pub before_mono : (y z : ℕ) → y ≤ z → days_before y ≤ days_before z
unfolding days_before
before_mono y z h = sum_mono year_length (y - 1) (z - 1) (omega arith)

-- two days that are at most three days apart lie in the same year or in two that follow each other
near : (a b y z : ℕ) → 0 < y → days_before y < a → a ≤ days_before (y + 1) → days_before z < b → b ≤ a + 3 → z ≤ y + 1
near a b y z h l m n o =
    elim (dec_le z (y + 1)) [
      | yes e ↦ e
      | no e ↦ absurd
          (omega (arith, before_mono (y + 1 + 1) z (omega (arith, e)), days_before_next (y + 1) (omega arith), year_least (y + 1)))
    ]

module _ (f : Facts) (k : ℕ) (low : 0 < k) (high : k ≤ days) (e : day_agrees f k ≡ true) where
  abbrev t : Date
  t = date_of k

  placed : Found k t
  placed = number_of_date k low high

  -- each kind that bears on the day, by its place in the list
  at_place : (i : ℕ) → i < 12 → agrees (said f (get_or day_kinds i 0)) (date_value (get_or day_kinds i 0) t) ≡ true
  unfolding day_agrees date_agrees day_kinds
  at_place i h = each (λ j. agrees (said f j) (date_value j t)) 0 day_kinds e i (λ l. absurd (omega arith))

  -- the ISO year
  about : Parts (thursday k) (iso_year k) (thursday k - days_before (iso_year k))
      (month_of (iso_year k) (thursday k - days_before (iso_year k)))
  unfolding iso_year
  about = let w = thursday_within k low high in parts (thursday k) w.0 w.1

  in-year : (days_before t.year < k) × (k ≤ days_before (t.year + 1))
  unfolding day_number
  in-year =
      let v = placed.valid in
      let w = within_year t.year t.month t.day v in
      (omega (arith, placed.number, w), omega (arith, placed.number, w, days_before_next t.year v.year_low))

  apart : (thursday k ≤ k + 3) × (k ≤ thursday k + 3)
  unfolding thursday
  apart = (omega arith, omega arith)

  iso-year-low : 0 < iso_year k
  iso-year-low = (iso_year_range k low high).0

  pub agreeing : Agreeing f k t.year t.month t.day (iso_year k)
  unfolding day_kinds date_value date_values day_number day_of_year
  agreeing =
      let n = placed.number in
      record {
        valid = placed.valid;
        at = omega (arith, n);
        year = at_place 0 (lit< tt);
        century = at_place 1 (lit< tt);
        year_in_century_lem = at_place 2 (lit< tt);
        month = at_place 3 (lit< tt);
        day = at_place 4 (lit< tt);
        day_of_year_lem = rw (day_of_year_is t (sym n) refl) (at_place 5 (lit< tt));
        sunday_week_lem = rw (sunday_week_is t (sym n) refl) (at_place 7 (lit< tt));
        monday_week_lem = rw (monday_week_is t (sym n) refl) (at_place 8 (lit< tt));
        iso_year_lem = rw n at (at_place 9 (lit< tt));
        iso_year_in_century_lem = rw n at (at_place 10 (lit< tt));
        not_before =
            near (thursday k) k (iso_year k) t.year iso-year-low about.start
            (omega (arith, about.end, days_before_next (iso_year k) iso-year-low)) in-year.0 apart.1;
        not_after = near k (thursday k) t.year (iso_year k) placed.valid.year_low in-year.0 in-year.1 about.start apart.0;
      }

-- the same of a day whose year, month and day are known
pub agreeing_at : (f : Facts) (y m d : ℕ) → Valid y m d → day_agrees f (day_number y m d) ≡ true
    → Agreeing f (day_number y m d) y m d (iso_year (day_number y m d))
agreeing_at f y m d v e =
    let w = number_within y m d v in
    let t = date_of_number y m d v in
    rw t at (agreeing f (day_number y m d) w.0 w.1 e)
