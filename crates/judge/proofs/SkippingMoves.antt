-- The moves of the engine that skips: from year to year, to a month, to a day and on, over plain numbers. Each passes over days that
-- cannot agree.
-- Assumes nothing.
use Prim.Native.Nat.{ℕ, ◌+◌, ◌-◌, ◌%◌, ◌≤◌, ◌<◌, min}
use mathlib.Core.Bool.{Bool, true, false}
use mathlib.Core.Logic.{⊎_elim}
use mathlib.Core.Path.{◌≡◌}
use native.Mathlib.Decide.{dec_le}
use native.Mathlib.Nat.{eq-or-lt_of_le}
use native.Mathlib.Omega.{arith}
use Rattle.calendar.specs.Calendar.{sum, year_length, month_length, days_before, day_of_year, day_number, days, date_of, iso_year}
use Rattle.calendar.specs.Calendar.{last_year}
use Rattle.agreement.specs.Agreement.{day_agrees}
use Rattle.agreement.specs.Search.{hit, first_two}
use Rattle.agreement.specs.declared.Facts.{Facts}
use Rattle.agreement.specs.declared.Found.{Found}
use Rattle.agreement.specs.declared.Found.TheVariants.{Nothing}
use Rattle.judge.specs.Private.{year_span, year_step, first_year, month_span, year_days, month_start, month_day_span}
use Rattle.judge.specs.declared.spans.Span.{Span}
use Rattle.calendar.proofs.Dates.{Valid}
use Rattle.calendar.proofs.Months.{month_most, year_months, year_length_most}
use Rattle.calendar.proofs.Sum.{sum_mono, sum_last}
use Rattle.calendar.proofs.Years.{days_is, days_before_is, days_before_next}
use Rattle.judge.proofs.Agreeing.{Agreeing, agreeing, agreeing_at, before_mono}
use Rattle.judge.proofs.SpanLaws.{In, years_low, years_in, steps, no_steps, stepped_on, next_step}
use Rattle.judge.proofs.SpanLaws.{months_most, months_in, days_in, span_low, span_high, span_in}
use Rattle.judge.proofs.Upto.{Upto, upto_start, upto_skip, upto_hit, upto_miss, upto_none}

pub before_few : (y : ℕ) → y ≤ last_year + 1 → days_before y ≤ 3652059
unfolding days_before days
before_few y h = omega (arith, sum_mono year_length (y - 1) last_year (omega arith), days_is)

-- a month's first day comes no earlier than its year's, and no later than the next year's; months come in order
start_mono : (y m m' : ℕ) → m ≤ m' → month_start (days_before y) y m ≤ month_start (days_before y) y m'
start_mono y m m' h = omega (arith, sum_mono (month_length y) (m - 1) (m' - 1) (omega arith))

pub start_most : (y m : ℕ) → 0 < y → m ≤ 13 → month_start (days_before y) y m ≤ days_before (y + 1)
start_most y m p h = omega (arith, sum_mono (month_length y) (m - 1) 12 (omega arith), year_months y, days_before_next y p)

start_next : (y m : ℕ) → 0 < m → month_start (days_before y) y (m + 1) ≡ month_start (days_before y) y m + month_length y m
start_next y m p = let e : m + 1 - 1 ≡ m = omega arith in rw e (omega (arith, sum_last (month_length y) m p))

-- the days of a month that can agree
abbrev pub can : Facts → ℕ → ℕ → Span
can f y m = month_day_span f (year_days f (days_before y) (year_length y)) (month_start (days_before y) y m) (month_length y m)

module _ (f : Facts) (horizon : ℕ) where
  -- the test, the days of the years up to the horizon, and the first year that can agree
  abbrev p : ℕ → Bool
  p = day_agrees f

  abbrev n : ℕ
  n = sum year_length horizon

  abbrev first : ℕ
  first = first_year f (year_span f horizon).first

  -- at the start of a year that can agree
  pub record AtYear (year : ℕ) (found : Found) : Type 0 where
    pub low : first ≤ year
    pub stepped : (year - first) % year_step f ≡ 0
    pub upto : Upto p n (days_before year + 1) found

  -- at the start of a month that can agree, or past the last
  pub record AtMonth (year month : ℕ) (found : Found) : Type 0 where
    pub low : (month_span f year).first ≤ month
    pub high : month ≤ 13
    pub upto : Upto p n (month_start (days_before year) year month + 1) found

  -- at a day of a month, or past the last that can agree
  pub record AtDay (year month number : ℕ) (found : Found) : Type 0 where
    pub low : month_start (days_before year) year month < number
    pub upto : Upto p n (min number (month_start (days_before year) year (month + 1) + 1)) found

  module _ (far : horizon ≤ last_year) where
    all-days : n ≤ days
    unfolding days
    all-days = sum_mono year_length horizon last_year far

    -- a day of these years that agrees: its year, month, day and ISO year
    pub record Dated (k : ℕ) : Type 0 where
      pub y : ℕ
      pub m : ℕ
      pub d : ℕ
      pub g : ℕ
      pub says : Agreeing f k y m d g
      pub in_span : In (year_span f horizon) y
      pub on_step : (first ≤ y) × ((y - first) % year_step f ≡ 0)
      pub in_months : In (month_span f y) m
      pub after_start : days_before y < k
      pub upto_end : k ≤ month_start (days_before y) y (m + 1)

    dated : (k : ℕ) → 0 < k → k ≤ n → p k ≡ true → Dated k
    unfolding days_before
    dated k low high e =
        let s = agreeing f k low (omega (arith, all-days)) e in
        let v = s.valid in
        let t = date_of k in
        let near : t.year ≤ horizon
        = elim (dec_le t.year horizon) [
          | yes l ↦ l
          | no l ↦ absurd (omega (arith, s.at, v.day_low, sum_mono year_length horizon (t.year - 1) (omega (arith, l))))
        ] in
        let i : In (year_span f horizon) t.year
        = years_in f horizon t.year (iso_year k) v.year_low near v.year_high s.year s.century s.iso_year_lem
        s.not_before s.not_after in
        record {
          y = t.year;
          m = t.month;
          d = t.day;
          g = iso_year k;
          says = s;
          in_span = i;
          on_step = stepped_on f (year_span f horizon).first t.year i.from s.year_in_century_lem;
          in_months =
              months_in f t.year t.month (iso_year k) v.month_low v.month_high s.month s.iso_year_in_century_lem
              s.not_before s.not_after;
          after_start = omega (arith, s.at, v.day_low);
          upto_end = omega (arith, s.at, v.day_high, start_next t.year t.month v.month_low);
        }

    -- past the days before a year, only that year and later ones are left
    no-earlier : (y k : ℕ) (t : Dated k) → days_before y < k → y ≤ t.y
    no-earlier y k t h =
        elim (dec_le y t.y) [
          | yes l ↦ l
          | no l ↦ absurd
              (omega (
                arith,
                t.upto_end,
                start_most t.y (t.m + 1) t.says.valid.year_low (omega (arith, t.says.valid.month_high)),
                before_mono (t.y + 1) y (omega (arith, l)),
              ))
        ]

    later-start : (y k : ℕ) (t : Dated k) → y ≤ t.y → days_before y < k
    later-start y k t h = omega (arith, t.after_start, before_mono y t.y h)

    pub year_low : (y : ℕ) (h : Found) → AtYear y h → 0 < y
    year_low y h a = omega (arith, a.low, steps f (year_span f horizon).first, years_low f horizon)

    pub first_year_lem : AtYear first Nothing
    first_year_lem =
        record {
          low = omega arith;
          stepped = let e : first - first ≡ 0 = omega arith in rw e (no_steps f);
          upto = upto_skip p n 1 (days_before first + 1) Nothing (upto_start p n) (omega arith)
              (λ k a b e. let t = dated k a b e in omega (arith, later-start first k t t.on_step.0));
        }

    pub no_more_years : (y : ℕ) (h : Found) → AtYear y h → (year_span f horizon).last < y → h ≡ first_two p 1 n
    no_more_years y h a l =
        upto_none p n (days_before y + 1) h a.upto
        (λ k b c e. let t = dated k (omega arith) c e in omega (arith, no-earlier y k t (omega arith), t.in_span.to))

    pub first_month : (y : ℕ) (h : Found) → AtYear y h → AtMonth y (month_span f y).first h
    first_month y h a =
        record {
          low = omega arith;
          high = months_most f y;
          upto = upto_skip p n (days_before y + 1) (month_start (days_before y) y (month_span f y).first + 1) h a.upto (omega arith)
              (λ k b c e. after k (dated k (omega arith) c e) b);
        }
      where
        after : (k : ℕ) (t : Dated k) → days_before y + 1 ≤ k → month_start (days_before y) y (month_span f y).first + 1 ≤ k
        after k t b =
            ⊎_elim
            (λ (s : y ≡ t.y).
            rw s
            (omega (
              arith,
              t.says.at,
              t.says.valid.day_low,
              start_mono t.y (month_span f t.y).first t.m t.in_months.from,
            )))
            (λ (s : y < t.y).
            omega (arith, start_most y (month_span f y).first (year_low y h a) (months_most f y), later-start (y + 1) k t (omega arith)))
            (eq-or-lt_of_le (no-earlier y k t (omega arith)))

    pub next_year : (y m : ℕ) (h : Found) → 0 < y → (first ≤ y) × ((y - first) % year_step f ≡ 0) → AtMonth y m h
        → (month_span f y).last < m
        → AtYear (y + year_step f) h
    next_year y m h q on a l =
        record {
          low = omega (arith, on.0);
          stepped = (next_step f first y y on.0 on.1).0;
          upto = upto_skip p n (month_start (days_before y) y m + 1) (days_before (y + year_step f) + 1) h a.upto
              (omega (arith, start_most y m q a.high, before_mono (y + 1) (y + year_step f) (omega (arith, steps f 0))))
              (λ k b c e. let t = dated k (omega arith) c e in omega (arith, later-start (y + year_step f) k t (after k t b)));
        }
      where
        -- not this year: its months that can agree are past
        after : (k : ℕ) (t : Dated k) → month_start (days_before y) y m + 1 ≤ k → y + year_step f ≤ t.y
        after k t b =
            ⊎_elim
            (λ (s : y ≡ t.y).
            let c : (month_span f t.y).last < m = rw s at l in
            let d : month_start (days_before t.y) t.y m + 1 ≤ k = rw s at b in
            absurd (omega (arith, t.upto_end, start_mono t.y (t.m + 1) m (omega (arith, t.in_months.to)))))
            (λ (s : y < t.y). (next_step f first y t.y on.0 on.1).1 s t.on_step.1)
            (eq-or-lt_of_le (no-earlier y k t (omega arith)))

    module _ (y m : ℕ) (q : 0 < y) (far-year : y ≤ last_year) (a : 0 < m) (b : m ≤ 12) where
      abbrev start : ℕ
      start = month_start (days_before y) y m

      abbrev end : ℕ
      end = month_start (days_before y) y (m + 1)

      abbrev span : Span
      span = can f y m

      end_is : end ≡ start + month_length y m
      end_is = start_next y m a

      pub valid_here : (k : ℕ) → start < k → k ≤ end → Valid y m (k - start)
      valid_here k l h =
          record {
            year_low = q;
            year_high = far-year;
            month_low = a;
            month_high = b;
            day_low = omega arith;
            day_high = omega (arith, end_is);
          }

      number-here : (k : ℕ) → start < k → day_number y m (k - start) ≡ k
      unfolding day_number day_of_year
      number-here k l = omega arith

      -- each day of the month that agrees is one of them
      in-can : (k : ℕ) → start < k → k ≤ end → p k ≡ true → In span k
      in-can k l h e =
          let v = valid_here k l h in
          let s = rw (number-here k l) at (agreeing_at f y m (k - start) v (rw (number-here k l) e)) in
          span_in f (year_days f (days_before y) (year_length y)) start (month_length y m) k (k - start)
          (days_in f (days_before y) (year_length y) k (year_length_most y) (omega arith)
          (omega (arith, start_most y (m + 1) q (omega arith), days_before_next y q)) s.day_of_year_lem s.sunday_week_lem s.monday_week_lem)
          (omega arith) v.day_low v.day_high (month_most y m) s.day

      pub first_day : (h : Found) → AtMonth y m h → AtDay y m span.first h
      first_day h c =
          record {
            low = omega (arith, span_low f (year_days f (days_before y) (year_length y)) start (month_length y m));
            upto = upto_skip p n (start + 1) (min span.first (end + 1)) h c.upto
                (omega (arith, span_low f (year_days f (days_before y) (year_length y)) start (month_length y m), end_is))
                (λ k l g e. after k l e);
          }
        where
          after : (k : ℕ) → start + 1 ≤ k → p k ≡ true → min span.first (end + 1) ≤ k
          after k l e =
              elim (dec_le k end) [
                | yes g ↦ omega (arith, (in-can k (omega arith) g e).from)
                | no g ↦ omega (arith, g)
              ]

      last-high : span.last ≤ end
      last-high = omega (arith, end_is, span_high f (year_days f (days_before y) (year_length y)) start (month_length y m))

      -- the day at hand is looked at
      module _ (k : ℕ) (h : Found) (c : AtDay y m k h) (l : k ≤ span.last) (few : y ≤ horizon) where
        pub in_month : k ≤ end
        in_month = omega (arith, last-high)

        pub one_of : k ≤ n
        one_of =
            omega (
              arith,
              days_before_is (horizon + 1) horizon (omega arith),
              in_month,
              start_most y (m + 1) q (omega arith),
              before_mono (y + 1) (horizon + 1) (omega arith),
            )

        at-number : Upto p n k h
        at-number = let e : min k (end + 1) ≡ k = omega (arith, in_month) in rw e at c.upto

        onward : (h : Found) → Upto p n (k + 1) h → AtDay y m (k + 1) h
        onward h u =
            let e : k + 1 ≡ min (k + 1) (end + 1) = omega (arith, in_month) in
            record { low = omega (arith, c.low); upto = rw e at u }

        pub next_day_hit : p k ≡ true → AtDay y m (k + 1) (hit k h)
        next_day_hit e = onward (hit k h) (upto_hit p n k h at-number one_of e)

        pub next_day_miss : p k ≡ false → AtDay y m (k + 1) h
        next_day_miss e = onward h (upto_miss p n k h at-number one_of e)

      pub next_month : (k : ℕ) (h : Found) → (month_span f y).first ≤ m → AtDay y m k h → span.last < k → AtMonth y (m + 1) h
      next_month k h i c l =
          record {
            low = omega (arith, i);
            high = omega arith;
            upto = upto_skip p n (min k (end + 1)) (end + 1) h c.upto (omega arith) (λ j g s e. after j g e);
          }
        where
          after : (j : ℕ) → min k (end + 1) ≤ j → p j ≡ true → end + 1 ≤ j
          after j g e =
              elim (dec_le j end) [
                | yes s ↦ absurd (omega (arith, (in-can j (omega (arith, c.low)) s e).to))
                | no s ↦ omega (arith, s)
              ]
