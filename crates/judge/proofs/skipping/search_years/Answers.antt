-- `judge::skipping::search_years` meets its contract. Assumes nothing.
use Prim.Native.Nat.{ℕ, ◌+◌, ◌-◌, ◌≤◌, ◌<◌}
use mathlib.Core.Bool.{true, false}
use mathlib.Core.Path.{◌≡◌, sym, ap, ap₂, ◌∙◌}
use native.Mathlib.Omega.{arith}
use Rattle.calendar.specs.Calendar.{sum, year_length, month_length, days_before, day_of_year, day_number, date, date_of, last_year}
use Rattle.calendar.specs.declared.Date.{Date}
use Rattle.agreement.specs.Agreement.{date_agrees, day_agrees}
use Rattle.agreement.specs.Search.{hit}
use Rattle.agreement.specs.declared.Facts.{Facts}
use Rattle.judge.specs.Private.{iso_kinds, year_days, month_start, month_day_span}
use Rattle.judge.specs.declared.spans.Span.{Span}
use Rattle.laws.specs.Lists.{range}
use Rattle.calendar.proofs.Dates.{Valid, number_within, date_of_number}
use Rattle.calendar.proofs.Months.{month_most, year_length_most}
use Rattle.calendar.proofs.Years.{days_is}
use Rattle.judge.proofs.SkippingMoves.{AtYear, AtDay, before_few, year_low, first_year_lem, no_more_years, first_month, next_year}
use Rattle.judge.proofs.SkippingMoves.{start_most, can, first_day, next_day_hit, next_day_miss, next_month}
use Rattle.judge.proofs.SpanLaws.{years_most, years_high, steps, months_low, months_high, span_high}
use Rattle.judge.proofs.Upto.{upto_two}
use Rattle.judge.proofs.skipping.search_years.Goals as goal
use Rattle.judge.proofs.skipping.search_years.Goals.{In-years, After-day_number-before, After-year_days-days, In-loop-month}
use Rattle.judge.proofs.skipping.search_years.Goals.{After-month_start-start, After-month_days-span, In-loop-number}
use Rattle.judge.proofs.skipping.search_years.Goals.{After-date_at-date, After-day_agrees, then-day_agrees+else-is_two}
use Rattle.judge.proofs.skipping.search_years.Goals.{else-day_agrees, After-loop-month, Then-months}

-- ---- in a year that can agree
some_year : (c : In-years) → 0 < c.years.year
some_year c = year_low _ _ c.requires _ _ c.years.invariant

few-years : (c : In-years) → c.years.year ≤ c.args.horizon
few-years c =
    omega (arith, ap (λ (x : Span). x.last) c.year_span-years.ensures, c.years-test.true, years_high c.args.facts c.args.horizon)

far-year : (c : In-years) → c.years.year ≤ last_year
far-year c = omega (arith, few-years c, c.requires)

-- how many days stand before it, and which of its days can agree
before_number : (c : After-day_number-before) → c.day_number-before.result ≡ days_before c.years.year + 1
unfolding day_number day_of_year sum
before_number c =
    c.day_number-before.ensures ∙ ap (λ (t : Date). day_number t.year t.month t.day) c.date_at.ensures ∙ omega arith

before-is : (c : After-day_number-before) → c.day_number-before.result - 1 ≡ days_before c.years.year
before-is c = omega (arith, before_number c)

before_small : (c : After-day_number-before) → c.day_number-before.result - 1 ≤ 3652059
before_small c = omega (arith, before-is c, before_few c.years.year (omega (arith, far-year (goal.at.After-day_number-before c).In-years)))

days-is-here : (c : After-year_days-days)
    → c.year_days-days.result ≡ year_days c.args.facts (days_before c.years.year) (year_length c.years.year)
days-is-here c =
    c.year_days-days.ensures
    ∙ ap₂ (λ (a b : ℕ). year_days c.args.facts a b)
    (before-is (goal.at.After-year_days-days c).After-day_number-before) c.year_length.ensures

-- ---- in a month that can agree
some_month : (c : In-loop-month) → 0 < c.loop-month.month
some_month c = omega (arith, c.loop-month.invariant.low, months_low c.args.facts c.years.year)

few-months : (c : In-loop-month) → c.loop-month.month ≤ 12
few-months c =
    let e = ap (λ (x : Span). x.last) c.month_span-months.ensures in
    omega (arith, c.loop-month-test.true, e, months_high c.args.facts c.years.year)

-- where it starts, and which of its days can agree
start_is : (c : After-month_start-start)
    → c.month_start-start.result ≡ month_start (days_before c.years.year) c.years.year c.loop-month.month
start_is c =
    c.month_start-start.ensures
    ∙ ap (λ (b : ℕ). month_start b c.years.year c.loop-month.month) (before-is (goal.at.After-month_start-start c).After-day_number-before)

start_small : (c : After-month_start-start) → c.month_start-start.result ≤ 3652059
start_small c =
    let y = (goal.at.After-month_start-start c).In-years in
    let m = (goal.at.After-month_start-start c).In-loop-month in
    omega (
      arith,
      start_is c,
      start_most c.years.year c.loop-month.month (some_year y) (omega (arith, few-months m)),
      before_few (c.years.year + 1) (omega (arith, far-year y)),
    )

span-alike : (f : Facts) {x x' : Span} {a a' b b' : ℕ} → x ≡ x' → a ≡ a' → b ≡ b' → month_day_span f x a b ≡ month_day_span f x' a' b'
span-alike f e g h = rw (e, g, h)

span-is : (c : After-month_days-span) → c.month_days-span.result ≡ can c.args.facts c.years.year c.loop-month.month
span-is c =
    c.month_days-span.ensures
    ∙ span-alike c.args.facts (days-is-here (goal.at.After-month_days-span c).After-year_days-days)
    (start_is (goal.at.After-month_days-span c).After-month_start-start) c.month_length.ensures

-- ---- at a day that can agree
module _ (c : In-loop-number) where
  abbrev here-year : In-years
  here-year = (goal.at.In-loop-number c).In-years

  abbrev here-month : In-loop-month
  here-month = (goal.at.In-loop-number c).In-loop-month

  abbrev f : Facts
  f = c.args.facts

  abbrev horizon : ℕ
  horizon = c.args.horizon

  abbrev y : ℕ
  y = c.years.year

  abbrev m : ℕ
  m = c.loop-month.month

  abbrev number : ℕ
  number = c.loop-number.number

  abbrev start : ℕ
  start = month_start (days_before y) y m

  not-past : number ≤ (can f y m).last
  not-past =
      omega (arith, c.loop-number-test.true, ap (λ (x : Span). x.last) (span-is (goal.at.In-loop-number c).After-month_days-span))

  in-its-month : number ≤ start + month_length y m
  in-its-month = omega (arith, not-past, span_high f (year_days f (days_before y) (year_length y)) start (month_length y m))

  start-here : c.month_start-start.result ≡ start
  start-here = start_is (goal.at.In-loop-number c).After-month_start-start

  valid : Valid y m (number - start)
  valid =
      record {
        year_low = some_year here-year;
        year_high = far-year here-year;
        month_low = some_month here-month;
        month_high = few-months here-month;
        day_low = omega (arith, c.loop-number.invariant.low);
        day_high = omega (arith, in-its-month);
      }

  number_is : day_number y m (number - start) ≡ number
  unfolding day_number day_of_year
  number_is = omega (arith, c.loop-number.invariant.low)

  -- and on to the next
  on-hit : day_agrees f number ≡ true → AtDay f horizon y m (number + 1) (hit number c.loop-number.found)
  on-hit =
      next_day_hit f horizon c.requires y m (some_year here-year) (far-year here-year) (some_month here-month) (few-months here-month)
      number c.loop-number.found c.loop-number.invariant not-past (few-years here-year)

  on-miss : day_agrees f number ≡ false → AtDay f horizon y m (number + 1) c.loop-number.found
  on-miss =
      next_day_miss f horizon c.requires y m (some_year here-year) (far-year here-year) (some_month here-month) (few-months here-month)
      number c.loop-number.found c.loop-number.invariant not-past (few-years here-year)

  a-day : number ≤ 3652059
  a-day = omega (arith, number_is, number_within y m (number - start) valid, days_is)

-- its test is the agreement of its number
dated : (c : After-date_at-date) → let d = (goal.at.After-date_at-date c).In-loop-number in
    c.date_at-date.result ≡ date (y d) (m d) (number d - start d)
dated c =
    let d = (goal.at.After-date_at-date c).In-loop-number in
    c.date_at-date.ensures ∙ ap (λ (a : ℕ). date (y d) (m d) (number d - a)) (start-here d)

tested : (c : After-day_agrees) → c.day_agrees.result ≡ day_agrees c.args.facts c.loop-number.number
unfolding day_agrees
tested c =
    let w = (goal.at.After-day_agrees c).In-loop-number in
    c.day_agrees.ensures
    ∙ ap (date_agrees (f w))
    (dated (goal.at.After-day_agrees c).After-date_at-date ∙ sym (date_of_number _ _ _ (valid w)) ∙ ap date_of (number_is w))

-- the ends of the loops' ranges are small
pub overflow_add-year-end : goal.overflow_add-year-end
overflow_add-year-end c =
    omega (arith, ap (λ (x : Span). x.last) c.year_span-years.ensures, years_high c.args.facts c.args.horizon, c.requires)

pub nonzero_div-step : goal.nonzero_div-step
nonzero_div-step c = omega (arith, c.year_step-step.ensures, steps c.args.facts 0)

pub overflow_add-month-end : goal.overflow_add-month-end
overflow_add-month-end c =
    omega (arith, ap (λ (x : Span). x.last) c.month_span-months.ensures, months_high c.args.facts c.years.year)

pub first_year-first-requires : goal.first_year-first-requires
first_year-first-requires c = rw c.year_span-years.ensures (years_most _ _)

pub years-init : goal.years-init
years-init c = rw (c.first_year-first.ensures, c.year_span-years.ensures) (first_year_lem _ _ c.requires)

pub date_at-requires : goal.date_at-requires
date_at-requires c = omega (arith, far-year (goal.at.date_at-requires c).In-years)

pub overflow_sub-before : goal.overflow_sub-before
overflow_sub-before c = omega (arith, before_number (goal.at.overflow_sub-before c).After-day_number-before)

pub year_days-days-requires : goal.year_days-days-requires
year_days-days-requires c = (
  before_small (goal.at.year_days-days-requires c).After-day_number-before,
  omega (arith, c.year_length.ensures, year_length_most c.years.year),
)

pub month_span-months-requires : goal.month_span-months-requires
month_span-months-requires c = omega (arith, far-year (goal.at.month_span-months-requires c).In-years)

pub loop-month-init : goal.loop-month-init
loop-month-init c = rw c.month_span-months.ensures (first_month _ _ c.requires _ _ c.years.invariant)

pub month_start-start-requires : goal.month_start-start-requires
month_start-start-requires c =
    let m = (goal.at.month_start-start-requires c).In-loop-month in (
      before_small (goal.at.month_start-start-requires c).After-day_number-before,
      omega (arith, far-year (goal.at.month_start-start-requires c).In-years),
      some_month m,
      few-months m,
    )

pub month_days-span-requires : goal.month_days-span-requires
month_days-span-requires c = (
  start_small (goal.at.month_days-span-requires c).After-month_start-start,
  omega (arith, c.month_length.ensures, month_most c.years.year c.loop-month.month),
)

pub overflow_add-number-end : goal.overflow_add-number-end
overflow_add-number-end c =
    omega (
      arith,
      ap (λ (x : Span). x.last) c.month_days-span.ensures,
      span_high c.args.facts c.year_days-days.result c.month_start-start.result c.month_length.result,
      start_small (goal.at.overflow_add-number-end c).After-month_start-start,
      c.month_length.ensures,
      month_most c.years.year c.loop-month.month,
    )

pub loop-number-init : goal.loop-number-init
loop-number-init c =
    let y = (goal.at.loop-number-init c).In-years in
    let m = (goal.at.loop-number-init c).In-loop-month in
    rw (span-is (goal.at.loop-number-init c).After-month_days-span)
    (first_day _ _ c.requires _ _ (some_year y) (far-year y) (some_month m) (few-months m) _ c.loop-month.invariant)

pub overflow_sub-number : goal.overflow_sub-number
overflow_sub-number c = omega (arith, start_is (goal.at.overflow_sub-number c).After-month_start-start, c.loop-number.invariant.low)

pub date_at-date-requires : goal.date_at-date-requires
date_at-date-requires c =
    let d = (goal.at.date_at-date-requires c).In-loop-number in
    omega (arith, (valid d).year_high, (valid d).month_high, start-here d, in-its-month d, month_most (y d) (m d))

pub day_agrees-requires-clause-number_value : goal.day_agrees-requires-clause-number_value
day_agrees-requires-clause-number_value c =
    let d = (goal.at.day_agrees-requires-clause-number_value c).In-loop-number in
    rw (dated (goal.at.day_agrees-requires-clause-number_value c).After-date_at-date)
    (sym (number_is d), before-is (goal.at.day_agrees-requires-clause-number_value c).After-day_number-before)

pub day_agrees-requires-clause-number_bound : goal.day_agrees-requires-clause-number_bound
unfolding iso_kinds range
day_agrees-requires-clause-number_bound c =
    let d = (goal.at.day_agrees-requires-clause-number_bound c).In-loop-number in
    (omega (arith, a-day d), c.any_said-iso.ensures)

pub loop-number-preserved : goal.loop-number-preserved
loop-number-preserved c =
    let d = (goal.at.loop-number-preserved c).In-loop-number in
    let e = tested (goal.at.loop-number-preserved c).After-day_agrees in
    elim c.if-day_agrees.branch [
      | then-day_agrees+else-is_two w ↦ rw (w.found-is, w.hit-found.ensures) (on-hit d (sym e ∙ w.if-day_agrees.true))
      | else-day_agrees w ↦ rw w.found-is (on-miss d (sym e ∙ w.if-day_agrees.false))
    ]

pub loop-month-preserved : goal.loop-month-preserved
loop-month-preserved c =
    let y = (goal.at.loop-month-preserved c).In-years in
    let m = (goal.at.loop-month-preserved c).In-loop-month in
    next_month _ _ c.requires _ _ (some_year y) (far-year y) (some_month m) (few-months m) _ _ c.loop-month.invariant.low
    c.loop-number.invariant
    (omega (arith, c.loop-number-test.false, ap (λ (x : Span). x.last) (span-is (goal.at.loop-month-preserved c).After-month_days-span)))

pub years-smaller : goal.years-smaller
years-smaller c = omega (arith, c.year_step-step.ensures, steps c.args.facts 0)

-- the year is done: on to the next that can agree
next : (c : After-loop-month) → AtYear c.args.facts c.args.horizon (c.years.year + c.year_step-step.result) c.loop-month.found
next c =
    rw c.year_step-step.ensures
    (next_year _ _ c.requires _ _ _ (some_year (goal.at.After-loop-month c).In-years) (c.years.invariant.low, c.years.invariant.stepped)
    c.loop-month.invariant
    (omega (arith, c.loop-month-test.false, ap (λ (x : Span). x.last) c.month_span-months.ensures)))

pub years-preserved : goal.years-preserved
years-preserved c = next (goal.at.years-preserved c).After-loop-month

pub returns : goal.returns
returns c =
    no_more_years _ _ c.requires _ _ c.years.invariant
    (omega (arith, c.years-test.false, ap (λ (x : Span). x.last) c.year_span-years.ensures))

pub returns-then-is_two : goal.returns-then-is_two
returns-then-is_two c =
    let d = (goal.at.returns-then-is_two c).In-loop-number in
    let h = on-hit d (sym (tested (goal.at.returns-then-is_two c).After-day_agrees) ∙ c.if-day_agrees.true) in
    upto_two _ _ _ _ (rw (← c.hit-found.ensures) at h.upto) (sym c.is_two.ensures ∙ c.if-is_two.true)

pub returns-else-months : goal.returns-else-months
returns-else-months c =
    no_more_years _ _ c.requires _ _ (next (goal.at.returns-else-months c).After-loop-month)
    (omega (arith, ap (λ (x : Span). x.last) c.year_span-years.ensures))

-- no month of the year can agree
skipped : (c : Then-months) → AtYear c.args.facts c.args.horizon (c.years.year + c.year_step-step.result) c.years.found
skipped c =
    let e = c.month_span-months.ensures in
    rw c.year_step-step.ensures
    (next_year _ _ c.requires _ _ _ (some_year (goal.at.Then-months c).In-years) (c.years.invariant.low, c.years.invariant.stepped)
    (first_month _ _ c.requires _ _ c.years.invariant)
    (omega (arith, c.if-months.true, ap (λ (x : Span). x.first) e, ap (λ (x : Span). x.last) e)))

pub years-smaller-then-months : goal.years-smaller-then-months
years-smaller-then-months c = omega (arith, c.year_step-step.ensures, steps c.args.facts 0)

pub years-preserved-then-months : goal.years-preserved-then-months
years-preserved-then-months c = skipped (goal.at.years-preserved-then-months c).Then-months

pub returns-then-months : goal.returns-then-months
returns-then-months c =
    no_more_years _ _ c.requires _ _ (skipped (goal.at.returns-then-months c).Then-months)
    (omega (arith, ap (λ (x : Span). x.last) c.year_span-years.ensures))
