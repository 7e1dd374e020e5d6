-- `judge::plain::scan_days` meets its contract. Assumes nothing.
use Prim.Native.Nat.{ℕ, ◌+◌, ◌≤◌}
use mathlib.Core.Bool.{Bool}
use mathlib.Core.Path.{◌≡◌, refl, sym, ap, ◌∙◌}
use native.Mathlib.Omega.{arith}
use Rattle.calendar.specs.Calendar.{date, month_length, days, date_of}
use Rattle.calendar.specs.declared.Date.{Date}
use Rattle.agreement.specs.Agreement.{date_agrees, day_agrees}
use Rattle.agreement.specs.Search.{is_two, through}
use Rattle.agreement.specs.declared.Facts.{Facts}
use Rattle.agreement.specs.declared.Found.{Found}
use Rattle.judge.specs.Private.{iso_kinds}
use Rattle.laws.specs.Lists.{range}
use Rattle.calendar.proofs.Dates.{Valid, number_within, date_of_number}
use Rattle.calendar.proofs.Months.{month_most}
use Rattle.calendar.proofs.Years.{days_is}
use Rattle.agreement.proofs.SoFar.{so_far_two}
use Rattle.agreement.proofs.Through.{through_all, through_second}
use Rattle.judge.proofs.Position.{AtDay, first_year_lem, first_month, first_day, valid_here}
use Rattle.judge.proofs.Position.{next_day_hit, next_day_miss, next_month, next_year, years_over, no_more_years}
use Rattle.judge.proofs.Budget.{over_budget_lem, within_budget}
use Rattle.judge.proofs.plain.scan_days.Goals as goal
use Rattle.judge.proofs.plain.scan_days.Goals.{then-day_agrees+else-is_two, else-day_agrees}

-- the day at hand: it is valid, its number is one of the calendar's, and its test is the agreement of that number
module _ (f : Facts) (y m d n : ℕ) (found : Found) (at-day : AtDay (day_agrees f) y m d n found) (in_month : d ≤ month_length y m) where
  short : d ≤ 31
  short = omega (arith, in_month, month_most y m)

  valid : Valid y m d
  valid = valid_here _ _ _ _ _ _ at-day in_month

  one_of : n ≤ days
  one_of = omega (arith, at-day.at, number_within _ _ _ valid)

  tested : {b : Bool} {t : Date} → b ≡ date_agrees f t → t ≡ date y m d → b ≡ day_agrees f n
  unfolding day_agrees
  tested e g = e ∙ ap (date_agrees f) (g ∙ sym (date_of_number _ _ _ valid) ∙ ap date_of (sym at-day.at))

pub years-init : goal.years-init
unfolding is_two
years-init c = (first_year_lem _, record { few = omega arith; open-yet = refl })

pub loop-month-init : goal.loop-month-init
loop-month-init c =
    let y = c.years.invariant in
    (first_month _ _ _ _ y.0 (omega arith), y.1)

pub overflow_add-day-end : goal.overflow_add-day-end
overflow_add-day-end c = omega (arith, c.month_length-day-end.ensures, month_most c.years.year c.loop-month.month)

pub loop-day-init : goal.loop-day-init
loop-day-init c =
    let m = c.loop-month.invariant in
    (first_day _ _ _ _ _ m.0 (omega arith), m.1)

pub returns-then-examined-budget : goal.returns-then-examined-budget
returns-then-examined-budget c =
    let i = c.loop-day.invariant in
    let e = c.if-examined-budget.true in
    let n = one_of _ _ _ _ _ _ i.0 (omega (arith, c.loop-day-test.true, c.month_length-day-end.ensures)) in
    over_budget_lem _ _ _ (rw e at i.0.so_far) i.1.open-yet (omega (arith, n))

pub date_at-requires : goal.date_at-requires
date_at-requires c =
    let i = c.loop-day.invariant in
    let n = short _ _ _ _ _ _ i.0 (omega (arith, c.loop-day-test.true, c.month_length-day-end.ensures)) in
    omega (arith, i.0.year_high, i.0.month_high, n)

pub day_agrees-requires-clause-number_bound : goal.day_agrees-requires-clause-number_bound
unfolding iso_kinds range
day_agrees-requires-clause-number_bound c =
    let n = one_of _ _ _ _ _ _ c.loop-day.invariant.0 (omega (arith, c.loop-day-test.true, c.month_length-day-end.ensures)) in
    (omega (arith, n, days_is), c.any_said-iso.ensures)

pub loop-day-preserved : goal.loop-day-preserved
loop-day-preserved c =
    let i = c.loop-day.invariant in
    let k : c.loop-day.day ≤ month_length c.years.year c.loop-month.month = omega
    (arith, c.loop-day-test.true, c.month_length-day-end.ensures) in
    let e = tested _ _ _ _ _ _ i.0 k c.day_agrees.ensures c.date_at.ensures in
    let l : c.loop-day.examined + 1 ≤ c.args.budget = omega (arith, i.1.few, c.if-examined-budget.false) in
    elim c.if-day_agrees.branch [
      | then-day_agrees+else-is_two w ↦ (
        rw (w.found-is, w.hit-found.ensures) (next_day_hit _ _ _ _ _ _ i.0 k (sym e ∙ w.if-day_agrees.true)),
        record { few = l; open-yet = rw w.found-is (sym w.is_two.ensures ∙ w.if-is_two.false) },
      )
      | else-day_agrees w ↦ (
        rw w.found-is (next_day_miss _ _ _ _ _ _ i.0 k (sym e ∙ w.if-day_agrees.false)),
        record { few = l; open-yet = rw w.found-is i.1.open-yet },
      )
    ]

pub loop-month-preserved : goal.loop-month-preserved
loop-month-preserved c =
    let i = c.loop-day.invariant in
    (next_month _ _ _ _ _ _ i.0 (omega (arith, c.loop-day-test.false, c.month_length-day-end.ensures)), i.1)

pub years-preserved : goal.years-preserved
years-preserved c =
    let i = c.loop-month.invariant in
    (next_year _ _ _ _ _ i.0 (omega arith), i.1)

pub returns-after-years : goal.returns-after-years
returns-after-years c =
    let i = c.years.invariant in
    let e = no_more_years _ _ _ _ i.0 (omega arith) in
    within_budget _ _ _ _ e (omega (arith, through_all days _ i.1.open-yet, years_over _ _ _ _ i.0 (omega arith))) i.1.few

pub returns-then-is_two : goal.returns-then-is_two
returns-then-is_two c =
    let i = c.loop-day.invariant in
    let k : c.loop-day.day ≤ month_length c.years.year c.loop-month.month = omega
    (arith, c.loop-day-test.true, c.month_length-day-end.ensures) in
    let h = next_day_hit _ _ _ _ _ _ i.0 k (sym (tested _ _ _ _ _ _ i.0 k c.day_agrees.ensures c.date_at.ensures) ∙ c.if-day_agrees.true) in
    let e = c.hit-found.ensures in
    let two = sym c.is_two.ensures ∙ c.if-is_two.true in
    within_budget _ _ _ _ (so_far_two _ 1 days _ _ (rw (← e) at h.so_far) two)
    (sym (ap (through days) e ∙ through_second days _ _ i.1.open-yet (rw e at two)))
    (omega (arith, i.1.few, c.if-examined-budget.false))
