-- `judge::counting::date_through` meets its contract. Assumes nothing.
use mathlib.Core.Bool.{true, false}
use mathlib.Core.Path.{◌≡◌, sym, ◌∙◌}
use native.Mathlib.Omega.{arith}
use borrow.Author.Tests.{not-true, not-false}
use Rattle.calendar.proofs.Dates.{Valid, no_fault_valid, number_within}
use Rattle.calendar.proofs.Years.{days_is}
use Rattle.values.specs.Values.{day_number_of}
use Rattle.judge.specs.Private.{year_agrees}
use Rattle.judge.proofs.CountedDays.{date_through, month_days_most, year_kinds}
use Rattle.judge.proofs.counting.date_through.Goals as goal
use Rattle.judge.proofs.counting.date_through.Goals.{After-date_kinds_agree, Start}

valid : (s : Start) → Valid s.args.date.year s.args.date.month s.args.date.day
valid s = no_fault_valid _ _ _ s.requires

tested : (c : After-date_kinds_agree)
    → c.date_kinds_agree.result ≡ year_agrees c.args.facts.now c.args.date.year
tested c = c.date_kinds_agree.ensures ∙ year_kinds _ _

pub overflow_sub-date : goal.overflow_sub-date
overflow_sub-date c = omega (arith, (valid (goal.at.overflow_sub-date c).Start).year_low)

pub whole_years-years-requires : goal.whole_years-years-requires
whole_years-years-requires c = omega (arith, (valid (goal.at.whole_years-years-requires c).Start).year_high)

pub returns-then-not-date_kinds_agree : goal.returns-then-not-date_kinds_agree
returns-then-not-date_kinds_agree c =
    let other : year_agrees c.args.facts.now c.args.date.year ≡ false =
    sym (tested (goal.at.returns-then-not-date_kinds_agree c).After-date_kinds_agree) ∙ not-true _ c.if-not-date_kinds_agree.true-raw in
    omega (
      arith,
      c.whole_years-years.ensures,
      rw other at
          (date_through c.args.facts.now _ _ _ (valid (goal.at.returns-then-not-date_kinds_agree c).Start)),
    )

pub returns : goal.returns
returns c =
    let same : year_agrees c.args.facts.now c.args.date.year ≡ true
    = sym (tested (goal.at.returns c).After-date_kinds_agree) ∙ not-false _ c.if-not-date_kinds_agree.false-raw in
    omega (
      arith,
      c.whole_years-years.ensures,
      rw c.said.ensures at c.in_year.ensures,
      rw same at (date_through c.args.facts.now _ _ _ (valid (goal.at.returns c).Start)),
    )

pub overflow_add-result : goal.overflow_add-result
overflow_add-result c =
    omega (
      arith,
      returns c,
      month_days_most c.args.facts.now (day_number_of c.args.date),
      number_within _ _ _
          (valid (goal.at.overflow_add-result c).Start),
      days_is,
    )
