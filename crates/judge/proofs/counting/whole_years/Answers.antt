-- `judge::counting::whole_years` meets its contract. Assumes nothing.
use Prim.Native.Nat.{◌+◌, ◌-◌, min}
use mathlib.Core.Path.{◌≡◌, sym, ap}
use native.Mathlib.Omega.{arith}
use Rattle.calendar.specs.Calendar.{last_year}
use Rattle.judge.specs.Private.{ending_days, said_years, whole_years}
use Rattle.judge.specs.declared.spans.Span.{Span}
use Rattle.judge.proofs.CountedYears.{whole_none, whole_some}
use Rattle.judge.proofs.SpanLaws.{said_years_low}
use Rattle.judge.proofs.counting.whole_years.Goals as goal
use Rattle.judge.proofs.counting.whole_years.Goals.{After-ending_days-2, After-said_years-span}

first-is : (c : After-said_years-span) → c.said_years-span.result.first ≡ (said_years c.args.facts.now last_year).first
first-is c = ap (λ (x : Span). x.first) c.said_years-span.ensures

last-is : (c : After-said_years-span) → c.said_years-span.result.last ≡ (said_years c.args.facts.now last_year).last
last-is c = ap (λ (x : Span). x.last) c.said_years-span.ensures

-- what is taken away is the days before the span
left_over : (c : After-ending_days-2)
    → whole_years c.args.facts.now c.args.last + c.ending_days-2.result ≡ c.ending_days.result
left_over c =
    let a = c.args in
    let span = said_years a.facts.now last_year in
    let start : c.said_years-span.result.first - 1 ≡ span.first - 1 =
    omega (arith, first-is (goal.at.After-ending_days-2 c).After-said_years-span) in
    let end : c.min-end.result ≡ min a.last span.last
    = omega (arith, c.min-end.ensures, last-is (goal.at.After-ending_days-2 c).After-said_years-span) in
    omega (
      arith,
      c.ending_days-2.ensures,
      c.ending_days.ensures,
      ap (ending_days a.facts.now) start,
      ap (ending_days a.facts.now) end,
      whole_some a.facts.now a.last c.requires
          (omega (arith, c.if-end-span.false, first-is (goal.at.After-ending_days-2 c).After-said_years-span)),
    )

pub returns-then-end-span : goal.returns-then-end-span
returns-then-end-span c =
    let a = c.args in
    let e = c.min-end.ensures in
    sym (whole_none a.facts.now a.last c.requires
    (omega (
      arith,
      e,
      first-is (goal.at.returns-then-end-span c).After-said_years-span,
      last-is
          (goal.at.returns-then-end-span c).After-said_years-span,
    )))

pub overflow_sub-span : goal.overflow_sub-span
overflow_sub-span c =
    omega (arith, first-is (goal.at.overflow_sub-span c).After-said_years-span, said_years_low c.args.facts.now last_year)

pub overflow_sub-result : goal.overflow_sub-result
overflow_sub-result c = omega (arith, left_over c)

pub returns : goal.returns
returns c = omega (arith, left_over c)
