-- `judge::counting::ending_days` meets its contract. Assumes nothing.
use native.Mathlib.Omega.{arith}
use Rattle.judge.proofs.Counts.{fewer_leap, ending_days_is, ending_days_most, leap_days_most}
use Rattle.judge.proofs.counting.ending_days.Goals as goal

pub overflow_sub-common : goal.overflow_sub-common
overflow_sub-common c =
    let a = c.args in
    rw (c.leap_ending_years-leap.ensures, c.ending_years.ensures, c.said-ending.ensures)
    (fewer_leap a.facts.now a.last)

pub overflow_mul-result : goal.overflow_mul-result
overflow_mul-result c =
    let a = c.args in
    let most = rw (
      ← c.said-ending.ensures,
      ← c.said-month.ensures,
      ← c.leap_ending_years-leap.ensures,
      ← c.said_days.ensures,
    ) at (leap_days_most a.facts.now a.last) in
    omega (arith, most)

pub returns : goal.returns
returns c =
    let a = c.args in
    rw (
      c.said_days-2.ensures,
      c.said_days.ensures,
      c.ending_years.ensures,
      c.leap_ending_years-leap.ensures,
      c.said-month.ensures,
      c.said-ending.ensures,
    )
    (ending_days_is a.facts.now a.last)

pub overflow_mul-result-2 : goal.overflow_mul-result-2
overflow_mul-result-2 c =
    let a = c.args in
    omega (arith, returns c, ending_days_most a.facts.now a.last)

pub overflow_add-result : goal.overflow_add-result
overflow_add-result c =
    let a = c.args in
    omega (arith, returns c, ending_days_most a.facts.now a.last)
