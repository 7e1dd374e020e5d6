use Rattle.judge.proofs.SkippingMoves.{AtYear, AtMonth, AtDay}
use Rattle.judge.proofs.skipping.search_years.Given as goal

abbrev pub invariant-loop-number : goal.invariant-loop-number
invariant-loop-number l =
    AtDay l.facts l.horizon l.year l.month l.number l.found

abbrev pub invariant-loop-month : goal.invariant-loop-month
invariant-loop-month l =
    AtMonth l.facts l.horizon l.year l.month l.found

abbrev pub invariant-years : goal.invariant-years
invariant-years l = AtYear l.facts l.horizon l.year l.found
