use Prim.Native.Nat.{ℕ, ◌+◌, ◌≤◌}
use mathlib.Core.Bool.{false}
use mathlib.Core.Path.{◌≡◌}
use Rattle.agreement.specs.Agreement.{day_agrees}
use Rattle.agreement.specs.Search.{is_two}
use Rattle.agreement.specs.declared.Found.{Found}
use Rattle.judge.proofs.Position.{AtYear, AtMonth, AtDay}
use Rattle.judge.proofs.plain.scan_days.Given as goal

-- the search goes on: within the budget, and without two
pub record Open (budget examined : ℕ) (found : Found) : Type 0 where
  pub few : examined ≤ budget
  pub open-yet : is_two found ≡ false

abbrev pub invariant-loop-day : goal.invariant-loop-day
invariant-loop-day l =
    AtDay (day_agrees l.facts) l.year l.month l.day (l.examined + 1) l.found × Open l.budget l.examined l.found

abbrev pub invariant-loop-month : goal.invariant-loop-month
invariant-loop-month l =
    AtMonth (day_agrees l.facts) l.year l.month (l.examined + 1) l.found × Open l.budget l.examined l.found

abbrev pub invariant-years : goal.invariant-years
invariant-years l =
    AtYear (day_agrees l.facts) l.year (l.examined + 1) l.found × Open l.budget l.examined l.found
