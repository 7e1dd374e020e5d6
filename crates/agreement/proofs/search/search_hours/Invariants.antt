use Rattle.agreement.specs.Agreement.{hour_agrees}
use Rattle.agreement.proofs.SoFar.{SoFar}
use Rattle.agreement.proofs.search.search_hours.Given as goal

abbrev pub invariant-loop-hour : goal.invariant-loop-hour
invariant-loop-hour l = SoFar (hour_agrees l.facts) 0 24 l.hour l.found
