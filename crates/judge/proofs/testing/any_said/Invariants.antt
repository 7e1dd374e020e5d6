use Rattle.std.proofs.Common.{◌≡◌, ◌+◌, ◌-◌}
use Rattle.agreement.specs.Agreement.{none_said}
use Rattle.laws.specs.Lists.{range}
use Rattle.judge.proofs.testing.any_said.Given as goal

abbrev pub invariant-loop-kind : goal.invariant-loop-kind
invariant-loop-kind l = none_said l.facts (range l.kind (l.to + 1 - l.kind)) ≡ none_said l.facts (range l.from (l.to + 1 - l.from))
